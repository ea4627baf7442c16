-- Images of nodes under multiplication by a letter in front.
use Rattle.std.specs.Prelude.{◌≡◌, ℕ, ◌<◌, List, [], ◌∷◌, ◌++◌, length, slice_index_or, Option, Some, None, option_and_then, unwrap_or}
use Rattle.theory.specs.Word.{Word}
use Rattle.theory.specs.Graph.{Graph, target, path}
use Rattle.word_graph.specs.Renumber.{renumber}
use Rattle.word_graph.specs.Steps.{step_at}
use Rattle.word_graph.specs.declared.walks.Step.{Step}

-- the image of each node of the first steps is where its word with the letter in front leads
pub record AreImagesTo (g : Graph) (steps : List Step) (word : ℕ → Word) (first : ℕ)
    (images : List (Option ℕ)) (count : ℕ) : Type 0 where
  pub shape : length images ≡ length g
  pub image : (j : ℕ) → j < count
      → slice_index_or images (step_at steps j).node None ≡ path g 0 (first ∷ word j)

-- of all steps
abbrev pub AreImages : Graph → List Step → (ℕ → Word) → ℕ → List (Option ℕ) → Type 0
AreImages g steps word first images = AreImagesTo g steps word first images (length steps)

-- from the image of the node the letter leads to the image of the node's target
abbrev pub KeepsEdge : Graph → List (Option ℕ) → ℕ → ℕ → Type 0
KeepsEdge g images node letter =
    option_and_then (λ image. target g image letter) (slice_index_or images node None)
    ≡ renumber images (target g node letter)

-- for each letter
abbrev pub KeepsRow : ℕ → Graph → List (Option ℕ) → ℕ → Type 0
KeepsRow k g images node = (letter : ℕ) → letter < k → KeepsEdge g images node letter

-- and each node
abbrev pub KeepsEdges : ℕ → Graph → List (Option ℕ) → Type 0
KeepsEdges k g images = (node : ℕ) → node < length g → KeepsRow k g images node

-- the word by which a node was found
abbrev pub word_of : List (Option ℕ) → (ℕ → Word) → ℕ → Word
word_of places word node = word (unwrap_or (slice_index_or places node None) 0)

-- with the letter in front, a node's word and a letter lead where the word of its target leads
abbrev pub AgreesBehind : ℕ → Graph → (ℕ → Word) → ℕ → Type 0
AgreesBehind k g word first = (node letter next : ℕ)
    → node < length g → letter < k → target g node letter ≡ Some next
    → path g 0 (first ∷ (word node ++ letter ∷ [])) ≡ path g 0 (first ∷ word next)
