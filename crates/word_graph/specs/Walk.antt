-- Walks over the nodes of a graph in the order of their least words, and the least word without a
-- path.
use Rattle.std.specs.Prelude.{◌≡◌, ℕ, ◌+◌, ◌<◌, ◌≤◌, List, [], ◌∷◌, ◌++◌, ◌⊎◌, length, slice_index_or, All, Option, Some, None, option_and_then}
use Rattle.theory.specs.Word.{Word, IsOver}
use Rattle.theory.specs.ShortLex.{◌≺◌}
use Rattle.theory.specs.Felsch.{IsLeastUndefined}
use Rattle.theory.specs.Graph.{Graph, target, path, SameEnd}

-- u comes before v, or is v
abbrev pub NoLater : Word → Word → Type 0
NoLater u v = (u ≺ v) ⊎ (u ≡ v)

-- the row p and letter b come before the row i and letter a
abbrev pub IsBefore : ℕ → ℕ → ℕ → ℕ → Type 0
IsBefore p b i a = (p < i) ⊎ ((p ≡ i) × (b < a))

-- what a walk has found: at each place a node, the place and letter by which it was found, and a
-- word that leads to it; and each node's place
pub record Walked : Type 0 where
  pub count : ℕ
  pub node : ℕ → ℕ
  pub parent : ℕ → ℕ
  pub letter : ℕ → ℕ
  pub word : ℕ → Word
  pub place : ℕ → Option ℕ

-- the places are a tree: the first is the root, each other goes on from one before by a letter, and
-- its word leads to its node, whose place it is
pub record IsTree (k : ℕ) (g : Graph) (w : Walked) : Type 0 where
  pub root : w.word 0 ≡ []
  pub root_place : w.place 0 ≡ Some 0
  pub leads : (j : ℕ) → j < w.count → path g 0 (w.word j) ≡ Some (w.node j)
  pub over : (j : ℕ) → j < w.count → IsOver k (w.word j)
  pub made : (j : ℕ) → 0 < j → j < w.count
      → (w.parent j < j) × (w.letter j < k) × (w.word j ≡ w.word (w.parent j) ++ w.letter j ∷ [])
  pub placed : (m j : ℕ) → w.place m ≡ Some j → (j < w.count) × (w.node j ≡ m)
  pub back : (j : ℕ) → j < w.count → w.place (w.node j) ≡ Some j

-- all is found that edges lead to from the rows of places before i, and in the row of i by letters
-- before a
pub record IsWalkTo (k : ℕ) (g : Graph) (w : Walked) (i a : ℕ) : Type 0 where
  pub some : 0 < w.count
  pub root : w.word 0 ≡ []
  pub root_place : w.place 0 ≡ Some 0
  pub leads : (j : ℕ) → j < w.count → path g 0 (w.word j) ≡ Some (w.node j)
  pub over : (j : ℕ) → j < w.count → IsOver k (w.word j)
  pub ascending : (j l : ℕ) → j < l → l < w.count → w.word j ≺ w.word l
  pub made : (j : ℕ)
      → 0 < j → j < w.count
      → IsBefore (w.parent j) (w.letter j) i a × (w.parent j < j) × (w.letter j < k)
      × (w.word j ≡ w.word (w.parent j) ++ w.letter j ∷ [])
  pub placed : (m j : ℕ) → w.place m ≡ Some j → (j < w.count) × (w.node j ≡ m)
  pub back : (j : ℕ) → j < w.count → w.place (w.node j) ≡ Some j
  pub found : (p b m : ℕ)
      → p < w.count → IsBefore p b i a → target g (w.node p) b ≡ Some m
      → (j : ℕ) × (w.place m ≡ Some j) × NoLater (w.word j) (w.word p ++ b ∷ [])

-- all is found
abbrev pub IsWalk : ℕ → Graph → Walked → Type 0
IsWalk k g w = IsWalkTo k g w w.count 0

-- x is v with one place more: the node, found from the place i by the letter a
pub record IsFound (w x : Walked) (i a node : ℕ) : Type 0 where
  pub count : x.count ≡ w.count + 1
  pub node_is : x.node w.count ≡ node
  pub parent_is : x.parent w.count ≡ i
  pub letter_is : x.letter w.count ≡ a
  pub word_is : x.word w.count ≡ w.word i ++ a ∷ []
  pub place_is : x.place node ≡ Some w.count
  pub nodes : (j : ℕ) → j < w.count → x.node j ≡ w.node j
  pub parents : (j : ℕ) → j < w.count → x.parent j ≡ w.parent j
  pub letters : (j : ℕ) → j < w.count → x.letter j ≡ w.letter j
  pub words : (j : ℕ) → j < w.count → x.word j ≡ w.word j
  pub places : (m : ℕ) → (m ≡ node → ⊥) → x.place m ≡ w.place m

-- the least word over k letters without a path is one that leads to the node, and the letter
pub record IsFirstMissing (k : ℕ) (g : Graph) (node letter : ℕ) : Type 0 where
  pub word : Word
  pub leads : path g 0 word ≡ Some node
  pub least : IsLeastUndefined k (SameEnd g) (word ++ letter ∷ [])

-- h is g with the places of a walk for its nodes
pub record IsRenumbering (g : Graph) (w : Walked) (h : Graph) : Type 0 where
  pub count : length h ≡ w.count
  pub edges : (p b : ℕ) → p < w.count
      → target h p b ≡ option_and_then w.place (target g (w.node p) b)
  pub past : (p b : ℕ) → w.count ≤ p → target h p b ≡ None

-- the word leads to the node, and no word that does comes before it
pub record IsLeastWord (g : Graph) (node : ℕ) (word : Word) : Type 0 where
  pub leads : path g 0 word ≡ Some node
  pub least : (v : Word) → path g 0 v ≡ Some node → NoLater word v

-- the nodes that are reached, in ascending order, each with its least word
pub record AreLeastWords (g : Graph) (list : List (ℕ × Word)) : Type 0 where
  pub ascending : (i j : ℕ) (d : ℕ × Word) → i < j → j < length list
      → (slice_index_or list i d).0 < (slice_index_or list j d).0
  pub least : All (λ p. IsLeastWord g p.0 p.1) list
  pub all : (node : ℕ) (v : Word) → path g 0 v ≡ Some node
      → (i : ℕ) × (i < length list) × ((d : ℕ × Word) → (slice_index_or list i d).0 ≡ node)
