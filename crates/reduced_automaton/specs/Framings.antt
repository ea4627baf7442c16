-- The words of a frame as paths, and what is found out about them once.
use Rattle.std.specs.Prelude.{◌≡◌, ◌↔◌, ℕ, suc, ◌<◌, ◌≤◌, ◌⊎◌, Bool, true, false, List, [], ◌∷◌, length, map, slice_index_or, Option, Some, None}
use Rattle.std.specs.Option.{is_some}
use Rattle.theory.specs.Word.{Word}
use Rattle.theory.specs.Graph.{Graph, path, target}
use Rattle.reduced_automaton.specs.Paths.{GoesFar, GoesOn, HasPath, IsLeastPath, Paths, narrowed}
use Rattle.rewriting.specs.Tables.{edges}
use Rattle.reduced_automaton.specs.declared.frames.Frame.{Frame}
use Rattle.reduced_automaton.specs.declared.frames.Scope.{Scope}
use Rattle.reduced_automaton.specs.declared.framings.Framing.{Framing}

-- the paths by the first letters to where the suffix can be read
abbrev pub frame_paths : Graph → Frame → Paths
frame_paths g frame = record {
  letters = frame.letters;
  graph = narrowed frame.letters g;
  is_end = λ node. is_some (path g node frame.suffix);
}

-- the word is such a path from where the prefix leads
pub record IsPathIn (g : Graph) (frame : Frame) (w : Word) : Type 0 where
  pub start : ℕ
  pub is : path g 0 frame.prefix ≡ Some start
  pub has : HasPath (frame_paths g frame) start w

-- the node is marked
abbrev pub IsMarked : List Bool → ℕ → Type 0
IsMarked marks node = slice_index_or marks node false ≡ true

-- of so many nodes just those are marked that have the property
pub record AreMarks (P : ℕ → Type 0) (count : ℕ) (marks : List Bool) : Type 0 where
  pub long : length marks ≡ count
  pub at : (node : ℕ) → node < count → IsMarked marks node ↔ P node

-- an edge leads from the node to a marked one
pub record LeadsTo (g : Graph) (marks : List Bool) (node : ℕ) : Type 0 where
  pub letter : ℕ
  pub next : ℕ
  pub is : target g node letter ≡ Some next
  pub marked : IsMarked marks next

-- the node is marked, or an edge leads from it to a node that the other marks have
abbrev pub IsGrown : Graph → List Bool → List Bool → ℕ → Type 0
IsGrown g ends marks node = IsMarked ends node ⊎ LeadsTo g marks node

-- how many nodes are marked
abbrev pub count_marked : List Bool → ℕ
count_marked [] = 0
count_marked (true ∷ marks) = suc (count_marked marks)
count_marked (false ∷ marks) = count_marked marks

-- so many letters lead from the node to an end, or more, just where the number is below the limit;
-- without a limit any number of them does
abbrev pub IsUnder : Option ℕ → ℕ → Type 0
IsUnder None n = Unit {0}
IsUnder (Some limit) n = n < limit

abbrev pub IsLimit : Paths → ℕ → Option ℕ → Type 0
IsLimit p node limit = (n : ℕ) → GoesFar p node n ↔ IsUnder limit n

-- where any word leads from a node to an end, one with fewer letters than the spread does
abbrev pub IsSpread : Paths → ℕ → Type 0
IsSpread p spread = (node n : ℕ) → node < length p.graph → GoesOn p node n
    → (m : ℕ) × (m < spread) × GoesOn p node m

-- layer n has the nodes from which words of just n letters lead to an end
pub record AreLayers (p : Paths) (layers : List (List Bool)) : Type 0 where
  pub some : 0 < length layers
  pub at : (n : ℕ) → n < length layers
      → AreMarks (λ node. GoesOn p node n) (length p.graph) (slice_index_or layers n [])

-- n is the least number, from the first on, of letters that lead from the node to an end
pub record IsNextLength (p : Paths) (node first n : ℕ) : Type 0 where
  pub from : first ≤ n
  pub goes : GoesOn p node n
  pub least : (m : ℕ) → first ≤ m → m < n → GoesOn p node m → ⊥

-- w is the least word of this length
pub record IsLeastFrom (p : Paths) (node first : ℕ) (w : Word) : Type 0 where
  pub length : ℕ
  pub next : IsNextLength p node first length
  pub least : IsLeastPath p node length w

-- the paths of a scope
abbrev pub paths_in : Scope → Paths
paths_in scope = frame_paths (edges scope.graph.now) scope.frame.now

-- what is found once for the frame in the graph of so many letters
pub record IsFraming (k : ℕ) (g : Graph) (frame : Frame) (f : Framing) : Type 0 where
  pub few : frame.letters ≤ k
  pub start : f.start ≡ path g 0 frame.prefix
  pub limit : (node : ℕ) → f.start ≡ Some node → IsLimit (frame_paths g frame) node f.limit
  pub none : f.start ≡ None → f.limit ≡ Some 0
  pub spread : IsSpread (frame_paths g frame) f.spread
  pub layers : AreLayers (frame_paths g frame) (map (λ v. v.items) f.layers.items)

-- what is found once for a scope
abbrev pub IsFramingIn : Scope → Framing → Type 0
IsFramingIn scope f =
    IsFraming scope.graph.now.letters (edges scope.graph.now) scope.frame.now f
