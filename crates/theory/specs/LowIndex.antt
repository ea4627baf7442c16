-- Standard tables and right congruences of low index (Sims 1994, ch. 5; libsemigroups: Sims1).
use Rattle.std.specs.Prelude.{◌≡◌, ◌≢◌, ℕ, suc, ◌<◌, ◌≤◌, Bool, true, false, List, [], ◌∷◌, length, map, flat_map, max, Some, Contains, All}
use Rattle.std.specs.Ordering.{nat_cmp}
use Rattle.std.specs.declared.cmp.Ordering.TheVariants.{Less}
use Rattle.std.specs.Cmp.Lexicographic.{slice_cmp}
use Rattle.theory.specs.Word.{Word}
use Rattle.theory.specs.Congruence.{Presentation}
use Rattle.theory.specs.Graph.{Graph, path, target}

-- a complete graph: a row of targets for each node
abbrev pub Rows : Type 0
Rows = List (List ℕ)

-- the rows as a graph
abbrev pub graph_of : Rows → Graph
graph_of = map (map Some)

-- the rows written one after another
abbrev pub entries : Rows → List ℕ
entries = flat_map (λ row. row)

-- each entry is at most one more than the greatest node seen so far
abbrev pub IsNumberedFrom : ℕ → List ℕ → Type 0
IsNumberedFrom seen [] = Unit {0}
IsNumberedFrom seen (n ∷ ns) = (n ≤ suc seen) × IsNumberedFrom (max seen n) ns

-- complete, and numbered by first appearance when the rows are read in order
pub record IsStandard (k : ℕ) (rows : Rows) : Type 0 where
  pub rooted : 0 < length rows
  pub width : All (λ row. length row ≡ k) rows
  pub nodes : All (λ n. n < length rows) (entries rows)
  pub numbered : IsNumberedFrom 0 (entries rows)
  pub appears : (node : ℕ)
      → 0 < node → node < length rows
      → (before letter : ℕ) × (before < node) × (target (graph_of rows) before letter ≡ Some node)

-- both sides of each relation lead from each node to one node
abbrev pub IsCompatible : Presentation → Rows → Type 0
IsCompatible p rows = (node : ℕ) (r s : Word)
    → node < length rows → Contains p.relations (r, s)
    → path (graph_of rows) node r ≡ path (graph_of rows) node s

-- at most n classes: in a semigroup the root is no class, and has no edge into it
abbrev pub HasAtMostClasses : Bool → ℕ → Rows → Type 0
HasAtMostClasses true n rows = length rows ≤ n
HasAtMostClasses false n rows = (length rows ≤ suc n) × All (λ m. m ≢ 0) (entries rows)

-- a standard table of at most n classes at which the relations hold
pub record IsLowIndex (p : Presentation) (n : ℕ) (rows : Rows) : Type 0 where
  pub standard : IsStandard p.letters rows
  pub compatible : IsCompatible p rows
  pub size : HasAtMostClasses p.is_monoid n rows

-- the entries come before in the order of dictionaries
abbrev pub TableLess : Rows → Rows → Type 0
TableLess s t = slice_cmp nat_cmp (entries s) (entries t) ≡ Less
