-- Tables as lists of targets, row after row, and the front parts of such lists.
use Rattle.std.specs.Prelude.{◌≡◌, ℕ, suc, ◌+◌, ◌*◌, ◌<◌, ◌≤◌, cond, Bool, List, [], ◌∷◌, ◌++◌, length, take, slice_get, All, Contains, Option, Some, None, option_and_then}
use Rattle.theory.specs.Word.{Word}
use Rattle.theory.specs.Congruence.{Presentation}
use Rattle.theory.specs.LowIndex.{Rows, IsNumberedFrom}
use Rattle.word_graph.specs.Numbered.{max_from}
use Rattle.word_graph.specs.Table.{cut}

-- how many nodes have been seen: the root, and all up to the greatest target
abbrev pub seen : List ℕ → ℕ
seen targets = suc (max_from 0 targets)

-- the rows of k targets each
abbrev pub table_of : ℕ → List ℕ → Rows
table_of k targets = cut k (seen targets) targets

-- the table of these targets; none where there is no target
abbrev pub cursor_of : ℕ → List ℕ → Option Rows
cursor_of k [] = None
cursor_of k (n ∷ ns) = Some (table_of k (n ∷ ns))

-- the most nodes of a table of at most n classes: in a semigroup the root is no class
abbrev pub most_nodes : Bool → ℕ → ℕ
most_nodes is_monoid n = cond is_monoid n (suc n)

-- the least target: in a semigroup no edge leads to the root
abbrev pub least_target : Bool → ℕ
least_target is_monoid = cond is_monoid 0 1

-- where the word leads from the node by the first targets
abbrev pub path_in : ℕ → List ℕ → ℕ → Word → Option ℕ
path_in k targets node [] = Some node
path_in k targets node (a ∷ u) = option_and_then (λ next. path_in k targets next u)
    (slice_get targets (node * k + a))

-- both words lead to one node, unless a target is wanting
abbrev pub Agree : ℕ → List ℕ → ℕ → Word → Word → Type 0
Agree k targets node r s = (m n : ℕ) → path_in k targets node r ≡ Some m
    → path_in k targets node s ≡ Some n → m ≡ n

-- the relations hold at the nodes seen, as far as targets are there
abbrev pub IsSound : Presentation → List ℕ → Type 0
IsSound p targets = (node : ℕ) (r s : Word) → node < seen targets → Contains p.relations (r, s)
    → Agree p.letters targets node r s

-- the front part of the targets of a standard table: each at most one more than those before, and
-- each in the row of a node seen before
pub record IsFront (k : ℕ) (targets : List ℕ) : Type 0 where
  pub numbered : IsNumberedFrom 0 targets
  pub goes_on : (j : ℕ) → j < length targets → j < k * seen (take j targets)
  pub fits : length targets ≤ k * seen targets

-- each target is one that a table of at most n classes may have
abbrev pub AreAllowed : Presentation → ℕ → List ℕ → Type 0
AreAllowed p n = All (λ m. (least_target p.is_monoid ≤ m) × (m < most_nodes p.is_monoid n))

-- the targets of a table of at most n classes at which the relations hold
pub record IsTable (p : Presentation) (n : ℕ) (targets : List ℕ) : Type 0 where
  pub front : IsFront p.letters targets
  pub allowed : AreAllowed p n targets
  pub full : length targets ≡ p.letters * seen targets
  pub sound : IsSound p targets

-- u goes on behind t
pub record IsWithin (t u : List ℕ) : Type 0 where
  pub rest : List ℕ
  pub is : u ≡ t ++ rest

-- u goes on behind t with a target that is not below the first
pub record IsBeyond (t : List ℕ) (first : ℕ) (u : List ℕ) : Type 0 where
  pub target : ℕ
  pub rest : List ℕ
  pub is : u ≡ t ++ target ∷ rest
  pub from : first ≤ target
