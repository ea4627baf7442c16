-- What a search among the tables that go on behind a list of targets finds.
use Rattle.std.specs.Prelude.{◌≡◌, ℕ, ◌*◌, ◌<◌, List, [], length, ◌⊎◌, Bool, Option, Some}
use Rattle.std.specs.Ordering.{nat_cmp}
use Rattle.std.specs.declared.cmp.Ordering.TheVariants.{Less}
use Rattle.std.specs.Cmp.Lexicographic.{slice_cmp}
use Rattle.theory.specs.Congruence.{Presentation}
use Rattle.theory.specs.Listing.{IsNext}
use Rattle.theory.specs.Graph.{Graph}
use Rattle.theory.specs.LowIndex.{Rows, graph_of, IsLowIndex, TableLess}
use Rattle.sims_one.specs.declared.branch.Levels.{Levels}
use Rattle.sims_one.specs.Known.{IsBranch}
use Rattle.sims_one.specs.Targets.{IsTable, IsFront, IsWithin, IsBeyond, seen, cursor_of}

-- the targets come before in the order of dictionaries
abbrev pub Before : List ℕ → List ℕ → Type 0
Before t u = slice_cmp nat_cmp t u ≡ Less

-- the least table that goes on behind t
pub record IsLeastWithin (p : Presentation) (n : ℕ) (t found : List ℕ) : Type 0 where
  pub table : IsTable p n found
  pub within : IsWithin t found
  pub least : (u : List ℕ) → IsTable p n u → IsWithin t u → Before u found → ⊥

-- no table goes on behind t
abbrev pub NoneWithin : Presentation → ℕ → List ℕ → Type 0
NoneWithin p n t = (u : List ℕ) → IsTable p n u → IsWithin t u → ⊥

-- the least table that goes on behind t with a target that is not below the first
pub record IsLeastBeyond (p : Presentation) (n : ℕ) (t : List ℕ) (first : ℕ)
    (found : List ℕ) : Type 0 where
  pub table : IsTable p n found
  pub beyond : IsBeyond t first found
  pub least : (u : List ℕ) → IsTable p n u → IsBeyond t first u → Before u found → ⊥

-- no table goes on behind t with a target that is not below the first
abbrev pub NoneBeyond : Presentation → ℕ → List ℕ → ℕ → Type 0
NoneBeyond p n t first = (u : List ℕ) → IsTable p n u → IsBeyond t first u → ⊥

-- the least table after the cursor
pub record IsLeastAfter (p : Presentation) (n : ℕ) (cursor found : List ℕ) : Type 0 where
  pub table : IsTable p n found
  pub after : Before cursor found
  pub least : (u : List ℕ) → IsTable p n u → Before cursor u → Before u found → ⊥

-- no table comes after the cursor
abbrev pub NoneAfter : Presentation → ℕ → List ℕ → Type 0
NoneAfter p n cursor = (u : List ℕ) → IsTable p n u → Before cursor u → ⊥

-- no table after the cursor goes on behind t
abbrev pub NoneFrom : Presentation → ℕ → List ℕ → List ℕ → Type 0
NoneFrom p n cursor t = (u : List ℕ) → IsTable p n u → IsWithin t u → Before cursor u → ⊥

-- the targets of a standard table, or none
pub record IsCursor (k : ℕ) (targets : List ℕ) : Type 0 where
  pub front : IsFront k targets
  pub full : (targets ≡ []) ⊎ (length targets ≡ k * seen targets)

-- the branch of the least table after the cursor
pub record IsFoundBranch (p : Presentation) (n : ℕ) (cursor targets : List ℕ)
    (levels : Levels) : Type 0 where
  pub least : IsLeastAfter p n cursor targets
  pub branch : IsBranch p n targets levels

-- a search for the tables of at most so many classes, and the last table found, or the cursor
pub record Search : Type 0 where
  pub presentation : Presentation
  pub classes : ℕ
  pub after : Option Rows
  pub failed : Bool

-- the next table as a graph, its targets, and what is known on its branch
pub record IsFound (s : Search) (targets : List ℕ) (levels : Levels) (g : Graph) : Type 0 where
  pub rows : Rows
  pub is : g ≡ graph_of rows
  pub next : IsNext (IsLowIndex s.presentation s.classes) TableLess s.after rows
  pub cursor : IsCursor s.presentation.letters targets
  pub after : cursor_of s.presentation.letters targets ≡ Some rows
  pub branch : IsBranch s.presentation s.classes targets levels
  pub some : 0 < length targets

-- the next table as a graph
pub record IsNextGraph (p : Presentation) (n : ℕ) (after : Option Rows) (g : Graph)
    (rows : Rows) : Type 0 where
  pub is : g ≡ graph_of rows
  pub next : IsNext (IsLowIndex p n) TableLess after rows
