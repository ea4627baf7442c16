-- What a page of tables asks for.
use Rattle.std.specs.Prelude.{◌≡◌, ℕ, zero, suc, ◌≤◌, ◌⊎◌, Bool, true, List, [], ◌∷◌, ◌++◌, take, Option, Some}
use Rattle.theory.specs.Congruence.{Presentation}
use Rattle.theory.specs.Listing.{IsNext, IsLast}
use Rattle.theory.specs.LowIndex.{graph_of}
use Rattle.theory.specs.TwoSidedTable.{IsTwoSidedTable}
use Rattle.sims_one.specs.Targets.{table_of, IsTable, IsWithin}
use Rattle.sims_one.specs.Known.{IsBranch}
use Rattle.sims_one.specs.declared.branch.Levels.{Levels}
use Rattle.sims_one.specs.declared.request.Request.{Request}
use Rattle.sims_one.specs.Search.{Before, IsCursor}

-- the first n that have the property and are greater than the cursor, in order; all of them where
-- they are fewer
abbrev pub AreFirst : {A : Type 0} → (A → Type 0) → (A → A → Type 0) → Option A → ℕ → List A
    → Type 0
AreFirst P Less cursor zero [] = Unit {0}
AreFirst P Less cursor (suc n) [] = IsLast P Less cursor
AreFirst P Less cursor zero (x ∷ xs) = ⊥
AreFirst P Less cursor (suc n) (x ∷ xs) = IsNext P Less cursor x
    × AreFirst P Less (Some x) n xs

-- what is asked for: tables of at most so many classes, or two-sided ones alone, after a cursor
pub record Asked : Type 0 where
  pub presentation : Presentation
  pub classes : ℕ
  pub two_sided : Bool
  pub cursor : List ℕ
  pub count : ℕ

-- what the request is for
abbrev pub asked : Request → Asked
asked r = record {
  presentation = r.presentation.now.presentation;
  classes = r.classes;
  two_sided = r.two_sided;
  cursor = r.cursor.now;
  count = r.count;
}

-- what is asked for can be searched for
pub record IsAsked (a : Asked) : Type 0 where
  pub few : a.classes ≤ 16
  pub cursor : IsCursor a.presentation.letters a.cursor

-- a table that is asked for, before or after the cursor
pub record IsWanted (a : Asked) (u : List ℕ) : Type 0 where
  pub table : IsTable a.presentation a.classes u
  pub two_sided : a.two_sided ≡ true
      → IsTwoSidedTable (graph_of (table_of a.presentation.letters u))

-- a table that is asked for and goes on behind the front part
abbrev pub IsWantedWithin : Asked → List ℕ → List ℕ → Type 0
IsWantedWithin a front u = IsWanted a u × IsWithin front u

-- the tables are us now: the table is added where it is asked for
abbrev pub AddsWanted : Asked → List ℕ → List (List ℕ) → List (List ℕ) → Type 0
AddsWanted a t ts us = (IsWanted a t × (us ≡ ts ++ t ∷ [])) ⊎ ((IsWanted a t → ⊥) × (us ≡ ts))

-- the tables of a page, one more, and perhaps others behind these
abbrev pub AreTables : Asked → List (List ℕ) → Type 0
AreTables a us =
    AreFirst (IsWanted a) Before (Some a.cursor) (suc a.count) (take (suc a.count) us)

-- the first tables that go on behind the front part, one more than a page has
abbrev pub AreTablesWithin : Asked → List ℕ → List (List ℕ) → Type 0
AreTablesWithin a front us =
    AreFirst (IsWantedWithin a front) Before (Some a.cursor) (suc a.count) us

-- the least table after the cursor that goes on behind the front part, with its branch
pub record IsFirstWithin (a : Asked) (front last targets : List ℕ) (levels : Levels)
    : Type 0 where
  pub branch : IsBranch a.presentation a.classes targets levels
  pub table : IsTable a.presentation a.classes targets
  pub within : IsWithin front targets
  pub after : Before last targets
  pub least : (u : List ℕ) → IsTable a.presentation a.classes u → IsWithin front u → Before last u
      → Before u targets → ⊥
