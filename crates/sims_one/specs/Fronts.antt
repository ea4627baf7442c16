-- Front parts of tables, behind which parts of a search look for what is asked for.
use Rattle.std.specs.Prelude.{◌≡◌, ℕ, suc, ◌+◌, ◌≤◌, ◌⊎◌, List, [], ◌∷◌, ◌++◌, length, map, Some, Vec}
use Rattle.std.specs.declared.alloc.Global.{Global}
use Rattle.sims_one.specs.Targets.{IsFront, AreAllowed, IsTable, IsWithin}
use Rattle.sims_one.specs.Search.{Before}
use Rattle.sims_one.specs.Asked.{AreFirst, Asked, IsWanted, AreTables}

-- the targets that tables may begin with
pub record IsOpen (a : Asked) (targets : List ℕ) : Type 0 where
  pub front : IsFront a.presentation.letters targets
  pub allowed : AreAllowed a.presentation a.classes targets

abbrev pub AreOpen : Asked → List (List ℕ) → Type 0
AreOpen a [] = Unit {0}
AreOpen a (t ∷ ts) = IsOpen a t × AreOpen a ts

-- u goes on behind one of the front parts
abbrev pub IsWithinOne : List (List ℕ) → List ℕ → Type 0
IsWithinOne [] u = ⊥
IsWithinOne (t ∷ ts) u = IsWithin t u ⊎ IsWithinOne ts u

-- what goes on behind the first front parts comes before what goes on behind the others
abbrev pub ComeBefore : List (List ℕ) → List (List ℕ) → Type 0
ComeBefore ts us = (u v : List ℕ) → IsWithinOne ts u → IsWithinOne us v → Before u v

-- each front part and what goes on behind it comes before the next ones
abbrev pub AreOrdered : List (List ℕ) → Type 0
AreOrdered [] = Unit {0}
AreOrdered (t ∷ ts) = ComeBefore (t ∷ []) ts × AreOrdered ts

-- the front parts ts have been made longer: no table after the cursor is lost
pub record AreLonger (a : Asked) (ts us : List (List ℕ)) : Type 0 where
  pub kept : (u : List ℕ) → IsTable a.presentation a.classes u → Before a.cursor u
      → IsWithinOne ts u → IsWithinOne us u
  pub within : (u : List ℕ) → IsWithinOne us u → IsWithinOne ts u
  pub ordered : AreOrdered ts → AreOrdered us
  pub opened : AreOpen a us

-- the front parts are us now: those are added into which t has been made longer
pub record AddsLonger (a : Asked) (t : List ℕ) (ts us : List (List ℕ)) : Type 0 where
  pub longer : List (List ℕ)
  pub added : us ≡ ts ++ longer
  pub are : AreLonger a (t ∷ []) longer

-- a table that is asked for, behind one of the front parts
abbrev pub IsWantedWithinOne : Asked → List (List ℕ) → List ℕ → Type 0
IsWantedWithinOne a ts u = IsWanted a u × IsWithinOne ts u

-- the tables us so far, and what the search finds behind the front parts ts, are what is asked for
pub record AreJoined (a : Asked) (ts us : List (List ℕ)) : Type 0 where
  pub goes : (m : ℕ) (ys : List (List ℕ))
      → AreFirst (IsWantedWithinOne a ts) Before (Some a.cursor) m ys
      → suc a.count ≤ length us + m → AreTables a (us ++ ys)
  pub ordered : AreOrdered ts
  pub opened : AreOpen a ts

-- a part of the search: what is asked for, the front part, and the tables found behind it
pub record Sought : Type 0 where
  pub asked : Asked
  pub front : List ℕ
  pub tables : List (List ℕ)

-- what parts of the search are for
abbrev pub part_tasks : List Sought → List (Asked × List ℕ)
part_tasks = map (λ s. (s.asked, s.front))

-- the targets in these lists
abbrev pub lists_in : List (Vec ℕ Global) → List (List ℕ)
lists_in = map (λ v. v.items)
