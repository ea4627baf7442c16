-- The rule of the winner word, and what each kind of step makes of a view.
use Rattle.std.specs.Prelude.{◌≡◌, ℕ, ◌+◌, ◌≤◌, ◌==◌, ◌⊎◌, true, false, if◌then◌else◌, List, [], ◌∷◌, ◌++◌, map, Contains}
use Rattle.atomic_table.specs.Table.{State, Me, Step}
use Rattle.race.specs.Lanes.{looked, published}
use Rattle.race.specs.declared.winner.Phase.{Phase}
use Rattle.race.specs.declared.winner.Phase.TheVariants as phase
use Rattle.race.specs.declared.winner.Entry.{Entry}
use Rattle.race.specs.declared.winner.View.{View}
use Rattle.race.specs.declared.lanes.LaneState.{LaneState}
use Rattle.race.specs.declared.lanes.LaneState.TheVariants.{Won, Lost, Cancelled}

-- a lane's state as the table sees it
abbrev pub phase_of : LaneState → Phase
phase_of Won = phase.Won
phase_of (Lost j) = phase.Lost j
phase_of (Cancelled j) = phase.Cancelled j
phase_of _ = phase.Looking

abbrev pub entry : ℕ → Phase → Entry
entry n p = record { number = n; phase = p }

abbrev pub keeper : ℕ → List Entry → View
keeper n es = record { keeps = true; next = n; entries = es }

-- the view of a seat with one lane
abbrev pub lane_view : ℕ → Phase → View
lane_view n p = record { keeps = false; next = 0; entries = entry n p ∷ [] }

abbrev pub spent : View
spent = record { keeps = false; next = 0; entries = [] }

-- the keeper after it gave its next number, and the view that got it
abbrev pub seat_given : View → View
seat_given v = record { keeps = v.keeps; next = v.next + 1; entries = v.entries }

abbrev pub newcomer : View → View
newcomer v = lane_view v.next phase.Looking

-- the keeper with the lanes of another
abbrev pub gained : View → View → View
gained v w = record { keeps = v.keeps; next = v.next; entries = v.entries ++ w.entries }

abbrev pub moved : (ℕ → LaneState) → ℕ → Entry → Entry
moved f n e = entry e.number (phase_of (f n))

abbrev pub moves : (ℕ → LaneState) → ℕ → View → View
moves f n v = record { keeps = v.keeps; next = v.next; entries = map (moved f n) v.entries }

-- a load found n, and the seat's lane is as after a look at n; an exchange found n
abbrev pub looks : Step (Unit {0}) → Me (Unit {0}) View → ℕ → Me (Unit {0}) View → Type 0
looks st m n w = (n ≤ 64) × (w ≡ (moves looked n m.0, m.1))

abbrev pub publishes : Step (Unit {0}) → Me (Unit {0}) View → ℕ → Me (Unit {0}) View → Type 0
publishes st m n w = (n ≤ 64) × (w ≡ (moves published n m.0, m.1))

-- the weights of the items, added up
abbrev pub total : {X : Type 0} → (X → ℕ) → List X → ℕ
total f [] = 0
total f (x ∷ xs) = f x + total f xs

-- how many entries count, over all views
abbrev pub entries : (Entry → ℕ) → List View → ℕ
entries f views = total (λ v. total f v.entries) views

abbrev pub has_number : ℕ → Entry → ℕ
has_number n e = if e.number == n then 1 else 0

abbrev pub keeps_one : View → ℕ
keeps_one v = if v.keeps then 1 else 0

abbrev pub next_of : View → ℕ
next_of v = if v.keeps then v.next else 0

-- e is an entry of one of the views
abbrev pub IsEntry : List View → Entry → Type 0
IsEntry views e = (v : View) × Contains views v × Contains v.entries e

-- what its phase says of the word, where the lane has number n: it has won, or names the winner
abbrev pub PhaseFits : ℕ → ℕ → Phase → Type 0
PhaseFits w n phase.Looking = Unit {0}
PhaseFits w n phase.Won = w ≡ n + 1
PhaseFits w n (phase.Lost j) = w ≡ j + 1
PhaseFits w n (phase.Cancelled j) = w ≡ j + 1

-- where the word is 0 every lane is Looking. Where it is i + 1, lane i is Won and no other is, and
-- each that is Lost or Cancelled names i
pub record WordFits (w : ℕ) (IsHere : Entry → Type 0) : Type 0 where
  pub small : w ≤ 64
  pub each : (e : Entry) → IsHere e → PhaseFits w e.number e.phase
  pub winner : (w ≡ 0) ⊎ ((i : ℕ) × (w ≡ i + 1) × IsHere (entry i phase.Won))

-- exactly one view is the keeper's. The numbers of all entries are distinct, and below the keeper's
-- next number, which is at most 64
pub record IsRuled (s : State (Unit {0}) View) : Type 0 where
  pub word : ℕ
  pub word_is : s.words ≡ word ∷ []
  pub keepers : total keeps_one s.views ≡ 1
  pub most : total next_of s.views ≤ 64
  pub apart : (n : ℕ) → entries (has_number n) s.views ≤ 1
  pub below : (n : ℕ) → total next_of s.views ≤ n → entries (has_number n) s.views ≡ 0
  pub fits : WordFits word (IsEntry s.views)
