-- Whole races: what happens to the word and the lanes, which states are sound, and where a race
-- ends.
use Rattle.race.specs.declared.engines.Racer.{Ghosts}
use Rattle.std.specs.Prelude.{◌≡◌, ◌≢◌, ◌⊎◌, ℕ, zero, suc, ◌+◌, ◌-◌, ◌==◌, if◌then◌else◌, List, [], ◌∷◌, ◌++◌, Option, Some, None, length, slice_get, map}
use Rattle.race.specs.Answer.{MayAnswer}
use Rattle.race.specs.Lanes.{advanced, looks, publishes, word_after}
use Rattle.race.specs.declared.engines.Progress.{Progress}
use Rattle.race.specs.declared.engines.Progress.TheVariants as said
use Rattle.race.specs.declared.lanes.Step.TheVariants.{Exchange}
use Rattle.race.specs.declared.lanes.LaneState.{LaneState}
use Rattle.race.specs.declared.lanes.LaneState.TheVariants.{Running, Won, Lost, Cancelled, Spent, Starved}
use Rattle.race.specs.declared.lanes.Lane.{Lane}
use Rattle.race.specs.declared.playing.Outcome.{Outcome}
use Rattle.race.specs.declared.playing.Outcome.TheVariants as outcome

pub record RaceState (A : Type 0) : Type 0 where
  pub word : ℕ
  pub lanes : List (Lane A)

-- A lane's racer answers and is then r; a lane looks at the word; a lane publishes
pub data Event (A : Type 0) : Type 0 where
  Advances : (lane : ℕ) → Progress → A → Event A
  Looks : (lane : ℕ) → Event A
  Publishes : (lane : ℕ) → Event A

abbrev pub starved_from : ℕ → LaneState → Outcome → Outcome
starved_from i Starved o = outcome.Starved i
starved_from i _ o = o

module _ {X : Type 0} where
  -- the list with f of what stands at the place
  abbrev pub changed : List X → ℕ → (X → X) → List X
  changed [] i f = []
  changed (x ∷ xs) zero f = f x ∷ xs
  changed (x ∷ xs) (suc i) f = x ∷ changed xs i f

module _ {A : Type 0} where
  abbrev pub word_at : Option (Lane A) → ℕ → ℕ → ℕ
  word_at None i n = n
  word_at (Some l) i n = word_after l i n

  -- only a running lane changes. A look is made after a step Load, and an exchange after a step
  -- Exchange
  abbrev pub happens : RaceState A → Event A → RaceState A
  happens s (Advances i p r) = record s { lanes = changed s.lanes i (λ l. advanced l p r) }
  happens s (Looks i) = record s { lanes = changed s.lanes i (λ l. looks l s.word) }
  happens s (Publishes i) = record {
    word = word_at (slice_get s.lanes i) i s.word;
    lanes = changed s.lanes i (λ l. publishes l s.word);
  }

  abbrev pub run : List (Event A) → RaceState A → RaceState A
  run [] s = s
  run (e ∷ es) s = run es (happens s e)

  -- the events of one whole turn
  abbrev pub turn_of : ℕ → Progress → A → List (Event A)
  turn_of i said.More r = Advances i said.More r ∷ Looks i ∷ []
  turn_of i said.Decided r = Advances i said.Decided r ∷ Publishes i ∷ []
  turn_of i p r = Advances i p r ∷ []

  abbrev pub state_at : ℕ → List (Lane A) → RaceState A
  state_at n ls = record { word = n; lanes = ls }

  abbrev pub EndedAt : ℕ → List (Lane A) → Type 0
  EndedAt i ls = (l : Lane A) → slice_get ls i ≡ Some l → l.state ≢ Running

  -- a race has ended where no lane runs
  abbrev pub IsEnd : RaceState A → Type 0
  IsEnd s = (i : ℕ) → EndedAt i s.lanes

  -- the least starved lane from the i-th on
  abbrev pub first_starved : ℕ → List (Lane A) → Outcome
  first_starved i [] = outcome.AllSpent
  first_starved i (l ∷ ls) = starved_from i l.state (first_starved (i + 1) ls)

  abbrev pub outcome_of : RaceState A → Outcome
  outcome_of s = if s.word == 0 then first_starved 0 s.lanes else outcome.Won (s.word - 1)

-- a list once more for each round
abbrev pub rounds_of : ℕ → List ℕ → List ℕ
rounds_of zero xs = []
rounds_of (suc k) xs = rounds_of k xs ++ xs

-- the numbers below n, in order
abbrev pub numbers : ℕ → List ℕ
numbers zero = []
numbers (suc n) = numbers n ++ n ∷ []

module _ {A : Type 0} (kind : Ghosts A) where
  -- a racer that has decided, and so its condition holds; one that is spent, and so it fails
  pub record IsDecided (r : A) : Type 0 where
    pub answered : kind.said r ≡ said.Decided
    pub holds : kind.condition (kind.task r)

  pub record IsSpent (r : A) : Type 0 where
    pub answered : kind.said r ≡ said.Spent
    pub fails : ¬ (kind.condition (kind.task r))

  -- what its state says of a lane, where the word is n
  abbrev pub StateFits : ℕ → ℕ → LaneState → A → Type 0
  StateFits n i Running r = Unit {0}
  StateFits n i Won r = (n ≡ i + 1) × IsDecided r
  StateFits n i (Lost j) r = (n ≡ j + 1) × IsDecided r
  StateFits n i (Cancelled j) r = n ≡ j + 1
  StateFits n i Spent r = IsSpent r
  StateFits n i Starved r = kind.said r ≡ said.NoMemory

  pub record LaneFits (n i : ℕ) (l : Lane A) : Type 0 where
    pub number : l.number ≡ i
    pub step : l.step ≡ Some Exchange → IsDecided l.racer
    pub state : StateFits n i l.state l.racer

  -- each lane fits the word; and where the word is not 0, the lane that it names has won
  pub record IsSound (s : RaceState A) : Type 0 where
    pub each : (i : ℕ) (l : Lane A) → slice_get s.lanes i ≡ Some l → LaneFits s.word i l
    pub winner : (s.word ≡ 0) ⊎ ((i : ℕ) × (l : Lane A) × (s.word ≡ i + 1)
        × (slice_get s.lanes i ≡ Some l) × (l.state ≡ Won))

  -- an advance is one that the racer may make
  abbrev pub IsAllowed : RaceState A → Event A → Type 0
  IsAllowed s (Advances i p r) =
      (l : Lane A) → slice_get s.lanes i ≡ Some l → l.state ≡ Running → MayAnswer kind l.racer p r
  IsAllowed s (Looks i) = Unit {0}
  IsAllowed s (Publishes i) = Unit {0}

  abbrev pub TurnFrom : LaneState → Lane A → ℕ → RaceState A → RaceState A → Type 0
  TurnFrom Running l i s t =
      (p : Progress) × (r : A) × MayAnswer kind l.racer p r × (t ≡ run (turn_of i p r) s)
  TurnFrom _ l i s t = t ≡ s

  abbrev pub TurnAt : Option (Lane A) → ℕ → RaceState A → RaceState A → Type 0
  TurnAt None i s t = t ≡ s
  TurnAt (Some l) i s t = TurnFrom l.state l i s t

  -- a turn of lane i. A number without a lane, or a lane that has ended, does nothing
  abbrev pub Turned : ℕ → RaceState A → RaceState A → Type 0
  Turned i s t = TurnAt (slice_get s.lanes i) i s t

  -- turns of these lanes, one after another
  abbrev pub Plays : List ℕ → RaceState A → RaceState A → Type 0
  Plays [] s t = t ≡ s
  Plays (i ∷ is) s t = (u : RaceState A) × Turned i s u × Plays is u t

  abbrev pub tasks : List (Lane A) → List kind.Task
  tasks ls = map (λ l. kind.task l.racer) ls

  -- the turns of these lanes lead from s to t, which is sound; each lane keeps its task
  pub record Goes (xs : List ℕ) (s t : RaceState A) : Type 0 where
    pub plays : Plays xs s t
    pub sound : IsSound t
    pub kept : tasks t.lanes ≡ tasks s.lanes
    pub count : length t.lanes ≡ length s.lanes

  -- the turns that are left to a lane
  abbrev pub weight_of : LaneState → A → ℕ
  weight_of Running r = kind.measure r + 1
  weight_of _ r = 0

  abbrev pub weight : List (Lane A) → ℕ
  weight [] = 0
  weight (l ∷ ls) = weight_of l.state l.racer + weight ls

  -- lanes that run, numbered by place; a step that one was given is of its racer
  abbrev pub Starts : List (Lane A) → Type 0
  Starts ls = (i : ℕ) (l : Lane A) → slice_get ls i ≡ Some l → LaneFits 0 i l × (l.state ≡ Running)

  -- the lanes have ended with this outcome: with some word they are a sound end, and each has kept
  -- its task
  pub record EndsAs (old : List (Lane A)) (o : Outcome) (new : List (Lane A)) : Type 0 where
    pub word : ℕ
    pub sound : IsSound (state_at word new)
    pub ended : IsEnd (state_at word new)
    pub outcome_is : o ≡ outcome_of (state_at word new)
    pub kept : tasks new ≡ tasks old
    pub count : length new ≡ length old

  -- what an outcome tells of the lanes
  abbrev pub Tells : Outcome → List (Lane A) → Type 0
  Tells (outcome.Won i) ls =
      (l : Lane A) × (slice_get ls i ≡ Some l) × (l.state ≡ Won) × IsDecided l.racer
  Tells outcome.AllSpent ls =
      (i : ℕ) (l : Lane A) → slice_get ls i ≡ Some l → (l.state ≡ Spent) × IsSpent l.racer
  Tells (outcome.Starved i) ls =
      (l : Lane A) × (slice_get ls i ≡ Some l) × (l.state ≡ Starved)
      × (kind.said l.racer ≡ said.NoMemory)
