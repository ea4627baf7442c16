-- The race as a machine: one word, lanes, and what happens to them.
use Rattle.race.specs.declared.engines.Racer.{Ghosts}
use Rattle.std.specs.Prelude.{◌≡◌, ℕ, ◌+◌, ◌-◌, ◌==◌, Bool, true, false, if◌then◌else◌, Option, Some, None}
use Rattle.race.specs.Answer.{MayAnswer}
use Rattle.race.specs.declared.engines.Progress.{Progress}
use Rattle.race.specs.declared.engines.Progress.TheVariants as said
use Rattle.race.specs.declared.lanes.Step.{Step}
use Rattle.race.specs.declared.lanes.Step.TheVariants.{Load, Exchange, Ended}
use Rattle.race.specs.declared.lanes.LaneState.{LaneState}
use Rattle.race.specs.declared.lanes.LaneState.TheVariants.{Running, Won, Lost, Cancelled, Spent, Starved}
use Rattle.race.specs.declared.lanes.Lane.{Lane}

abbrev pub step_of : Progress → Step
step_of said.More = Load
step_of said.Decided = Exchange
step_of said.Spent = Ended
step_of said.NoMemory = Ended

abbrev pub IsSteps : Option Step → Type 0
IsSteps (Some Load) = Unit {0}
IsSteps (Some Exchange) = Unit {0}
IsSteps _ = ⊥

-- the state of a running lane after this answer
abbrev pub state_of : Progress → LaneState
state_of said.More = Running
state_of said.Decided = Running
state_of said.Spent = Spent
state_of said.NoMemory = Starved

abbrev pub is_running : LaneState → Bool
is_running Running = true
is_running _ = false

-- what a look at this word makes of a running lane
abbrev pub looked : ℕ → LaneState
looked n = if n == 0 then Running else Cancelled (n - 1)

-- what an exchange that found this word makes of a running lane
abbrev pub published : ℕ → LaneState
published n = if n == 0 then Won else Lost (n - 1)

abbrev pub word_from : LaneState → Option Step → ℕ → ℕ → ℕ
word_from Running (Some Exchange) i n = if n == 0 then i + 1 else n
word_from _ _ i n = n

module _ {A : Type 0} where
  abbrev pub fresh : ℕ → A → Lane A
  fresh n r = record { number = n; racer = r; step = None; state = Running }

  -- a lane after its racer gave this answer and is now r
  abbrev pub advanced : Lane A → Progress → A → Lane A
  advanced l p r =
      if is_running l.state
      then record l { racer = r; step = Some (step_of p); state = state_of p } else l

  abbrev pub looks_from : Lane A → LaneState → Option Step → ℕ → Lane A
  looks_from l Running (Some Load) n = record l { state = looked n }
  looks_from l _ _ n = l

  -- a running lane whose step is Load, after it found this word
  abbrev pub looks : Lane A → ℕ → Lane A
  looks l n = looks_from l l.state l.step n

  abbrev pub publishes_from : Lane A → LaneState → Option Step → ℕ → Lane A
  publishes_from l Running (Some Exchange) n = record l { state = published n }
  publishes_from l _ _ n = l

  -- a running lane whose step is Exchange, after it found this word
  abbrev pub publishes : Lane A → ℕ → Lane A
  publishes l n = publishes_from l l.state l.step n

  -- a lane after its step found this word
  abbrev pub settled : Lane A → ℕ → Lane A
  settled l n = publishes (looks l n) n

  -- the word after the step of lane i found n: the first that publishes sets it
  abbrev pub word_after : Lane A → ℕ → ℕ → ℕ
  word_after l i n = word_from l.state l.step i n

module _ {A : Type 0} (kind : Ghosts A) where
  abbrev pub BeginsFrom : LaneState → Lane A → Step → Lane A → Type 0
  BeginsFrom Running l step m =
      (m ≡ advanced l (kind.said m.racer) m.racer)
      × MayAnswer kind l.racer (kind.said m.racer) m.racer × (step ≡ step_of (kind.said m.racer))
  BeginsFrom _ l step m = (m ≡ l) × (step ≡ Ended)

  -- a running lane advances, and gives its next step; another is left alone
  abbrev pub Begins : Lane A → Step → Lane A → Type 0
  Begins l step m = BeginsFrom l.state l step m

  -- what one turn makes of a lane and of the word. A running lane advances, and looks or publishes
  -- where it goes on or has decided
  abbrev pub TurnsFrom : LaneState → ℕ → Lane A → ℕ → Lane A → ℕ → Type 0
  TurnsFrom Running i l n m w =
      (p : Progress) × (r : A) × MayAnswer kind l.racer p r × (m ≡ settled (advanced l p r) n)
      × (w ≡ word_after (advanced l p r) i n)
  TurnsFrom _ i l n m w = (m ≡ l) × (w ≡ n)

  abbrev pub Turns : ℕ → Lane A → ℕ → Lane A → ℕ → Type 0
  Turns i l n m w = TurnsFrom l.state i l n m w
