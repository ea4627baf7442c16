-- Events of which each lane's own are whole turns, and those turns one after another.
use Rattle.std.specs.Prelude.{ℕ, ◌==◌, if◌then◌else◌, List, [], ◌∷◌, ◌++◌}
use Rattle.race.specs.Lanes.{step_of}
use Rattle.race.specs.Machine.{Event, Advances, Looks, Publishes, turn_of}
use Rattle.race.specs.declared.engines.Progress.{Progress}
use Rattle.race.specs.declared.lanes.Step.{Step}
use Rattle.race.specs.declared.lanes.Step.TheVariants.{Load, Exchange, Ended}

-- a turn of a lane, whose racer gives this answer and is then `racer`
pub record Turn (A : Type 0) : Type 0 where
  pub lane : ℕ
  pub answer : Progress
  pub racer : A

module _ {A : Type 0} where
  abbrev pub lane_of : Event A → ℕ
  lane_of (Advances i p r) = i
  lane_of (Looks i) = i
  lane_of (Publishes i) = i

  -- the events of lane i among these
  abbrev pub own : ℕ → List (Event A) → List (Event A)
  own i [] = []
  own i (e ∷ es) = if lane_of e == i then e ∷ own i es else own i es

  -- the events of one lane, of whose turn this step is due, are the rest of that turn and then
  -- whole turns
  abbrev pub Finishes : Step → List (Event A) → Type 0
  Finishes Ended [] = Unit {0}
  Finishes Ended (Advances i p r ∷ es) = Finishes (step_of p) es
  Finishes Load (Looks i ∷ es) = Finishes Ended es
  Finishes Exchange (Publishes i ∷ es) = Finishes Ended es
  Finishes _ _ = ⊥

  abbrev pub EachIsWhole : List (Event A) → Type 0
  EachIsWhole es = (i : ℕ) → Finishes Ended (own i es)

  -- the turn of lane i among those that are begun
  abbrev pub begun : ℕ → List (Turn A) → List (Turn A)
  begun i [] = []
  begun i (q ∷ qs) = if q.lane == i then q ∷ [] else begun i qs

  abbrev pub without : ℕ → List (Turn A) → List (Turn A)
  without i [] = []
  without i (q ∷ qs) = if q.lane == i then qs else q ∷ without i qs

  abbrev pub turn : ℕ → Progress → A → Turn A
  turn i p r = record { lane = i; answer = p; racer = r }

  -- a turn that ends with its advance stands there, and another is begun
  abbrev pub placed : Step → Turn A → List (Turn A) → (List (Turn A) → List (Turn A))
      → List (Turn A)
  placed Ended q qs later = q ∷ later qs
  placed _ q qs later = later (q ∷ qs)

  -- the turns of these events in the order of their looks and publishes, where some are begun
  abbrev pub turns_from : List (Event A) → List (Turn A) → List (Turn A)
  turns_from [] qs = []
  turns_from (Advances i p r ∷ es) qs = placed (step_of p) (turn i p r) qs (turns_from es)
  turns_from (Looks i ∷ es) qs = begun i qs ++ turns_from es (without i qs)
  turns_from (Publishes i ∷ es) qs = begun i qs ++ turns_from es (without i qs)

  abbrev pub turns_in_order : List (Event A) → List (Turn A)
  turns_in_order es = turns_from es []

  abbrev pub one_by_one : List (Turn A) → List (Event A)
  one_by_one [] = []
  one_by_one (q ∷ qs) = turn_of q.lane q.answer q.racer ++ one_by_one qs
