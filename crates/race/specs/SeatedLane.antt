-- A lane with its seat at the word, and what its turns keep.
use Rattle.race.specs.declared.engines.Racer.{Ghosts}
use Rattle.std.specs.Prelude.{◌≡◌, ◌≢◌, ℕ, ◌<◌, List, [], Some, length, slice_index_or}
use Rattle.std.specs.List.{All}
use Rattle.atomic_table.specs.Seated.{TableId}
use Rattle.atomic_table.specs.declared.shared.Seat.{Seat}
use Rattle.race.specs.Machine.{IsDecided, IsSpent, weight_of}
use Rattle.race.specs.Winner.{phase_of, entry, keeper, lane_view, total}
use Rattle.race.specs.declared.winner.Entry.{Entry}
use Rattle.race.specs.declared.winner.Phase.TheVariants as phase
use Rattle.race.specs.declared.winner.View.{View}
use Rattle.race.specs.declared.engines.Progress.TheVariants as said
use Rattle.race.specs.declared.lanes.Step.TheVariants.{Exchange}
use Rattle.race.specs.declared.lanes.LaneState.{LaneState}
use Rattle.race.specs.declared.lanes.LaneState.TheVariants.{Running, Won, Lost, Spent, Starved}
use Rattle.race.specs.declared.lanes.Lane.{Lane}
use Rattle.race.specs.declared.seated_lane.SeatedLane.{SeatedLane}

abbrev pub entry_of : {A : Type 0} → Lane A → Entry
entry_of l = entry l.number (phase_of l.state)

-- the lane without its seat
abbrev pub unseated : {A : Type 0} → SeatedLane A → Lane A
unseated t = t.lane

-- the seat is the keeper's at this table, with this next number and these lanes
abbrev pub IsKeeper : TableId → ℕ → List Entry → Seat (Unit {0}) View → Type 0
IsKeeper z n es s = (s.table_id ≡ z) × (s.me ≡ (keeper n es, []))

-- a seat that is new at this table, with this number
abbrev pub IsNewSeat : TableId → ℕ → Seat (Unit {0}) View → Type 0
IsNewSeat z i s = (s.table_id ≡ z) × (s.me ≡ (lane_view i phase.Looking, []))

-- new seats at this table, with these numbers in order
abbrev pub NewSeats : TableId → List (Seat (Unit {0}) View) → Type 0
NewSeats z ss =
    (i : ℕ) (d : Seat (Unit {0}) View) → i < length ss → IsNewSeat z i (slice_index_or ss i d)

module _ {A : Type 0} (kind : Ghosts A) where
  -- what its state says of a lane, whatever the word is
  abbrev pub StateIsHonest : LaneState → A → Type 0
  StateIsHonest Won r = IsDecided kind r
  StateIsHonest (Lost j) r = IsDecided kind r
  StateIsHonest Spent r = IsSpent kind r
  StateIsHonest Starved r = kind.said r ≡ said.NoMemory
  StateIsHonest _ r = Unit {0}

  pub record IsHonest (l : Lane A) : Type 0 where
    pub step : l.step ≡ Some Exchange → IsDecided kind l.racer
    pub state : StateIsHonest l.state l.racer

  -- the seat is at this table of one word, and its view has the lane's number and state
  pub record IsSeated (z : TableId) (t : SeatedLane A) : Type 0 where
    pub words : z.words ≡ 1
    pub table : t.seat.table_id ≡ z
    pub view : t.seat.me ≡ (lane_view t.lane.number (phase_of t.lane.state), [])
    pub honest : IsHonest t.lane

  -- turns of a seated lane keep its number and its task
  pub record TookTurns (z : TableId) (s t : SeatedLane A) : Type 0 where
    pub seated : IsSeated z t
    pub number : t.lane.number ≡ s.lane.number
    pub kept : kind.task t.lane.racer ≡ kind.task s.lane.racer

  abbrev pub turns_left_of : SeatedLane A → ℕ
  turns_left_of t = weight_of kind t.lane.state t.lane.racer

  -- turns of a seated lane until it ended
  pub record TookAllTurns (z : TableId) (s t : SeatedLane A) : Type 0 where
    pub ran : TookTurns z s t
    pub ended : t.lane.state ≢ Running

  abbrev pub AreSeated : TableId → List (SeatedLane A) → Type 0
  AreSeated z = All (IsSeated z)

  abbrev pub NoneRuns : List (SeatedLane A) → Type 0
  NoneRuns = All (λ t. t.lane.state ≢ Running)

  abbrev pub turns_left : List (SeatedLane A) → ℕ
  turns_left ts = total turns_left_of ts

  -- a lane, and what it is after turns until it ended
  pub record LaneEnded (l m : Lane A) : Type 0 where
    pub honest : IsHonest m
    pub number : m.number ≡ l.number
    pub kept : kind.task m.racer ≡ kind.task l.racer
    pub ended : m.state ≢ Running
