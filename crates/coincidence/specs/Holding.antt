-- Relations that hold at a node.
use Rattle.std.specs.Prelude.{◌≡◌, ℕ, ◌<◌, ◌≤◌, ◌⊎◌, Bool, true, List, Some, slice_index_or}
use Rattle.std.specs.Option.{ForSome}
use Rattle.theory.specs.Word.{Word}
use Rattle.theory.specs.Congruence.{EitherWay}
use Rattle.theory.specs.Graph.{Graph, path}
use Rattle.coincidence.specs.Live.{IsOn}
use Rattle.coincidence.specs.Reading.{IsAsked}
use Rattle.coincidence.specs.declared.closing.Reach.{Reach}
use Rattle.coincidence.specs.declared.due.Due.{Due}
use Rattle.coincidence.specs.declared.due.Due.TheVariants.{Nothing, Edge, Join}

-- both sides of the pair lead from the node, to one node
abbrev pub MeetAt : Graph → ℕ → Word × Word → Type 0
MeetAt g node pair = (m : ℕ) × (path g node pair.0 ≡ Some m) × (path g node pair.1 ≡ Some m)

-- the pairs before the place do so
abbrev pub HoldBefore : List (Word × Word) → Graph → ℕ → ℕ → Type 0
HoldBefore pairs g node place = (k : ℕ) (p : Word × Word) → k < place
    → MeetAt g node (slice_index_or pairs k p)

-- and those from one place up to another
abbrev pub HoldFrom : List (Word × Word) → Graph → ℕ → ℕ → ℕ → Type 0
HoldFrom pairs g node from to = (k : ℕ) (p : Word × Word) → from ≤ k → k < to
    → MeetAt g node (slice_index_or pairs k p)

-- the pair does so, or asks for this
abbrev pub MeetOrAsk : Graph → ℕ → Word × Word → Due → Type 0
MeetOrAsk g node pair Nothing = MeetAt g node pair
MeetOrAsk g node pair (Edge j a m) = MeetAt g node pair
    ⊎ IsAsked g node pair.0 pair.1 (Edge j a m)
MeetOrAsk g node pair (Join j a t m) = MeetAt g node pair
    ⊎ IsAsked g node pair.0 pair.1 (Join j a t m)

-- the pairs before the place do so, once what they ask for is drawn
abbrev pub HoldOnceDrawn : List (Word × Word) → Graph → ℕ → Due → ℕ → Type 0
HoldOnceDrawn pairs g node due place = (k : ℕ) (p : Word × Word) → k < place
    → MeetOrAsk g node (slice_index_or pairs k p) due

-- both sides of each pair lead from the node, to one node
abbrev pub HoldAt : List (Word × Word) → Graph → ℕ → Type 0
HoldAt pairs g node = (r s : Word) → EitherWay pairs r s
    → (m : ℕ) × (path g node r ≡ Some m) × (path g node s ≡ Some m)

-- so at each marked node
abbrev pub HoldWhere : List (Word × Word) → Graph → List Bool → Type 0
HoldWhere pairs g marked = (n : ℕ) → IsOn marked n → HoldAt pairs g n

-- relations are read at a live node, if at one, where so many of them hold, and hold at marked
-- nodes, if they are said to
pub record IsReach (pairs : List (Word × Word)) (g : Graph) (live marked : List Bool)
    (reach : Reach) : Type 0 where
  pub at : ForSome reach.at (IsOn live)
  pub held : ForSome reach.at (λ node. HoldBefore pairs g node reach.held)
  pub hold : reach.marked ≡ true → HoldWhere pairs g marked
