-- The order of nodes, as the code keeps it.
use Rattle.std.specs.Prelude.{◌≡◌, ℕ, ◌+◌, ◌*◌, ◌-◌, ◌<◌, ◌≤◌, List, Bool, length, slice_index_or, Option, Some, None}
use Rattle.theory.specs.Word.{Word}
use Rattle.theory.specs.Graph.{Graph, target}
use Rattle.word_graph.specs.Gaps.{count_none}
use Rattle.word_graph.specs.Walk.{Walked, IsFirstMissing}
use Rattle.coincidence.specs.Live.{IsOn}
use Rattle.coincidence.specs.Ordering.{IsOrderTo}
use Rattle.coincidence.specs.declared.cosets.Cosets.{Cosets}
use Rattle.coincidence.specs.declared.order.Step.{Step}
use Rattle.coincidence.specs.declared.order.Order.{Order}
use Rattle.coincidence.specs.declared.order.Ahead.{Ahead}
use Rattle.coincidence.specs.declared.order.Ahead.TheVariants.{More, Missing, Whole}

-- the step at a place
abbrev pub step_at : List Step → ℕ → Step
step_at steps j = slice_index_or steps j (record { node = 0; parent = 0; letter = 0 })

-- the nodes found so far, the place of each, and how far the walk over their edges and the count of
-- marked ones have come
pub record Listing : Type 0 where
  pub steps : List Step
  pub places : List (Option ℕ)
  pub row : ℕ
  pub letter : ℕ
  pub done : ℕ

abbrev pub listing_of : Order → Listing
listing_of o = record {
  steps = o.steps.items;
  places = o.places.items;
  row = o.row;
  letter = o.letter;
  done = o.done;
}

-- what the steps and places found
abbrev pub walked : Listing → (ℕ → Word) → Walked
walked l word = record {
  count = length l.steps;
  node = λ j. (step_at l.steps j).node;
  parent = λ j. (step_at l.steps j).parent;
  letter = λ j. (step_at l.steps j).letter;
  word = word;
  place = λ m. slice_index_or l.places m None;
}

-- the steps are the order of the nodes as far as the walk has come, and the nodes before done are
-- marked
pub record IsKeptAs (k : ℕ) (g : Graph) (marked : List Bool) (l : Listing) : Type 0 where
  pub word : ℕ → Word
  pub order : IsOrderTo k g (walked l word) l.row l.letter
  pub shape : length l.places ≡ length g
  pub gaps : count_none l.places + length l.steps ≡ length g
  pub within : l.letter ≤ k
  pub front : l.done ≤ length l.steps
  pub met : (j : ℕ) → j < l.done → IsOn marked (step_at l.steps j).node

abbrev pub IsKept : ℕ → Graph → List Bool → Order → Type 0
IsKept k g marked o = IsKeptAs k g marked (listing_of o)

-- the node has a place
abbrev pub IsPlaced : Order → ℕ → Type 0
IsPlaced o n = (j : ℕ) × (slice_index_or o.places.items n None ≡ Some j)

-- the edge of the letter a leads to a node that has one
abbrev pub LeadsToPlaced : Graph → Order → ℕ → ℕ → Type 0
LeadsToPlaced g o n a = (m : ℕ) × (target g n a ≡ Some m) × IsPlaced o m

-- edges that the walk has yet to come to
abbrev pub cells_left : ℕ → Graph → Order → ℕ
cells_left k g o = length g * (k + 1) - (o.row * (k + 1) + o.letter)

-- what the walk has come to
abbrev pub IsAhead : ℕ → Graph → Order → Order → Ahead → Type 0
IsAhead k g old new More = cells_left k g new < cells_left k g old
IsAhead k g old new (Missing n a) = IsFirstMissing k g n a
IsAhead k g old new Whole = length new.steps.items ≤ new.row

-- the order was cut where nodes were lost, and nothing else
pub record IsMended (old new : Cosets) : Type 0 where
  pub kept : (k : ℕ) (g : Graph) (marked : List Bool) → IsKept k g marked old.order
      → IsKept k g marked new.order
  pub lives : ((n : ℕ) → IsPlaced old.order n → IsOn old.live.items n)
      → (n : ℕ) → IsPlaced new.order n → IsOn new.live.items n

-- it is the order of some graph with some marks
abbrev pub IsOfGraph : Order → Type 0
IsOfGraph o = (k : ℕ) × (g : Graph) × (marked : List Bool) × IsKept k g marked o
