-- The search for strongly connected components (Purdom and Munro 1970; Gabow 2000).
use Rattle.std.specs.Prelude.{◌≡◌, ◌≢◌, ℕ, ◌+◌, ◌-◌, ◌<◌, ◌≤◌, ◌↔◌, ◌⊎◌, List, [], ◌∷◌, ◌++◌, length, slice_index, slice_index_or, slice_set, take}
use Rattle.std.specs.List.{sum_by}
use Rattle.theory.specs.Green.{Reaches, IsEdge, AreConnected}
use Rattle.green.specs.declared.states.State.{State}
use Rattle.green.specs.declared.states.State.TheVariants.{Unseen, OnPath, Done}
use Rattle.green.specs.declared.depth_first.Start.{Start}

-- the state of each number, the path, the numbers that are yet to be visited since an edge of the
-- path leads to them, and the starts of the path's components
pub record Tour : Type 0 where
  pub states : List State
  pub path : List ℕ
  pub ahead : List ℕ
  pub starts : List Start

abbrev pub state_at : List State → ℕ → State
state_at states i = slice_index_or states i Unseen

abbrev pub start_at : List Start → ℕ → Start
start_at starts k = slice_index_or starts k (record { place = 0; ahead = 0 })

-- the numbers on the path are those whose state is their place
pub record ArePlaced (states : List State) (path : List ℕ) : Type 0 where
  pub placed : (i p : ℕ) → state_at states i ≡ OnPath p
      → (p < length path) × (slice_index path p ≡ i)
  pub on_path : (p : ℕ) → p < length path → state_at states (slice_index path p) ≡ OnPath p

-- components begin in order, with the first number of the path
pub record AreStarts (path ahead : List ℕ) (starts : List Start) : Type 0 where
  pub ascending : (j k : ℕ) → j < k → k < length starts
      → (start_at starts j).place < (start_at starts k).place
  pub places : (k : ℕ) → k < length starts → (start_at starts k).place < length path
  pub within : (k : ℕ) → k < length starts → (start_at starts k).ahead ≤ length ahead
  pub first : 0 < length starts → (start_at starts 0).place ≡ 0
  pub some : 0 < length path → 0 < length starts

-- a component begins between two places
abbrev pub IsCut : List Start → ℕ → ℕ → Type 0
IsCut starts p q = (k : ℕ) × (k < length starts) × (p < (start_at starts k).place)
    × ((start_at starts k).place ≤ q)

-- a place of the path belongs to the same component as what stands ahead
abbrev pub BelongTogether : List Start → ℕ → ℕ → Type 0
BelongTogether starts q f = (k : ℕ) → k < length starts
    → ((start_at starts k).place ≤ q) ↔ ((start_at starts k).ahead ≤ f)

-- an edge of the number at a place leads to what stands ahead of its component
abbrev pub IsPending : (ℕ → ℕ → ℕ) → Tour → ℕ → ℕ → Type 0
IsPending next t q a = (f : ℕ) × (f < length t.ahead)
    × (slice_index t.ahead f ≡ next (slice_index t.path q) a) × BelongTogether t.starts q f

-- what stands ahead of a component is where an edge of it leads
abbrev pub IsAhead : ℕ → (ℕ → ℕ → ℕ) → Tour → ℕ → Type 0
IsAhead w next t f = (q : ℕ) × (q < length t.path)
    × IsEdge w next (slice_index t.path q) (slice_index t.ahead f) × BelongTogether t.starts q f

-- a number is done, or in the component of a place, or in a later one
abbrev pub IsBehind : List State → List Start → ℕ → ℕ → Type 0
IsBehind states starts q j = ((d : ℕ) × (state_at states j ≡ Done d))
    ⊎ ((p : ℕ) × (state_at states j ≡ OnPath p)
    × ((k : ℕ) → k < length starts → (start_at starts k).place ≤ q
    → (start_at starts k).place ≤ p))

-- a number is not done, or its component is, and no edge leads out of it to where it is reached
pub record AreDone (w : ℕ) (next : ℕ → ℕ → ℕ) (states : List State) : Type 0 where
  pub named : (i c : ℕ) → state_at states i ≡ Done c
      → (state_at states c ≡ Done c) × AreConnected (IsEdge w next) i c
  pub closed : (i c a : ℕ) → state_at states i ≡ Done c → a < w
      → (d : ℕ) × (state_at states (next i a) ≡ Done d)
      × ((d ≡ c) ⊎ (Reaches (IsEdge w next) (next i a) i → ⊥))

-- what holds between steps, but for what is said of some edges. The path leads from each number to
-- the later ones, and back within a component. Edges lead to what is yet to be visited, to what is
-- done, or to no earlier component.
pub record IsTourBut (n w : ℕ) (next : ℕ → ℕ → ℕ) (Skip : ℕ → ℕ → Type 0) (t : Tour) : Type 0 where
  pub count : length t.states ≡ n
  pub placed : ArePlaced t.states t.path
  pub starts : AreStarts t.path t.ahead t.starts
  pub done : AreDone w next t.states
  pub upward : (p q : ℕ) → p ≤ q → q < length t.path
      → Reaches (IsEdge w next) (slice_index t.path p) (slice_index t.path q)
  pub downward : (p q : ℕ) → p ≤ q → q < length t.path → IsCut t.starts p q
      ⊎ Reaches (IsEdge w next) (slice_index t.path q) (slice_index t.path p)
  pub edges : (q a : ℕ) → q < length t.path → a < w
      → Skip (slice_index t.path q) a ⊎ (IsPending next t q a
      ⊎ IsBehind t.states t.starts q (next (slice_index t.path q) a))
  pub ahead : (f : ℕ) → f < length t.ahead → IsAhead w next t f

abbrev pub IsTour : ℕ → ℕ → (ℕ → ℕ → ℕ) → Tour → Type 0
IsTour n w next t = IsTourBut n w next (λ i a. ⊥) t

-- the edges of a number from a letter on
abbrev pub IsEdgeFrom : ℕ → ℕ → ℕ → ℕ → Type 0
IsEdgeFrom number letter i a = (i ≡ number) × (letter ≤ a)

-- the edges that lead to a number
abbrev pub IsEdgeTo : (ℕ → ℕ → ℕ) → ℕ → ℕ → ℕ → Type 0
IsEdgeTo next number i a = next i a ≡ number

-- a number is in the last component of the path
abbrev pub IsOnTop : Tour → ℕ → Type 0
IsOnTop t i = (p : ℕ) × (state_at t.states i ≡ OnPath p)
    × ((k : ℕ) → k < length t.starts → (start_at t.starts k).place ≤ p)

-- an edge of the last component leads to a number
abbrev pub IsLedTo : ℕ → (ℕ → ℕ → ℕ) → Tour → ℕ → Type 0
IsLedTo w next t v = (x : ℕ) × IsOnTop t x × IsEdge w next x v

-- all of the path leads to a number
abbrev pub DoesLeadTo : ℕ → (ℕ → ℕ → ℕ) → Tour → ℕ → Type 0
DoesLeadTo w next t v = (p : ℕ) → p < length t.path
    → Reaches (IsEdge w next) (slice_index t.path p) v

-- a number that is new becomes the last component of the path
abbrev pub entered : Tour → ℕ → Tour
entered t v = record {
  states = slice_set t.states v (OnPath (length t.path));
  path = t.path ++ v ∷ [];
  ahead = t.ahead;
  starts = t.starts ++ record { place = length t.path; ahead = length t.ahead } ∷ [];
}

-- a number is yet to be visited
abbrev pub with_ahead : Tour → ℕ → Tour
with_ahead t v = record {
  states = t.states;
  path = t.path;
  ahead = t.ahead ++ v ∷ [];
  starts = t.starts;
}

-- the last component has no start of its own
abbrev pub without_start : Tour → Tour
without_start t = record {
  states = t.states;
  path = t.path;
  ahead = t.ahead;
  starts = take (length t.starts - 1) t.starts;
}

-- the components from that of a place on become one
pub record HaveJoined (place : ℕ) (starts now : List Start) : Type 0 where
  pub some : 0 < length now
  pub fewer : length now ≤ length starts
  pub kept : (k : ℕ) → k < length now → start_at now k ≡ start_at starts k
  pub low : (start_at now (length now - 1)).place ≤ place
  pub high : (k : ℕ) → length now ≤ k → k < length starts → place < (start_at starts k).place

-- how much a state may cost yet
abbrev pub weight : ℕ → State → ℕ
weight w Unseen = w + 1
weight w (OnPath p) = 0
weight w (Done c) = 0

abbrev pub left_over : ℕ → Tour → ℕ
left_over w t = sum_by (weight w) t.states + (length t.ahead + length t.starts)

-- what stands on the path from a place on, and before a limit, is done, and nothing else changes
pub record HasClosed (place limit name : ℕ) (states now : List State) : Type 0 where
  pub count : length now ≡ length states
  pub at : (i : ℕ) → ((p : ℕ) × (state_at states i ≡ OnPath p) × (place ≤ p) × (p < limit)
      × (state_at now i ≡ Done name))
      ⊎ ((state_at now i ≡ state_at states i)
      × ((p : ℕ) → state_at states i ≡ OnPath p → place ≤ p → limit ≤ p))
  pub left : (w : ℕ) → sum_by (weight w) now ≡ sum_by (weight w) states

-- what was seen stays so
abbrev pub KeepsSeen : Tour → Tour → Type 0
KeepsSeen old new = (i : ℕ) → state_at old.states i ≢ Unseen → state_at new.states i ≢ Unseen
