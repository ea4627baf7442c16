-- The places of sides at which a letter stands, in groups by what stands beside.
use Rattle.std.specs.Prelude.{◌≡◌, ℕ, ◌+◌, ◌-◌, ◌<◌, ◌⊎◌, nat_eq, nat_lt, cond, List, [], ◌∷◌, Bool, true, false, length, slice_index_or, take, Some, None}
use Rattle.theory.specs.Word.{Word}
use Rattle.theory.specs.Graph.{Graph, path, target}
use Rattle.coincidence.specs.DueSpec.{IsDueAt}
use Rattle.coincidence.specs.Pending.{IsAmong}
use Rattle.coincidence.specs.Places.{Places}
use Rattle.coincidence.specs.Reading.{IsDueAlong, IsDueBehind, IsDueThrough, IsQuietBoth}
use Rattle.coincidence.specs.Rings.{IsPeriod}
use Rattle.coincidence.specs.declared.due.Due.{Due}
use Rattle.coincidence.specs.declared.due.Due.TheVariants.{Nothing, Edge, Join}
use Rattle.coincidence.specs.declared.groups.Group.{Group}
use Rattle.coincidence.specs.declared.groups.Kind.{Kind}
use Rattle.coincidence.specs.declared.groups.Kind.TheVariants.{Power, Front, Before, Behind}

-- the first side of a pair, or the second
abbrev pub side_of : Bool → Word × Word → Word
side_of false pair = pair.0
side_of true pair = pair.1

-- and the other one
abbrev pub other_of : Bool → Word × Word → Word
other_of false pair = pair.1
other_of true pair = pair.0

-- the kind of a place with at most one letter behind
abbrev pub kind_of_end : Word → ℕ → Kind
kind_of_end u p = cond (nat_eq p 0) Front (Behind (slice_index_or u (p - 1) 0))

-- the kind of a place of a power, or of another side
abbrev pub kind_of : Bool → Word → ℕ → Kind
kind_of true u p = Power
kind_of false u p = cond (nat_lt (p + 2) (length u)) (Before (slice_index_or u (p + 1) 0))
    (kind_of_end u p)

-- the place that the list tells: none of a power
abbrev pub told : Bool → ℕ → ℕ
told true p = 0
told false p = p

-- the list of this number
abbrev pub list_at : List Places → ℕ → Places
list_at lists a = slice_index_or lists a []

-- the entry stands among those of the kind
abbrev pub StandsIn : List Group → Kind → ℕ × ℕ → Type 0
StandsIn [] kind entry = ⊥
StandsIn (g ∷ groups) kind entry = ((g.kind ≡ kind) × IsAmong entry g.places)
    ⊎ StandsIn groups kind entry

-- the groups of a letter
abbrev pub groups_at : List (List Group) → ℕ → List Group
groups_at letters x = slice_index_or letters x []

-- there it stands among those of the kind
abbrev pub Stands : List (List Group) → ℕ → Kind → ℕ × ℕ → Type 0
Stands letters x kind entry = StandsIn (groups_at letters x) kind entry

-- each place of the side of the pair i stands at its letter
pub record IsListed (letters : List (List Group)) (u : Word) (i : ℕ) : Type 0 where
  pub power : Bool
  pub all : (p : ℕ) → p < length u
      → Stands letters (slice_index_or u p 0) (kind_of power u p) (i, told power p)

-- these are places of first sides of the pairs, or of second sides
abbrev pub ArePlaces : Bool → List (Word × Word) → Places → Type 0
ArePlaces second pairs places = (i p : ℕ) (d : Word × Word) → IsAmong (i, p) places
    → (i < length pairs) × (p < length (side_of second (slice_index_or pairs i d)))

-- the groups have the places of all first sides of the pairs, or of all second sides
pub record AreUses (second : Bool) (pairs : List (Word × Word))
    (letters : List (List Group)) : Type 0 where
  pub within : (x i p : ℕ) (kind : Kind) (d : Word × Word) → Stands letters x kind (i, p)
      → (i < length pairs) × (p < length (side_of second (slice_index_or pairs i d)))
  pub all : (i : ℕ) (d : Word × Word) → i < length pairs
      → IsListed letters (side_of second (slice_index_or pairs i d)) i

-- these are periods of the first sides of the pairs, or of the second sides
pub record ArePeriods (second : Bool) (pairs : List (Word × Word))
    (periods : List ℕ) : Type 0 where
  pub count : length periods ≡ length pairs
  pub all : (i : ℕ) (d : Word × Word) → i < length pairs
      → IsPeriod (slice_index_or periods i 0) (side_of second (slice_index_or pairs i d))

-- the entry is in the list a, and nothing else is new
pub record IsNoted (old new : List Places) (a : ℕ) (entry : ℕ × ℕ) : Type 0 where
  pub here : IsAmong entry (list_at new a)
  pub still : (b : ℕ) (e : ℕ × ℕ) → IsAmong e (list_at old b) → IsAmong e (list_at new b)
  pub from : (b : ℕ) (e : ℕ × ℕ) → IsAmong e (list_at new b)
      → IsAmong e (list_at old b) ⊎ (e ≡ entry)

-- among groups the entry stands with those of the kind, and nothing else is new
pub record IsPut (old new : List Group) (kind : Kind) (entry : ℕ × ℕ) : Type 0 where
  pub here : StandsIn new kind entry
  pub still : (k : Kind) (e : ℕ × ℕ) → StandsIn old k e → StandsIn new k e
  pub from : (k : Kind) (e : ℕ × ℕ) → StandsIn new k e → StandsIn old k e ⊎ (e ≡ entry)

-- so at the letter
pub record IsPutAt (old new : List (List Group)) (x : ℕ) (kind : Kind) (entry : ℕ × ℕ)
    : Type 0 where
  pub here : Stands new x kind entry
  pub still : (y : ℕ) (k : Kind) (e : ℕ × ℕ) → Stands old y k e → Stands new y k e
  pub from : (y : ℕ) (k : Kind) (e : ℕ × ℕ) → Stands new y k e
      → Stands old y k e ⊎ (e ≡ entry)

-- so for each place of the side u of the pair i
pub record AreNoted (power : Bool) (old new : List (List Group)) (u : Word) (i : ℕ)
    : Type 0 where
  pub all : (p : ℕ) → p < length u
      → Stands new (slice_index_or u p 0) (kind_of power u p) (i, told power p)
  pub still : (y : ℕ) (k : Kind) (e : ℕ × ℕ) → Stands old y k e → Stands new y k e
  pub from : (y : ℕ) (k : Kind) (e : ℕ × ℕ) → Stands new y k e
      → Stands old y k e ⊎ ((e.0 ≡ i) × (e.1 < length u))

-- as a power, or as another side
abbrev pub IsSideNoted : List (List Group) → List (List Group) → Word → ℕ → Type 0
IsSideNoted old new u i = (power : Bool) × AreNoted power old new u i

-- what is asked for where a side is read from the node on, at one of its places
abbrev pub IsDueAtPlace : Bool → Graph → ℕ → Word × Word → ℕ → Due → Type 0
IsDueAtPlace second g node pair p due = IsDueBehind g node (take p (side_of second pair))
    (side_of second pair) (other_of second pair) due

-- so at each place of the list
abbrev pub IsDueAtPlaces : Bool → Graph → List (Word × Word) → ℕ → ℕ → Places → Due → Type 0
IsDueAtPlaces second g pairs node letter places Nothing = (i p : ℕ) (d : Word × Word)
    → IsAmong (i, p) places → IsDueAtPlace second g node (slice_index_or pairs i d) p Nothing
IsDueAtPlaces second g pairs node letter places (Edge j a m) =
    IsDueThrough g pairs node letter (Edge j a m)
IsDueAtPlaces second g pairs node letter places (Join j a t m) =
    IsDueThrough g pairs node letter (Join j a t m)

-- what powers of the list ask for across the edge
abbrev pub IsDueInPowers : Bool → Graph → List (Word × Word) → ℕ → ℕ → Places → Due → Type 0
IsDueInPowers second g pairs node letter places Nothing = (i p : ℕ) (d : Word × Word)
    → IsAmong (i, p) places → IsDueAlong g node letter (side_of second (slice_index_or pairs i d))
    (side_of second (slice_index_or pairs i d)) (other_of second (slice_index_or pairs i d)) Nothing
IsDueInPowers second g pairs node letter places (Edge j a m) =
    IsDueThrough g pairs node letter (Edge j a m)
IsDueInPowers second g pairs node letter places (Join j a t m) =
    IsDueThrough g pairs node letter (Join j a t m)

-- what the pairs of a list ask for at the node
abbrev pub IsDueInList : Graph → List (Word × Word) → ℕ → Places → Due → Type 0
IsDueInList g pairs node list Nothing = (i p : ℕ) (d : Word × Word) → IsAmong (i, p) list
    → IsQuietBoth g node (slice_index_or pairs i d).0 (slice_index_or pairs i d).1
IsDueInList g pairs node list (Edge j a m) = IsDueAt g node pairs (Edge j a m)
IsDueInList g pairs node list (Join j a t m) = IsDueAt g node pairs (Join j a t m)

-- what is asked for at places of the kind: those in front are read at the node
abbrev pub IsDueOfKind : Bool → Graph → List (Word × Word) → ℕ → ℕ → Kind → Places → Due → Type 0
IsDueOfKind second g pairs node letter Power places due =
    IsDueInPowers second g pairs node letter places due
IsDueOfKind second g pairs node letter Front places due =
    IsDueInList g pairs node places due
IsDueOfKind second g pairs node letter (Before b) places due =
    IsDueAtPlaces second g pairs node letter places due
IsDueOfKind second g pairs node letter (Behind b) places due =
    IsDueAtPlaces second g pairs node letter places due

-- no place of the kind is crossed: the letter behind it does not lead on, or that before it does
-- not lead to the node
abbrev pub IsShut : Graph → ℕ → ℕ → Kind → Type 0
IsShut g node letter Power = ⊥
IsShut g node letter Front = ⊥
IsShut g node letter (Before b) = path g node (letter ∷ b ∷ []) ≡ None
IsShut g node letter (Behind b) = (n : ℕ) → target g n b ≡ Some node → ⊥

-- what a group asks for
abbrev pub IsDueInGroup : Bool → Graph → List (Word × Word) → ℕ → ℕ → Group → Due → Type 0
IsDueInGroup second g pairs node letter group Nothing = IsShut g node letter group.kind
    ⊎ IsDueOfKind second g pairs node letter group.kind group.places Nothing
IsDueInGroup second g pairs node letter group (Edge j a m) =
    IsDueThrough g pairs node letter (Edge j a m)
IsDueInGroup second g pairs node letter group (Join j a t m) =
    IsDueThrough g pairs node letter (Join j a t m)

-- what the first sides of the pairs ask for, or the second, where they cross the edge
abbrev pub IsDueInSides : Bool → Graph → List (Word × Word) → ℕ → ℕ → Due → Type 0
IsDueInSides second g pairs node letter Nothing = (i : ℕ) (d : Word × Word) → i < length pairs
    → IsDueAlong g node letter (side_of second (slice_index_or pairs i d))
    (side_of second (slice_index_or pairs i d)) (other_of second (slice_index_or pairs i d)) Nothing
IsDueInSides second g pairs node letter (Edge j a m) = IsDueThrough g pairs node letter (Edge j a m)
IsDueInSides second g pairs node letter (Join j a t m) = IsDueThrough g pairs node letter
    (Join j a t m)
