-- Reading at a node by the letters that lead on.
use Rattle.std.proofs.Common.{◌≡◌, ℕ, ◌+◌, ◌-◌, ◌<◌, ◌≤◌, List, [], ◌∷◌, refl, sym, ◌∙◌, ap, subst, arith, ◌⊎◌, inl, inr, Option, Some, None, option_and_then, length, get_or, take}
use Rattle.std.proofs.lemmas.Bool.{cases_eq, cases_lt}
use Rattle.std.proofs.lemmas.List.{get_or_default, get_or_read}
use Rattle.theory.specs.Word.{Word}
use Rattle.theory.specs.Graph.{Graph, target, path, IsGraph, IsClosedAt}
use Rattle.word_graph.proofs.EdgeLaws.{target_in}
use Rattle.coincidence.specs.DueSpec.{IsDueAt}
use Rattle.coincidence.specs.Pending.{IsAmong}
use Rattle.coincidence.specs.Reading.{IsQuietBoth, IsDueBoth}
use Rattle.coincidence.specs.Merging.{IsReached}
use Rattle.coincidence.specs.Places.{HasBit, Places}
use Rattle.coincidence.specs.Seen.{HoldWhereSeen, IsSeen}
use Rattle.coincidence.specs.Starts.{AreFirstLetters, AreStarts, Begins, IsDueByLetter, IsDueInMask, IsShutAt, list_for, start_in, start_of}
use Rattle.coincidence.specs.Uses.{IsDueInList, IsNoted, list_at}
use Rattle.coincidence.specs.declared.due.Due.{Due}
use Rattle.coincidence.specs.declared.due.Due.TheVariants.{Nothing, Edge, Join}
use Rattle.coincidence.proofs.DueLaws.{pair_contained, quiet_closed}
use Rattle.coincidence.proofs.PlaceLaws.{place_of}
use Rattle.coincidence.proofs.ReadLaws.{at_found, met_quiet, stopped_quiet}

-- the first pairs stand in their lists
pub record AreStartsTo (pairs : List (Word × Word)) (lists : List Places) (count : ℕ) : Type 0 where
  pub within : (a i p : ℕ) → IsAmong (i, p) (list_at lists a) → i < count
  pub all : (i : ℕ) (d : Word × Word) → i < count → IsAmong (i, 0) (list_at lists (start_of (get_or pairs i d)))

pub starts_step : (pairs : List (Word × Word)) (old new : List Places) (count : ℕ) (pair : Word × Word) → count < length pairs → pair ≡ get_or pairs count pair
    → IsNoted old new (start_of pair) (count, 0) → AreStartsTo pairs old count → AreStartsTo pairs new (count + 1)
starts_step pairs old new count pair less at noted k = record {
  within = λ a i p h. elim (noted.from a (i, p) h) [
    | inl there ↦ omega (arith, k.within a i p there)
    | inr e ↦ (let same : i ≡ count = ap (λ (z : ℕ × ℕ). z.0) e in omega (arith, same))
  ];
  all = λ i d l. elim (cases_eq i count) [
    | inr off ↦ noted.still (start_of (get_or pairs i d)) (i, 0) (k.all i d (omega (arith, l, off)))
    | inl same ↦ subst (λ z. IsAmong (z, 0) (list_at new (start_of (get_or pairs z d)))) (sym same)
        (subst (λ (z : Word × Word). IsAmong (count, 0) (list_at new (start_of z))) (get_or_read pairs count pair less at d) noted.here)
  ];
}

pub starts_end : (pairs : List (Word × Word)) (lists : List Places) (count : ℕ) → count ≡ length pairs → AreStartsTo pairs lists count → AreStarts pairs lists
starts_end pairs lists count end k = record {
  within = λ a i p h. omega (arith, k.within a i p h, end);
  all = λ i d less. k.all i d (omega (arith, less, end));
}

-- the first pairs of a list ask for nothing
abbrev pub AreQuietTo : Graph → List (Word × Word) → ℕ → Places → ℕ → Type 0
AreQuietTo g pairs node list count = (k : ℕ) (d : Word × Word) → k < count
    → IsQuietBoth g node (get_or pairs (get_or list k (0, 0)).0 d).0 (get_or pairs (get_or list k (0, 0)).0 d).1

pub list_more : (g : Graph) (pairs : List (Word × Word)) (node : ℕ) (list : Places) (k : ℕ) (pair : Word × Word) → (get_or list k (0, 0)).0 < length pairs → pair ≡ get_or pairs (get_or list k (0, 0)).0 pair
    → IsQuietBoth g node pair.0 pair.1 → AreQuietTo g pairs node list k → AreQuietTo g pairs node list (k + 1)
list_more g pairs node list k pair within at one quiet = λ i d l. elim (cases_eq i k) [
  | inr off ↦ quiet i d (omega (arith, l, off))
  | inl same ↦ subst (λ z. IsQuietBoth g node (get_or pairs (get_or list z (0, 0)).0 d).0 (get_or pairs (get_or list z (0, 0)).0 d).1) (sym same)
      (subst (λ (z : Word × Word). IsQuietBoth g node z.0 z.1) (get_or_read pairs (get_or list k (0, 0)).0 pair within at d) one)
]

pub list_end : (g : Graph) (pairs : List (Word × Word)) (node : ℕ) (list : Places) (k : ℕ) → k ≡ length list → AreQuietTo g pairs node list k → IsDueInList g pairs node list Nothing
list_end g pairs node list k end quiet i p d h =
    let r = place_of (i, p) (0, 0) list h in
    subst (λ (z : ℕ × ℕ). IsQuietBoth g node (get_or pairs z.0 d).0 (get_or pairs z.0 d).1) r.2 (quiet r.0 d (omega (arith, r.1, end)))

-- pairs that hold ask for nothing, nor do those of the mask
pub mask_list : (g : Graph) (pairs : List (Word × Word)) (node mask : ℕ) (list : Places) (seen : List ℕ) (due : Due) → IsReached g node → HoldWhereSeen pairs g seen
    → ((i p : ℕ) → IsAmong (i, p) list → i < length pairs) → ((i p : ℕ) → IsAmong (i, p) list → HasBit mask i ⊎ IsSeen seen node i) → IsDueInMask g pairs node mask due → IsDueInList g pairs node list due
mask_list g pairs node mask list seen Nothing reached hold within all quiet = λ i p d h. elim (all i p h) [
  | inl bit ↦ quiet i d bit (within i p h)
  | inr was ↦ (let met = hold node i d was reached in met_quiet g node met.0 (get_or pairs i d).0 (get_or pairs i d).1 met.1 met.2)
]
mask_list g pairs node mask list seen (Edge j a m) reached hold within all asks = asks
mask_list g pairs node mask list seen (Join j a t m) reached hold within all asks = asks

-- of the pairs of a mask those that are not left ask for nothing
abbrev pub AreQuietBut : Graph → List (Word × Word) → ℕ → ℕ → ℕ → Type 0
AreQuietBut g pairs node mask left = (i : ℕ) (d : Word × Word) → HasBit mask i → i < length pairs
    → HasBit left i ⊎ IsQuietBoth g node (get_or pairs i d).0 (get_or pairs i d).1

pub mask_more : (g : Graph) (pairs : List (Word × Word)) (node mask left next first : ℕ) → ((i : ℕ) → HasBit left i → (i ≡ first) ⊎ HasBit next i)
    → (first < length pairs → (d : Word × Word) → IsQuietBoth g node (get_or pairs first d).0 (get_or pairs first d).1) → AreQuietBut g pairs node mask left → AreQuietBut g pairs node mask next
mask_more g pairs node mask left next first others quiet before i d h less = elim (before i d h less) [
  | inr done ↦ inr done
  | inl still ↦ elim (others i still) [
    | inr later ↦ inl later
    | inl same ↦ inr (subst (λ z. IsQuietBoth g node (get_or pairs z d).0 (get_or pairs z d).1) (sym same) (quiet (subst (λ z. z < length pairs) same less) d))
  ]
]

pub mask_end : (g : Graph) (pairs : List (Word × Word)) (node mask left : ℕ) → ((i : ℕ) → HasBit left i → ⊥) → AreQuietBut g pairs node mask left → IsDueInMask g pairs node mask Nothing
mask_end g pairs node mask left none quiet i d h less = elim (quiet i d h less) [ inl still ↦ absurd (none i still) | inr done ↦ done ]

pub mask_found : (g : Graph) (pairs : List (Word × Word)) (node mask i : ℕ) (due : Due) → (due ≡ Nothing → ⊥) → i < length pairs
    → (i < length pairs → (d : Word × Word) → IsDueBoth g node (get_or pairs i d).0 (get_or pairs i d).1 due) → IsDueInMask g pairs node mask due
mask_found g pairs node mask i due not less h =
    let pair = get_or pairs i ([], []) in
    go due not (at_found g node pairs pair due not (pair_contained pairs i pair less (get_or_default pairs i ([], []) pair less)) (h less ([], [])))
  where
    go : (due : Due) → (due ≡ Nothing → ⊥) → IsDueAt g node pairs due → IsDueInMask g pairs node mask due
    go Nothing not h = absurd (not refl)
    go (Edge j a m) not h = h
    go (Join j a t m) not h = h

pub list_found : (g : Graph) (pairs : List (Word × Word)) (node i : ℕ) (list : Places) (pair : Word × Word) (due : Due) → (due ≡ Nothing → ⊥) → i < length pairs → pair ≡ get_or pairs i pair
    → IsDueBoth g node pair.0 pair.1 due → IsDueInList g pairs node list due
list_found g pairs node i list pair due not less at h = go due not (at_found g node pairs pair due not (pair_contained pairs i pair less at) h)
  where
    go : (due : Due) → (due ≡ Nothing → ⊥) → IsDueAt g node pairs due → IsDueInList g pairs node list due
    go Nothing not h = absurd (not refl)
    go (Edge j a m) not h = h
    go (Join j a t m) not h = h

-- what a list asks for
pub by_letter : (g : Graph) (pairs : List (Word × Word)) (node x : ℕ) (lists : List Places) (due : Due) → IsDueInList g pairs node (list_at lists (x + 1)) due → IsDueByLetter g pairs node lists x due
by_letter g pairs node x lists Nothing h = inr h
by_letter g pairs node x lists (Edge j a m) h = h
by_letter g pairs node x lists (Join j a t m) h = h

-- a side stops where its first letter does not lead on
front_stops : (g : Graph) (node x y : ℕ) (side : Word) → target g node x ≡ None → path g node (take (length (x ∷ y ∷ side) - 1) (x ∷ y ∷ side)) ≡ None
front_stops g node x y side none =
    let long : length (x ∷ y ∷ side) - 1 ≡ length (y ∷ side) = omega arith in
    subst (λ n. path g node (take n (x ∷ y ∷ side)) ≡ None) (sym long) (ap (λ z. option_and_then (λ next. path g next (take (length side) (y ∷ side))) z) none)

start_stops : (g : Graph) (node x : ℕ) (side : Word) → start_in side ≡ Some x → target g node x ≡ None → path g node (take (length side - 1) side) ≡ None
start_stops g node x [] e none = cc
start_stops g node x (a ∷ []) e none = cc
start_stops g node x (a ∷ b ∷ side) e none = front_stops g node a b side (ap (target g node) (some_is a x e) ∙ none)
  where
    some_is : (a x : ℕ) → ◌≡◌ {A = Option ℕ} (Some a) (Some x) → a ≡ x
    some_is a x e = cc

-- a pair asks for nothing where its list does not, or its letter does not lead on
pair_quiet : (g : Graph) (node : ℕ) (pair : Word × Word) (first second : Option ℕ) → start_in pair.0 ≡ first → start_in pair.1 ≡ second
    → (list_for first second ≡ 0 → IsQuietBoth g node pair.0 pair.1)
    → ((x : ℕ) → list_for first second ≡ x + 1 → (target g node x ≡ None) ⊎ IsQuietBoth g node pair.0 pair.1) → IsQuietBoth g node pair.0 pair.1
pair_quiet g node pair (Some x) second one two short long = elim (long x refl) [
  | inl none ↦ stopped_quiet g node pair.0 pair.1 (start_stops g node x pair.0 one none)
  | inr quiet ↦ quiet
]
pair_quiet g node pair None (Some x) one two short long = elim (long x refl) [
  | inl none ↦ (let quiet = stopped_quiet g node pair.1 pair.0 (start_stops g node x pair.1 two none) in (quiet.1, quiet.0))
  | inr quiet ↦ quiet
]
pair_quiet g node pair None None one two short long = short refl

-- one letter more asks for nothing
pub letters_more : (g : Graph) (pairs : List (Word × Word)) (node : ℕ) (lists : List Places) (number x : ℕ) → x ≡ number → IsDueByLetter g pairs node lists x Nothing
    → ((y : ℕ) → y < number → IsDueByLetter g pairs node lists y Nothing) → (y : ℕ) → y < number + 1 → IsDueByLetter g pairs node lists y Nothing
letters_more g pairs node lists number x is one quiet y less = elim (cases_eq y number) [
  | inr off ↦ quiet y (omega (arith, less, off))
  | inl same ↦ subst (λ z. IsDueByLetter g pairs node lists z Nothing) (is ∙ sym same) one
]

-- no letter asks for anything, nor do pairs without one
pub letters_end : (k : ℕ) (g : Graph) (pairs : List (Word × Word)) (node : ℕ) (lists : List Places) → IsGraph k g → AreStarts pairs lists → IsDueInList g pairs node (list_at lists 0) Nothing
    → ((x : ℕ) → x < k → IsDueByLetter g pairs node lists x Nothing) → IsClosedAt pairs g node
letters_end k g pairs node lists graph starts short all = quiet_closed g node pairs (λ i d less.
    pair_quiet g node (get_or pairs i d) (start_in (get_or pairs i d).0) (start_in (get_or pairs i d).1) refl refl
    (λ e. short i 0 d (subst (λ a. IsAmong (i, 0) (list_at lists a)) e (starts.all i d less)))
    (λ x e. by_x i d less x e (target g node x) refl (cases_lt x k)))
  where
    by_x : (i : ℕ) (d : Word × Word) → i < length pairs → (x : ℕ) → start_of (get_or pairs i d) ≡ x + 1 → (o : Option ℕ) → target g node x ≡ o → (x < k) ⊎ (k ≤ x)
        → (target g node x ≡ None) ⊎ IsQuietBoth g node (get_or pairs i d).0 (get_or pairs i d).1
    by_x i d less x e None is where_x = inl is
    by_x i d less x e (Some t) is (inr past) = absurd (omega (arith, past, target_in k g graph node x t is))
    by_x i d less x e (Some t) is (inl before) = elim (all x before) [
      | inl none ↦ inl none
      | inr quiet ↦ inr (quiet i 0 d (subst (λ a. IsAmong (i, 0) (list_at lists a)) e (starts.all i d less)))
    ]

-- a pair asks for nothing where a letter that begins a side of it does not lead on
begun_quiet : (g : Graph) (node x : ℕ) (pair : Word × Word) → Begins x pair → target g node x ≡ None → IsQuietBoth g node pair.0 pair.1
begun_quiet g node x pair begins none = elim begins [
  | inl one ↦ stopped_quiet g node pair.0 pair.1 (start_stops g node x pair.0 one none)
  | inr two ↦ (let quiet = stopped_quiet g node pair.1 pair.0 (start_stops g node x pair.1 two none) in (quiet.1, quiet.0))
]

-- what the pairs of a mask ask for, where the others are shut or hold
pub open_asks : (g : Graph) (pairs : List (Word × Word)) (node every opened mask : ℕ) (letters seen : List ℕ) (due : Due) → AreFirstLetters pairs every letters → IsReached g node → HoldWhereSeen pairs g seen
    → ((i : ℕ) → HasBit every i → HasBit opened i ⊎ IsShutAt g node letters i) → ((i : ℕ) → HasBit opened i → HasBit mask i ⊎ IsSeen seen node i) → IsDueInMask g pairs node mask due → IsDueAt g node pairs due
open_asks g pairs node every opened mask letters seen Nothing first reached hold shut unseen quiet = quiet_closed g node pairs one
  where
    one : (i : ℕ) (d : Word × Word) → i < length pairs → IsQuietBoth g node (get_or pairs i d).0 (get_or pairs i d).1
    one i d less = elim (shut i (first.every i less)) [
      | inr stops ↦ begun_quiet g node stops.0 (get_or pairs i d) (first.only stops.0 i d less stops.1) stops.2
      | inl opens ↦ elim (unseen i opens) [
        | inl bit ↦ quiet i d bit less
        | inr was ↦ (let met = hold node i d was reached in met_quiet g node met.0 (get_or pairs i d).0 (get_or pairs i d).1 met.1 met.2)
      ]
    ]
open_asks g pairs node every opened mask letters seen (Edge j a m) first reached hold shut unseen asks = asks
open_asks g pairs node every opened mask letters seen (Join j a t m) first reached hold shut unseen asks = asks

-- one letter more is looked at
pub open_more : (g : Graph) (node every opened new x : ℕ) (letters : List ℕ) → target g node x ≡ None → ((i : ℕ) → HasBit opened i → HasBit new i ⊎ HasBit (get_or letters x 0) i)
    → ((i : ℕ) → HasBit every i → HasBit opened i ⊎ IsShutAt g node letters i) → (i : ℕ) → HasBit every i → HasBit new i ⊎ IsShutAt g node letters i
open_more g node every opened new x letters none left before i h = elim (before i h) [
  | inr stops ↦ inr stops
  | inl opens ↦ elim (left i opens) [ inl still ↦ inl still | inr gone ↦ inr (x, gone, none) ]
]

-- the first pairs have their bits, and letters those of pairs that they begin
pub record AreFirstLettersTo (pairs : List (Word × Word)) (mask : ℕ) (letters : List ℕ) (count : ℕ) : Type 0 where
  pub every : (i : ℕ) → i < count → HasBit mask i
  pub only : (x i : ℕ) (d : Word × Word) → i < length pairs → HasBit (get_or letters x 0) i → Begins x (get_or pairs i d)

-- bits of a letter that begins a side of the pair, or none more
abbrev pub AreNotedOf : List ℕ → List ℕ → Option ℕ → ℕ → Type 0
AreNotedOf old new first pair = (x i : ℕ) → HasBit (get_or new x 0) i → HasBit (get_or old x 0) i ⊎ ((first ≡ Some x) × (i ≡ pair))

pub first_step : (pairs : List (Word × Word)) (every mask : ℕ) (old mid new : List ℕ) (count : ℕ) (pair : Word × Word) (one two : Option ℕ) → count < length pairs → pair ≡ get_or pairs count pair → one ≡ start_in pair.0 → two ≡ start_in pair.1
    → HasBit mask count → ((i : ℕ) → HasBit every i → HasBit mask i) → AreNotedOf old mid one count → AreNotedOf mid new two count → AreFirstLettersTo pairs every old count → AreFirstLettersTo pairs mask new (count + 1)
first_step pairs every mask old mid new count pair one two less at is_one is_two here still noted later k = record {
  every = λ i l. elim (cases_eq i count) [
    | inl same ↦ subst (HasBit mask) (sym same) here
    | inr off ↦ still i (k.every i (omega (arith, l, off)))
  ];
  only = λ x i d l h. elim (later x i h) [
    | inr new_two ↦ at_pair x i d new_two.1 (inr (sym is_two ∙ new_two.0))
    | inl was ↦ elim (noted x i was) [
      | inr new_one ↦ at_pair x i d new_one.1 (inl (sym is_one ∙ new_one.0))
      | inl before ↦ k.only x i d l before
    ]
  ];
}
  where
    at_pair : (x i : ℕ) (d : Word × Word) → i ≡ count → Begins x pair → Begins x (get_or pairs i d)
    at_pair x i d same begins = subst (λ z. Begins x (get_or pairs z d)) (sym same) (subst (Begins x) (get_or_read pairs count pair less at d) begins)

pub first_end : (pairs : List (Word × Word)) (mask : ℕ) (letters : List ℕ) (count : ℕ) → count ≡ length pairs → AreFirstLettersTo pairs mask letters count → AreFirstLetters pairs mask letters
first_end pairs mask letters count end k = record {
  every = λ i less. k.every i (omega (arith, less, end));
  only = k.only;
}
