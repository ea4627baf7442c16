-- Relations that were seen to hold at nodes.
use Rattle.std.proofs.Common.{◌≡◌, ℕ, zero, suc, ◌-◌, min, [], ◌∷◌, ◌++◌, ◌/◌, true, ◌*◌, ◌%◌, ◌^◌, ◌<◌, ◌≤◌, ◌⊎◌, List, refl, sym, ◌∙◌, ap, subst, arith, inl, inr, Some, length, get_or, set, take, drop, slice_index, eqb, w64, Bool, false, Option, None, option_and_then, ◌+◌}
use Rattle.std.proofs.lemmas.Bool.{cases_eq, cases_lt, eqb-true}
use Rattle.std.proofs.lemmas.List.{get_or_read, get_or-take, get_or_past, get_or-set_same, get_or-set_other, length-take, take-append-drop}
use Rattle.std.proofs.lemmas.Nat.{and_le_l, shr-shr, shr_le}
use Rattle.std.proofs.lemmas.Nat.Bits.{bit_at-lt, bit_at-trailing_ones, bit_at-trailing_zeros, bit_at-zero, bit_at_ones, bit_at_and, bit_at_clear_other, bit_at_clear_same, bit_at_not, bit_at_set_other, bit_at_set_same, shr_and_one}
use Rattle.std.specs.Int.{bit_at, bit_not, trailing_ones, trailing_zeros}
use Rattle.std.specs.Prelude.{bit_and, bit_or, IfSome}
use Rattle.theory.specs.Word.{Word}
use Rattle.theory.specs.Graph.{Graph, path, target}
use Rattle.coincidence.specs.Holding.{MeetAt}
use Rattle.coincidence.specs.Merging.{EdgesReached, IsFolded, IsReached}
use Rattle.theory.proofs.GraphLaws.{path_append}
use Rattle.coincidence.specs.Rings.{turned}
use Rattle.coincidence.specs.Places.{HasBit, IsMaskOf, IsWith, Places}
use Rattle.coincidence.specs.Seen.{AreSidesOf, HoldWhereSeen, IsSeen}
use Rattle.coincidence.specs.Uses.{other_of, side_of}
use Rattle.word_graph.proofs.WalkLaws.{some_same}
use Rattle.coincidence.proofs.MergeLaws.{folded_path}

-- past the last number nothing was seen
none_seen : (seen : List ℕ) (n i : ℕ) → length seen ≤ n → IsSeen seen n i → ⊥
none_seen seen n i past h =
    let none : bit_at (get_or seen n 0) i ≡ 0 = ap (λ z. bit_at z i) (get_or_past seen n 0 past) ∙ bit_at-zero i in
    omega (arith, none, h.1)

-- the bit that is tested
pub bit_seen : (seen : List ℕ) (node relation word : ℕ) → relation < 64 → node < length seen → word ≡ get_or seen node word → eqb (bit_and (word / 2 ^ relation) 1) 1 ≡ true → IsSeen seen node relation
bit_seen seen node relation word few less read is =
    let at : word ≡ get_or seen node 0 = get_or_read seen node word less read 0 in
    (few, ap (λ z. bit_at z relation) (sym at) ∙ sym (shr_and_one word relation) ∙ eqb-true (bit_and (word / 2 ^ relation) 1) 1 is)

-- and those of a run of bits from one on
pub run_seen : (seen : List ℕ) (node relation word i : ℕ) → word < 2 ^ 64 → node < length seen → word ≡ get_or seen node word → relation ≤ i → i < 64 → i < relation + trailing_ones w64 (word / 2 ^ relation) → IsSeen seen node i
run_seen seen node relation word i small less read from few within = (few, ap (λ z. bit_at z i) (sym at) ∙ ap (bit_at word) split ∙ ap (λ x. x % 2) (sym (shr-shr word relation (i - relation))) ∙ one (cases_lt (word / 2 ^ relation + 1) (2 ^ 64)))
  where
    at : word ≡ get_or seen node 0
    at = get_or_read seen node word less read 0

    split : i ≡ relation + (i - relation)
    split = omega (arith, from)

    one : (word / 2 ^ relation + 1 < 2 ^ 64) ⊎ (2 ^ 64 ≤ word / 2 ^ relation + 1) → bit_at (word / 2 ^ relation) (i - relation) ≡ 1
    one (inl below) = (bit_at-trailing_ones w64 (word / 2 ^ relation) below).2 (i - relation) (omega (arith, from, within))
    one (inr all) = ap (λ z. bit_at z (i - relation)) (full all) ∙ bit_at_ones 64 (i - relation) (omega (arith, few))
      where
        full : 2 ^ 64 ≤ word / 2 ^ relation + 1 → word / 2 ^ relation ≡ 2 ^ 64 - 1
        full all = omega (arith, all, small, shr_le word relation)

-- the bits of a mask that another has not
pub bits_without : (mask word : ℕ) → word < 2 ^ 64 → (i : ℕ) → HasBit mask i → HasBit (bit_and mask (bit_not w64 word)) i ⊎ HasBit word i
bits_without mask word small i h = elim (cases_eq (bit_at word i) 1) [
  | inl one ↦ inr (h.0, one)
  | inr off ↦ inl (h.0, bit_at_and mask (bit_not w64 word) i ∙ both (bit_at word i) (bit_at mask i) (bit_at (bit_not w64 word) i) (bit_at-lt word i) off h.1 (bit_at_not w64 word i small h.0))
]
  where
    both : (a b c : ℕ) → a < 2 → (a ≡ 1 → ⊥) → b ≡ 1 → c ≡ 1 - a → min b c ≡ 1
    both a b c few off e f =
        let none : a ≡ 0 = omega (arith, few, off) in
        let one : c ≡ 1 = f ∙ ap (λ z. 1 - z) none in
        ap (λ z. min z c) e ∙ ap (min 1) one

-- those that are not those of a node
pub bits_unseen : (seen : List ℕ) (node mask word result : ℕ) → node < length seen → word ≡ get_or seen node word → ((i : ℕ) → HasBit mask i → HasBit result i ⊎ HasBit word i)
    → (i : ℕ) → HasBit mask i → HasBit result i ⊎ IsSeen seen node i
bits_unseen seen node mask word result less read left i h = elim (left i h) [
  | inl still ↦ inl still
  | inr was ↦ inr (subst (λ z. HasBit z i) (get_or_read seen node word less read 0) was)
]

-- the lowest bit is taken away
module _ (mask first : ℕ) (some : mask ≡ 0 → ⊥) (small : mask < 2 ^ 64) (is : first ≡ trailing_zeros w64 mask) where
  lowest : (first < 64) × (bit_at mask first ≡ 1)
  lowest =
      let low = bit_at-trailing_zeros w64 mask (omega (arith, some)) small in
      subst (λ z. (z < 64) × (bit_at mask z ≡ 1)) (sym is) (low.0, low.1)

  pub first_taken : (i : ℕ) → HasBit mask i → (i ≡ first) ⊎ HasBit (bit_and mask (bit_not w64 (1 * 2 ^ first % 2 ^ 64))) i
  first_taken i h = elim (cases_eq i first) [
    | inl same ↦ inl same
    | inr off ↦ inr (h.0, bit_at_clear_other w64 mask first lowest.0 i h.0 off ∙ h.1)
  ]

  pub first_less : bit_and mask (bit_not w64 (1 * 2 ^ first % 2 ^ 64)) < mask
  first_less = go (cases_eq left mask)
    where
      left : ℕ
      left = bit_and mask (bit_not w64 (1 * 2 ^ first % 2 ^ 64))

      go : (left ≡ mask) ⊎ (left ≡ mask → ⊥) → left < mask
      go (inl same) = absurd (let no : 0 ≡ 1 = sym (bit_at_clear_same w64 mask first lowest.0) ∙ ap (λ z. bit_at z first) same ∙ lowest.1 in omega (arith, no))
      go (inr off) = let most = and_le_l mask (bit_not w64 (1 * 2 ^ first % 2 ^ 64)) in omega (arith, most, off)

pub no_bit : (mask i : ℕ) → mask ≡ 0 → HasBit mask i → ⊥
no_bit mask i none h = let e : bit_at mask i ≡ 0 = ap (λ z. bit_at z i) none ∙ bit_at-zero i in omega (arith, e, h.1)

-- one bit more
pub bit_here : (mask i : ℕ) → i < 64 → HasBit (bit_or mask (1 * 2 ^ i % 2 ^ 64)) i
bit_here mask i few = (few, bit_at_set_same w64 mask i few)

pub bit_still : (mask i b : ℕ) → i < 64 → HasBit mask b → HasBit (bit_or mask (1 * 2 ^ i % 2 ^ 64)) b
bit_still mask i b few h = elim (cases_eq b i) [
  | inl same ↦ subst (HasBit (bit_or mask (1 * 2 ^ i % 2 ^ 64))) (sym same) (bit_here mask i few)
  | inr off ↦ (h.0, bit_at_set_other w64 mask i few b off ∙ h.1)
]

pub bit_from : (mask i b : ℕ) → i < 64 → HasBit (bit_or mask (1 * 2 ^ i % 2 ^ 64)) b → HasBit mask b ⊎ (b ≡ i)
bit_from mask i b few h = elim (cases_eq b i) [
  | inl same ↦ inr same
  | inr off ↦ inl (h.0, sym (bit_at_set_other w64 mask i few b off) ∙ h.1)
]

-- the mask of a list with a place more
pub mask_grown : (old new : Places) (place : ℕ × ℕ) (mask result : Option ℕ) → IsWith old new place → IfSome mask (λ m. IsMaskOf m old)
    → IfSome result (λ m. HasBit m place.0 × ((was : ℕ) × (mask ≡ Some was) × ((i : ℕ) → HasBit was i → HasBit m i))) → IfSome result (λ m. IsMaskOf m new)
mask_grown old new place mask None more is h = tt
mask_grown old new place mask (Some m) more is (here, rest) = λ i p among. elim (more.2 (i, p) among) [
  | inl before ↦ rest.2 i (subst (λ z. IfSome z (λ n. IsMaskOf n old)) rest.1 is i p before)
  | inr e ↦ subst (λ (z : ℕ × ℕ). HasBit m z.0) (sym e) here
]

-- a number more, with no bit
pub pushed_zero : (seen : List ℕ) (n : ℕ) → get_or (seen ++ 0 ∷ []) n 0 ≡ get_or seen n 0
pushed_zero [] zero = refl
pushed_zero [] (suc n) = refl
pushed_zero (x ∷ seen) zero = refl
pushed_zero (x ∷ seen) (suc n) = pushed_zero seen n

-- of the nodes behind one nothing is kept
pub seen_cut : (old new : List ℕ) (node : ℕ) → new ≡ take node old → (n i : ℕ) → IsSeen new n i → IsSeen old n i × (n < node)
seen_cut old new node is n i h = elim (cases_lt n node) [
  | inl less ↦ ((h.0, ap (λ z. bit_at z i) (sym (get_or-take node old n 0 less)) ∙ ap (λ z. bit_at (get_or z n 0) i) (sym is) ∙ h.1), less)
  | inr past ↦ absurd (none_seen new n i (omega (arith, past, ap length is, length-take node old)) h)
]

-- one relation more
pub seen_noted : (old made new : List ℕ) (node relation word : ℕ) → relation < 64 → node < length made → ((n : ℕ) → get_or made n 0 ≡ get_or old n 0) → word ≡ get_or made node 0
    → new ≡ set made node (bit_or word (1 * 2 ^ relation % 2 ^ 64)) → (n i : ℕ) → IsSeen new n i → IsSeen old n i ⊎ ((n ≡ node) × (i ≡ relation))
seen_noted old made new node relation word few less same word_is is n i h = elim (cases_eq n node) [
  | inr other ↦ inl (h.0, ap (λ z. bit_at z i) (sym (ap (λ z. get_or z n 0) is ∙ get_or-set_other made node n (bit_or word (1 * 2 ^ relation % 2 ^ 64)) 0 other ∙ same n)) ∙ h.1)
  | inl here ↦ elim (cases_eq i relation) [
    | inl e ↦ inr (here, e)
    | inr off ↦
        let value = bit_or word (1 * 2 ^ relation % 2 ^ 64) in
        let now : get_or new node 0 ≡ value = ap (λ z. get_or z node 0) is ∙ get_or-set_same made node value 0 less in
        let before : word ≡ get_or old node 0 = word_is ∙ same node in
        let stays : bit_at value i ≡ bit_at word i = bit_at_set_other w64 word relation few i off in
        inl (h.0, ap (λ z. bit_at (get_or old z 0) i) here ∙ ap (λ z. bit_at z i) (sym before) ∙ sym stays ∙ ap (λ z. bit_at z i) (sym now) ∙ ap (λ z. bit_at (get_or new z 0) i) (sym here) ∙ h.1)
  ]
]

module _ (pairs : List (Word × Word)) where
  -- and it holds there
  pub seen_more : (g : Graph) (old new : List ℕ) (node i : ℕ) (p : Word × Word) → i < length pairs → p ≡ get_or pairs i p → MeetAt g node p
      → ((n k : ℕ) → IsSeen new n k → IsSeen old n k ⊎ ((n ≡ node) × (k ≡ i))) → HoldWhereSeen pairs g old → HoldWhereSeen pairs g new
  seen_more g old new node i p less at meets noted hold n k d h r = elim (noted n k h) [
    | inl was ↦ hold n k d was r
    | inr is ↦ subst (λ z. MeetAt g z (get_or pairs k d)) (sym is.0) (subst (λ z. MeetAt g node (get_or pairs z d)) (sym is.1) (subst (MeetAt g node) (get_or_read pairs i p less at d) meets))
  ]

  -- where paths stay, what was seen holds still
  pub seen_kept : (old new : Graph) (seen later : List ℕ) → ((n m : ℕ) (u : Word) → path old n u ≡ Some m → path new n u ≡ Some m)
      → ((n i : ℕ) → IsSeen later n i → IsReached new n → IsSeen seen n i × IsReached old n) → HoldWhereSeen pairs old seen → HoldWhereSeen pairs new later
  seen_kept old new seen later stays was hold n i d h r =
      let before = was n i h r in
      let met = hold n i d before.0 before.1 in
      (met.0, stays n met.0 (get_or pairs i d).0 met.1, stays n met.0 (get_or pairs i d).1 met.2)

  -- and where nodes became one
  pub seen_folded : (old : Graph) (class : List ℕ) (new : Graph) (seen : List ℕ) → IsFolded old class new → ((n : ℕ) → IsReached new n → IsReached old n × (slice_index class n ≡ n))
      → HoldWhereSeen pairs old seen → HoldWhereSeen pairs new seen
  seen_folded old class new seen folded own hold n i d h r =
      let o = own n r in
      let met = hold n i d h o.0 in
      let goes : (u : Word) → path old n u ≡ Some met.0 → path new n u ≡ Some (slice_index class met.0) = λ u e. subst (λ z. path new z u ≡ Some (slice_index class met.0)) o.1 (folded_path old class new folded n met.0 u e) in
      (slice_index class met.0, goes (get_or pairs i d).0 met.1, goes (get_or pairs i d).1 met.2)

  pub seen_nothing : (g : Graph) (seen : List ℕ) → length seen ≡ 0 → HoldWhereSeen pairs g seen
  seen_nothing g seen none n i d h r = absurd (none_seen seen n i (omega (arith, none)) h)

-- a word that leads home and stays as it is when turned does so from where its first letters lead
pub round_on : (g : Graph) (at next count : ℕ) (side : Word) → turned count side ≡ side → path g at side ≡ Some at → path g at (take count side) ≡ Some next → path g next side ≡ Some next
round_on g at next count side stays home leads =
    sym (ap (path g next) stays) ∙ path_append g next at (drop count side) (take count side) back ∙ leads
  where
    back : path g next (drop count side) ≡ Some at
    back = sym (path_append g at next (take count side) (drop count side) leads) ∙ ap (path g at) (take-append-drop count side) ∙ home

-- one node more on the way round
pub round_noted : (g : Graph) (side : Word) (relation node : ℕ) (first old new : List ℕ) → path g node side ≡ Some node
    → ((n i : ℕ) → IsSeen new n i → IsSeen old n i ⊎ ((n ≡ node) × (i ≡ relation)))
    → ((n i : ℕ) → IsSeen old n i → IsSeen first n i ⊎ ((i ≡ relation) × (path g n side ≡ Some n)))
    → (n i : ℕ) → IsSeen new n i → IsSeen first n i ⊎ ((i ≡ relation) × (path g n side ≡ Some n))
round_noted g side relation node first old new home noted before n i h = elim (noted n i h) [
  | inl was ↦ before n i was
  | inr is ↦ inr (is.1, subst (λ z. path g z side ≡ Some z) (sym is.0) home)
]

-- a pair of which the second side is empty leads home where it holds
pub met_home : (g : Graph) (node : ℕ) (side other : Word) → other ≡ [] → MeetAt g node (side, other) → path g node side ≡ Some node
met_home g node side other empty met = met.1 ∙ sym met.2 ∙ ap (path g node) empty

-- and holds where it leads home
pub seen_round : (pairs : List (Word × Word)) (g : Graph) (relation : ℕ) (pair : Word × Word) (old new : List ℕ) → relation < length pairs → pair ≡ get_or pairs relation pair → pair.1 ≡ []
    → ((n i : ℕ) → IsSeen new n i → IsSeen old n i ⊎ ((i ≡ relation) × (path g n pair.0 ≡ Some n))) → HoldWhereSeen pairs g old → HoldWhereSeen pairs g new
seen_round pairs g relation pair old new less at empty noted hold n k d h r = elim (noted n k h) [
  | inl was ↦ hold n k d was r
  | inr is ↦ subst (λ z. MeetAt g n (get_or pairs z d)) (sym is.0) (subst (MeetAt g n) (get_or_read pairs relation pair less at d) (n, is.1, ap (path g n) empty))
]

-- the sides of a pair, one or the other first
module _ (pairs : List (Word × Word)) (i : ℕ) (one other : Word) where
  pub sides_meet : (g : Graph) (node : ℕ) (p : Word × Word) → AreSidesOf pairs i one other → MeetAt g node (get_or pairs i p) → MeetAt g node (one, other)
  sides_meet g node p of met = elim (of.1 p) [
    | inl is ↦ (met.0, ap (path g node) is.0 ∙ met.1, ap (path g node) is.1 ∙ met.2)
    | inr is ↦ (met.0, ap (path g node) is.0 ∙ met.2, ap (path g node) is.1 ∙ met.1)
  ]

  pub seen_sides : (g : Graph) (old new : List ℕ) (node : ℕ) → AreSidesOf pairs i one other → MeetAt g node (one, other)
      → ((n k : ℕ) → IsSeen new n k → IsSeen old n k ⊎ ((n ≡ node) × (k ≡ i))) → HoldWhereSeen pairs g old → HoldWhereSeen pairs g new
  seen_sides g old new node of met noted hold n k d h r = elim (noted n k h) [
    | inl was ↦ hold n k d was r
    | inr is ↦ subst (λ z. MeetAt g z (get_or pairs k d)) (sym is.0) (subst (λ z. MeetAt g node (get_or pairs z d)) (sym is.1) meets)
  ]
    where
      meets : MeetAt g node (get_or pairs i d)
      meets = elim (of.1 d) [
        | inl is ↦ (met.0, ap (path g node) (sym is.0) ∙ met.1, ap (path g node) (sym is.1) ∙ met.2)
        | inr is ↦ (met.0, ap (path g node) (sym is.1) ∙ met.2, ap (path g node) (sym is.0) ∙ met.1)
      ]

pub sides_of_pair : (second : Bool) (pairs : List (Word × Word)) (i : ℕ) (pair : Word × Word) (one other : Word) → i < length pairs → pair ≡ get_or pairs i pair → one ≡ side_of second pair → other ≡ other_of second pair → AreSidesOf pairs i one other
sides_of_pair false pairs i pair one other less at o t = (less, λ p. let read = get_or_read pairs i pair less at p in inl (o ∙ ap (λ (z : Word × Word). z.0) read, t ∙ ap (λ (z : Word × Word). z.1) read))
sides_of_pair true pairs i pair one other less at o t = (less, λ p. let read = get_or_read pairs i pair less at p in inr (o ∙ ap (λ (z : Word × Word). z.1) read, t ∙ ap (λ (z : Word × Word). z.0) read))

-- a node from which a word leads to one that is reached is reached
pub reached_behind : (g : Graph) (node n : ℕ) (front : Word) → EdgesReached g → IsReached g node → path g n front ≡ Some node → IsReached g n
reached_behind g node n [] edges reached e = subst (IsReached g) (sym (some_same n node e)) reached
reached_behind g node n (a ∷ front) edges reached e = go (target g n a) refl e
  where
    go : (t : Option ℕ) → target g n a ≡ t → option_and_then (λ next. path g next front) t ≡ Some node → IsReached g n
    go None h e = cc
    go (Some t) h e = edges n a t h
