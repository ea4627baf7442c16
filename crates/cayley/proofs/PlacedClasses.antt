-- The places of classes among their least numbers.
use Rattle.std.proofs.Common.{◌≡◌, ℕ, ◌+◌, ◌<◌, List, [], ◌∷◌, ◌++◌, length, map, refl, sym, ◌∙◌, ap, subst, arith, inl, inr, slice_index}
use Rattle.std.proofs.Math.Seq.{get_or-append_seam}
use Rattle.std.proofs.lemmas.Bool.{cases_lt}
use Rattle.std.proofs.lemmas.List.{ext_get_or, get_or-map, get_or_append_left, length-map, length_push}
use Rattle.cayley.specs.Placing.{AreNamed, ArePlacedClasses}

-- the numbers before one have their places
pub record ArePlacedTo (classes : List ℕ) (n : ℕ) (roots places : List ℕ) : Type 0 where
  pub count : length places ≡ n
  pub named : (m : ℕ) → m < length roots → (slice_index roots m < n) × (slice_index classes (slice_index roots m) ≡ slice_index roots m)
  pub ascending : (m l : ℕ) → m < l → l < length roots → slice_index roots m < slice_index roots l
  pub placed : (i : ℕ) → i < n → (slice_index places i < length roots) × (slice_index roots (slice_index places i) ≡ slice_index classes i)

pub none_placed : (classes : List ℕ) → ArePlacedTo classes 0 [] []
none_placed classes = record {
  count = refl;
  named = λ m h. absurd (omega arith);
  ascending = λ m l less h. absurd (omega arith);
  placed = λ i h. absurd (omega arith);
}

before_push : (xs : List ℕ) (x i : ℕ) → i < length xs → slice_index (xs ++ x ∷ []) i ≡ slice_index xs i
before_push xs x i h = get_or_append_left xs (x ∷ []) 0 i h

at_push : (xs : List ℕ) (x i : ℕ) → i ≡ length xs → slice_index (xs ++ x ∷ []) i ≡ x
at_push xs x i e = subst (λ j. slice_index (xs ++ x ∷ []) j ≡ x) (sym e) (get_or-append_seam xs x [] 0)

module _ (classes : List ℕ) (n : ℕ) (roots places : List ℕ) (at : ArePlacedTo classes n roots places) where
  -- a least number has the next place
  pub root_placed : slice_index classes n ≡ n → ArePlacedTo classes (n + 1) (roots ++ n ∷ []) (places ++ length roots ∷ [])
  root_placed own = record {
    count = length_push {X = ℕ} places (length roots) ∙ ap (λ m. m + 1) at.count;
    named = λ m h. elim (cases_lt m (length roots)) [
      | inl before ↦
          let old = at.named m before in
          let here = before_push roots n m before in
          (omega (arith, old.0, here), ap (slice_index classes) here ∙ old.1 ∙ sym here)
      | inr most ↦
          let here = at_push roots n m (omega (arith, most, h, longer)) in
          (omega (arith, here), ap (slice_index classes) here ∙ own ∙ sym here)
    ];
    ascending = λ m l less h. elim (cases_lt l (length roots)) [
      | inl before ↦
          let first = before_push roots n m (omega (arith, less, before)) in
          let second = before_push roots n l before in
          omega (arith, at.ascending m l less before, first, second)
      | inr most ↦
          let last = at_push roots n l (omega (arith, most, h, longer)) in
          let inside : m < length roots = omega (arith, less, h, longer) in
          let first = before_push roots n m inside in
          omega (arith, (at.named m inside).0, first, last)
    ];
    placed = λ i h. elim (cases_lt i n) [
      | inl before ↦
          let old = at.placed i before in
          let here = before_push places (length roots) i (omega (arith, before, at.count)) in
          (omega (arith, old.0, here, longer), ap (slice_index (roots ++ n ∷ [])) here ∙ before_push roots n (slice_index places i) old.0 ∙ old.1)
      | inr most ↦
          let same : i ≡ n = omega (arith, h, most) in
          let here = at_push places (length roots) i (omega (arith, same, at.count)) in
          (omega (arith, here, longer), ap (slice_index (roots ++ n ∷ [])) here ∙ at_push roots n (length roots) refl ∙ sym (ap (slice_index classes) same ∙ own))
    ];
  }
    where
      longer : length (roots ++ n ∷ []) ≡ length roots + 1
      longer = length_push {X = ℕ} roots n

  -- another number has the place of the least one of its class
  pub class_placed : AreNamed classes → n < length classes → slice_index classes n < n
      → ArePlacedTo classes (n + 1) roots (places ++ slice_index places (slice_index classes n) ∷ [])
  class_placed named inside below = record {
    count = length_push {X = ℕ} places place ∙ ap (λ m. m + 1) at.count;
    named = λ m h. let old = at.named m h in (omega (arith, old.0), old.1);
    ascending = at.ascending;
    placed = λ i h. elim (cases_lt i n) [
      | inl before ↦
          let old = at.placed i before in
          let here = before_push places place i (omega (arith, before, at.count)) in
          (omega (arith, old.0, here), ap (slice_index roots) here ∙ old.1)
      | inr most ↦
          let same : i ≡ n = omega (arith, h, most) in
          let here = at_push places place i (omega (arith, same, at.count)) in
          let old = at.placed (slice_index classes n) below in
          (omega (arith, old.0, here), ap (slice_index roots) here ∙ old.1 ∙ named.own n inside ∙ ap (slice_index classes) (sym same))
    ];
  }
    where
      place : ℕ
      place = slice_index places (slice_index classes n)

  pub all_placed : n ≡ length classes → ArePlacedClasses classes roots places
  all_placed all = record {
    count = at.count ∙ all;
    named = λ m h. let old = at.named m h in (omega (arith, old.0, all), old.1);
    ascending = at.ascending;
    placed = λ i h. at.placed i (omega (arith, h, all));
  }

-- labels name the classes
module _ (classes roots places : List ℕ) (placed : ArePlacedClasses classes roots places) where
  -- each number has the root of its place
  pub seen_classes : classes ≡ map (slice_index roots) places
  seen_classes = ext_get_or 0 classes (map (slice_index roots) places) (sym placed.count ∙ sym (length-map places (slice_index roots)))
      (λ i h. sym (placed.placed i h).1 ∙ sym (get_or-map (slice_index roots) places i 0 0 (omega (arith, h, placed.count))))

  -- least numbers at two places differ
  pub one_place : (m l : ℕ) → m < length roots → l < length roots → slice_index roots m ≡ slice_index roots l → m ≡ l
  one_place m l left right same = elim (cases_lt m l) [
    | inl less ↦ let up = placed.ascending m l less right in absurd (omega (arith, up, same))
    | inr most ↦ elim (cases_lt l m) [
      | inl more ↦ let up = placed.ascending l m more left in absurd (omega (arith, up, same))
      | inr none ↦ omega (arith, most, none)
    ]
  ]

  -- numbers of one class have one place, and only these
  pub same_place : (i j : ℕ) → i < length classes → j < length classes → slice_index classes i ≡ slice_index classes j
      → slice_index places i ≡ slice_index places j
  same_place i j left right same =
      let one = placed.placed i left in
      let other = placed.placed j right in
      one_place (slice_index places i) (slice_index places j) one.0 other.0 (one.1 ∙ same ∙ sym other.1)

  pub same_class : (i j : ℕ) → i < length classes → j < length classes → slice_index places i ≡ slice_index places j
      → slice_index classes i ≡ slice_index classes j
  same_class i j left right same = sym (placed.placed i left).1 ∙ ap (slice_index roots) same ∙ (placed.placed j right).1

  -- a least number has its own place
  pub root_place : (m : ℕ) → m < length roots → slice_index places (slice_index roots m) ≡ m
  root_place m h =
      let root = placed.named m h in
      let at = placed.placed (slice_index roots m) root.0 in
      one_place (slice_index places (slice_index roots m)) m at.0 h (at.1 ∙ root.1)
