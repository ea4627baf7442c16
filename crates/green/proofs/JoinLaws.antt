-- The least first names that meet second names, found one number after another.
use Rattle.std.proofs.Common.{◌≡◌, ℕ, ◌+◌, ◌<◌, ◌≤◌, List, length, replicate, set, slice_index, sym, ◌∙◌, ap, subst, arith, inl, inr}
use Rattle.std.proofs.lemmas.Bool.{cases_eq, cases_lt}
use Rattle.std.proofs.lemmas.List.{get_or-set_same, get_or-set_other, get_or-replicate, length-set, length-replicate}
use Rattle.green.specs.Grouping.{AreSmall}
use Rattle.green.specs.Joining.{IsLeastThatMeets, AreJoinedNames}

-- no first name of the numbers below m is less, and what is less than all of them are meets its name
pub record AreLeastBefore (first second : List ℕ) (m : ℕ) (least : List ℕ) : Type 0 where
  pub count : length least ≡ length first
  pub low : (i : ℕ) → i < m → slice_index least (slice_index second i) ≤ slice_index first i
  pub met : (name : ℕ) → name < length first → slice_index least name < length first
      → (i : ℕ) × (i < length first) × (slice_index second i ≡ name) × (slice_index first i ≡ slice_index least name)

pub least_none : (first second least : List ℕ) → least ≡ replicate (length first) (length first) → AreLeastBefore first second 0 least
least_none first second least e = record {
  count = ap length e ∙ length-replicate (length first) (length first);
  low = λ i l. absurd (omega (arith, l));
  met = λ name l less.
      let at : slice_index least name ≡ length first = ap (λ (xs : List ℕ). slice_index xs name) e ∙ get_or-replicate (length first) name (length first) 0 l in
      absurd (omega (arith, at, less));
}

module _ (first second : List ℕ) (m : ℕ) (least : List ℕ) (h : AreLeastBefore first second m least) (l : m < length first) (small : slice_index second m < length first) where
  pub least_lower : slice_index first m < slice_index least (slice_index second m) → (now : List ℕ) → now ≡ set least (slice_index second m) (slice_index first m)
      → AreLeastBefore first second (m + 1) now
  least_lower lower now is = record {
    count = ap length is ∙ length-set least (slice_index second m) (slice_index first m) ∙ h.count;
    low = λ i b. elim (cases_eq (slice_index second i) (slice_index second m)) [
      | inl e ↦
          let here : slice_index now (slice_index second i) ≡ slice_index first m = ap (slice_index now) e ∙ at_this in
          elim (cases_eq i m) [
            | inl this ↦ omega (arith, here, ap (slice_index first) this)
            | inr other ↦
                let old = h.low i (omega (arith, b, other)) in
                omega (arith, here, old, lower, ap (slice_index least) e)
          ]
      | inr d ↦
          let there = at_other (slice_index second i) d in
          let old = h.low i (elim (cases_eq i m) [ inl this ↦ absurd (d (ap (slice_index second) this)) | inr other ↦ omega (arith, b, other) ]) in
          omega (arith, there, old)
    ];
    met = λ name b less. elim (cases_eq name (slice_index second m)) [
      | inl e ↦ (m, l, sym e, sym (ap (slice_index now) e ∙ at_this))
      | inr d ↦
          let there = at_other name d in
          let old = h.met name b (omega (arith, there, less)) in
          (old.0, old.1, old.2, old.3 ∙ sym there)
    ];
  }
    where
      at_this : slice_index now (slice_index second m) ≡ slice_index first m
      at_this = ap (λ (xs : List ℕ). slice_index xs (slice_index second m)) is ∙ get_or-set_same least (slice_index second m) (slice_index first m) 0 (omega (arith, small, h.count))

      at_other : (name : ℕ) → (name ≡ slice_index second m → ⊥) → slice_index now name ≡ slice_index least name
      at_other name d = ap (λ (xs : List ℕ). slice_index xs name) is ∙ get_or-set_other least (slice_index second m) name (slice_index first m) 0 d

  pub least_same : (slice_index first m < slice_index least (slice_index second m) → ⊥) → AreLeastBefore first second (m + 1) least
  least_same never = record {
    count = h.count;
    low = λ i b. elim (cases_eq i m) [
      | inl this ↦ elim (cases_lt (slice_index first m) (slice_index least (slice_index second m))) [
        | inl less ↦ absurd (never less)
        | inr most ↦ omega (arith, most, ap (slice_index first) this, ap (λ j. slice_index least (slice_index second j)) this)
      ]
      | inr other ↦ h.low i (omega (arith, b, other))
    ];
    met = h.met;
  }

-- all numbers are seen
pub least_all : (first second least : List ℕ) → length second ≡ length first → AreSmall first → AreSmall second → AreLeastBefore first second (length first) least → (i : ℕ) → i < length first
    → IsLeastThatMeets first second (slice_index second i) (slice_index least (slice_index second i))
least_all first second least count small also h i l = record {
  meets = h.met (slice_index second i) (omega (arith, low, count)) (omega (arith, h.low i l, small i l));
  least = λ j b e. subst (λ name. slice_index least name ≤ slice_index first j) e (h.low j b);
}
  where
    low : slice_index second i < length second
    low = also i (omega (arith, l, count))

-- names that were read so far
pub record AreReadBefore (second least : List ℕ) (m : ℕ) (names : List ℕ) : Type 0 where
  pub count : length names ≡ m
  pub at : (i : ℕ) → i < m → slice_index names i ≡ slice_index least (slice_index second i)

pub read_all : (first second least names : List ℕ) → length second ≡ length first
    → ((i : ℕ) → i < length first → IsLeastThatMeets first second (slice_index second i) (slice_index least (slice_index second i)))
    → AreReadBefore second least (length second) names → AreJoinedNames first second names
read_all first second least names count meets h = record {
  count = h.count ∙ count;
  at = λ i l. subst (IsLeastThatMeets first second (slice_index second i)) (sym (h.at i (omega (arith, l, count)))) (meets i l);
}
