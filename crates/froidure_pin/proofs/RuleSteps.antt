-- Finding rules, step by step.
use Rattle.std.proofs.Common.{◌≡◌, ℕ, zero, suc, ◌+◌, ◌*◌, ◌<◌, ◌≤◌, ◌/◌, ◌%◌, Bool, true, false, not, ◌&&◌, ◌||◌, ◌==◌, List, [], ◌∷◌, ◌++◌, length, get_or, refl, sym, ap, subst, ◌∙◌, arith, inl, inr, length-append, div-add-mod', mod-lt, mul-le-mul_left, if◌then◌else◌, ne_eqb}
use Rattle.froidure_pin.specs.Found.{AreFactors, entry, factor_at}
use Rattle.froidure_pin.specs.Numbering.{AreRows}
use Rattle.froidure_pin.specs.Rules.{AreSuffixes, rules_at, rules_to}
use Rattle.froidure_pin.proofs.Order.{equal_or_below}
use Rattle.froidure_pin.proofs.Places.{row_below, row_within, at_last}
use Rattle.froidure_pin.proofs.Starts.{get_front}
use Rattle.theory.specs.Word.{Word}
use Rattle.froidure_pin.specs.declared.parts.Factor.{Factor}

pub not_zero : (n p : ℕ) → n ≡ suc p → (n == 0) ≡ false
not_zero n p e = ne_eqb n 0 (λ z. omega arith)

-- the row and the letter of a place
pub row_of_place : (k n p : ℕ) → 0 < k → p < (n + 1) * k → (p / k ≤ n) × (p % k < k) × (p / k * k + p % k ≡ p)
row_of_place k n p some h =
    let place : p / k * k + p % k ≡ p = div-add-mod' p k in
    (row_within k (p / k) n k (p % k) (omega arith) (omega (arith, place)), mod-lt p some, place)

module _ (k : ℕ) (factors : List Factor) (right : List ℕ) (rows : AreRows k (length factors) right) where
  pub entry_within : (suffixes : List ℕ) (i j a : ℕ) → AreSuffixes k factors right suffixes i → j < length suffixes → a < k → get_or suffixes j 0 * k + a < length right
  entry_within suffixes i j a known h l = let row = row_below k (get_or suffixes j 0) (length factors + 1) a (omega (arith, known.within j h)) l in omega (arith, rows.count, row)

  -- what the suffix of the next word is read from
  pub suffix_reads : (suffixes : List ℕ) (i : ℕ) (f : Factor) → 0 < k → AreFactors k factors → AreSuffixes k factors right suffixes i → i < length factors → factor_at factors i ≡ f
      → (f.last < k) × (f.prefix < length suffixes) × (get_or suffixes f.prefix 0 * k + f.last < length right) × (entry k right (get_or suffixes f.prefix 0) f.last < length right)
  suffix_reads suffixes i f some earlier known h at =
      let last = subst (λ (g : Factor). g.last < k) at (earlier.letter i h) in
      let early : f.prefix < length suffixes = omega (arith, subst (λ (g : Factor). g.prefix ≤ i) at (earlier.earlier i h), known.count) in
      let product = entry_within suffixes i f.prefix f.last known early last in
      let least : (length factors + 1) * 1 ≤ (length factors + 1) * k = mul-le-mul_left (length factors + 1) some in
      (last, early, product, omega (arith, rows.within (get_or suffixes f.prefix 0 * k + f.last) product, rows.count, least))

  pub suffixes_none : AreSuffixes k factors right (0 ∷ []) 0
  suffixes_none = record { count = refl; within = first; next = λ j h. absurd (omega arith) }
    where
      first : (j : ℕ) → j < 1 → get_or (0 ∷ []) j 0 ≤ length factors
      first zero h = omega arith
      first (suc j) h = absurd (omega arith)

  pub suffixes_more : (suffixes : List ℕ) (i s : ℕ) (f : Factor) → AreFactors k factors → AreSuffixes k factors right suffixes i → i < length factors → factor_at factors i ≡ f
      → s ≡ (if f.prefix == 0 then 0 else entry k right (get_or suffixes f.prefix 0) f.last + 1) → AreSuffixes k factors right (suffixes ++ s ∷ []) (i + 1)
  suffixes_more suffixes i s f earlier known h at is =
      let long = length-append suffixes (s ∷ []) in
      let front : (j : ℕ) → j < length suffixes → get_or (suffixes ++ s ∷ []) j 0 ≡ get_or suffixes j 0 = λ j g. get_front suffixes (s ∷ []) j 0 g in
      let last : get_or (suffixes ++ s ∷ []) (i + 1) 0 ≡ s = ap (λ n. get_or (suffixes ++ s ∷ []) n 0) (sym known.count) ∙ at_last suffixes s 0 in
      let early : f.prefix < length suffixes = omega (arith, subst (λ (g : Factor). g.prefix ≤ i) at (earlier.earlier i h), known.count) in
      record {
        count = omega (arith, known.count);
        within = λ j g. elim (equal_or_below j (length suffixes) (omega arith)) [
          | inl e ↦ subst (λ n. get_or (suffixes ++ s ∷ []) n 0 ≤ length factors) (sym e) (subst (λ n. n ≤ length factors) (sym (at_last suffixes s 0)) (small (f.prefix) refl))
          | inr less ↦ subst (λ n. n ≤ length factors) (sym (front j less)) (known.within j less)
        ];
        next = λ j g. elim (equal_or_below j i (omega arith)) [
          | inl e ↦
              let here : s ≡ (if f.prefix == 0 then 0 else entry k right (get_or (suffixes ++ s ∷ []) f.prefix 0) f.last + 1) = is ∙ ap (λ n. if f.prefix == 0 then 0 else entry k right n f.last + 1) (sym (front f.prefix early)) in
              subst (λ n. get_or (suffixes ++ s ∷ []) (n + 1) 0 ≡ (if (factor_at factors n).prefix == 0 then 0 else entry k right (get_or (suffixes ++ s ∷ []) (factor_at factors n).prefix 0) (factor_at factors n).last + 1)) (sym e)
              (subst (λ (q : Factor). get_or (suffixes ++ s ∷ []) (i + 1) 0 ≡ (if q.prefix == 0 then 0 else entry k right (get_or (suffixes ++ s ∷ []) q.prefix 0) q.last + 1)) (sym at) (last ∙ here))
          | inr less ↦
              let q : Factor = factor_at factors j in
              let before : q.prefix < length suffixes = omega (arith, earlier.earlier j (omega arith), known.count) in
              front (j + 1) (omega (arith, known.count)) ∙ known.next j less ∙ ap (λ n. if q.prefix == 0 then 0 else entry k right n q.last + 1) (sym (front q.prefix before))
        ];
      }
    where
      small : (p : ℕ) → f.prefix ≡ p → s ≤ length factors
      small zero e = let none : s ≡ 0 = is ∙ ap (λ n. if n == 0 then 0 else entry k right (get_or suffixes f.prefix 0) f.last + 1) e in omega arith
      small (suc p) e =
          let some : s ≡ entry k right (get_or suffixes f.prefix 0) f.last + 1 = is ∙ ap (λ b. if b then 0 else entry k right (get_or suffixes f.prefix 0) f.last + 1) (not_zero f.prefix p e) in
          let early : f.prefix < length suffixes = omega (arith, subst (λ (g : Factor). g.prefix ≤ i) at (earlier.earlier i h), known.count) in
          omega (arith, some, rows.within (get_or suffixes f.prefix 0 * k + f.last) (entry_within suffixes i f.prefix f.last known early (subst (λ (g : Factor). g.last < k) at (earlier.letter i h))))

pub rule_test : (x y z r : Bool) → x ≡ false → y ≡ false → r ≡ z → r ≡ (not x && (y || z))
rule_test true y z r a b c = cc
rule_test false true z r a b c = cc
rule_test false false z r a b c = c

pub no_rule : (x y : Bool) → x ≡ true → false ≡ (not x && y)
no_rule true y e = refl
no_rule false y e = cc

pub letter_rule : (x y z : Bool) → x ≡ false → y ≡ true → true ≡ (not x && (y || z))
letter_rule true y z a b = cc
letter_rule false true z a b = refl
letter_rule false false z a b = cc

pub rules_more : (k : ℕ) (factors : List Factor) (right suffixes : List ℕ) (p : ℕ) (rules later : List (Word × Word)) → later ≡ rules ++ rules_at k factors right suffixes p → rules ≡ rules_to k factors right suffixes p
    → later ≡ rules_to k factors right suffixes (p + 1)
rules_more k factors right suffixes p rules later e h =
    let next : suc p ≡ p + 1 = omega arith in
    e ∙ ap (λ xs. xs ++ rules_at k factors right suffixes p) h ∙ ap (rules_to k factors right suffixes) next
