-- The rules of a table are the reduced rules.
use Rattle.std.proofs.Common.{◌≡◌, ◌≢◌, ℕ, zero, suc, ◌+◌, ◌*◌, ◌<◌, ◌≤◌, ◌/◌, ◌%◌, Bool, true, false, not, ◌&&◌, ◌||◌, ◌==◌, List, [], ◌∷◌, ◌++◌, length, get_or, Option, None, Some, refl, sym, ap, subst, subst₂, ◌∙◌, arith, ◌⊎◌, inl, inr, true≢false, append_assoc, append-nil, length-append, add-one, eq-eqb, eqb-true, if◌then◌else◌}
use Rattle.theory.specs.Word.{Word, IsOver, IsElement, IsProperFactor}
use Rattle.theory.specs.ShortLex.{◌≺◌}
use Rattle.theory.specs.Listing.{IsAfter, IsAscending}
use Rattle.theory.specs.Class.{IsLeast, IsReducedRule, IsRuleList, RuleBefore}
use Rattle.theory.proofs.Counting.{IsIn}
use Rattle.theory.proofs.Words.{order_cases, before_append_left, over_left, over_right}
use Rattle.theory.proofs.Listings.{list_from_ascending}
use Rattle.theory.proofs.ClassLaws.{IsPartialEquivalence, least_part, rule_order}
use Rattle.theory.proofs.Completeness.{normal_unique}
use Rattle.theory.proofs.ValueLaws.{value_kept_left, value_kept_right}
use Rattle.froidure_pin.specs.Found.{AreFactors, Generated, IsNumbered, IsSame, entry, factor_at, letters_of, parent, words_of}
use Rattle.froidure_pin.specs.Numbering.{AreRows}
use Rattle.froidure_pin.specs.Rules.{AreSuffixes, is_product, is_rule, rule_at, rules_to}
use Rattle.froidure_pin.proofs.Order.{snoc, snoc_not_nil, ahead, letter_before, below_or_not, equal_or_below, empty_or_not}
use Rattle.froidure_pin.proofs.Places.{row_below, place_is}
use Rattle.froidure_pin.proofs.RuleSteps.{row_of_place, not_zero}
use Rattle.froidure_pin.proofs.Factors.{factor_word, words_length}
use Rattle.froidure_pin.proofs.Starts.{in_push, in_last}
use Rattle.froidure_pin.proofs.LeastWords.{least_word, parents_rise, parent_once}
use Rattle.froidure_pin.proofs.Search.{IsSetting, semi, known, r_sym, r_trans, r_refl}
use Rattle.froidure_pin.specs.declared.parts.Factor.{Factor}

-- the last letter, and what stands before it
pub snoc_same : (u v : Word) (a b : ℕ) → u ++ a ∷ [] ≡ v ++ b ∷ [] → (u ≡ v) × (a ≡ b)
snoc_same [] [] a b e = let same : a ≡ b = cc in (refl, same)
snoc_same [] (c ∷ v) a b e = let rest : v ++ b ∷ [] ≡ [] = cc in absurd (snoc_not_nil v b rest)
snoc_same (c ∷ u) [] a b e = let rest : u ++ a ∷ [] ≡ [] = cc in absurd (snoc_not_nil u a rest)
snoc_same (c ∷ u) (d ∷ v) a b e =
    let tails : u ++ a ∷ [] ≡ v ++ b ∷ [] = cc in
    let heads : c ≡ d = cc in
    let rest = snoc_same u v a b tails in
    ((λ i. heads i ∷ rest.0 i), rest.1)

and_both : (x y : Bool) → (x && y) ≡ true → (x ≡ true) × (y ≡ true)
and_both true y e = (refl, e)
and_both false y e = cc

or_either : (x y : Bool) → (x || y) ≡ true → (x ≡ true) ⊎ (y ≡ true)
or_either true y e = inl refl
or_either false y e = inr e

not_true : (x : Bool) → not x ≡ true → x ≡ false
not_true true e = cc
not_true false e = refl

-- what the test of a product says
pub product_is : (factors : List Factor) (m j a : ℕ) → is_product factors m j a ≡ true → ((factor_at factors m).prefix ≡ j) × ((factor_at factors m).last ≡ a)
product_is factors m j a e =
    let f : Factor = factor_at factors m in
    let both = and_both (f.prefix == j) (f.last == a) e in
    (eqb-true f.prefix j both.0, eqb-true f.last a both.1)

pub is_the_product : (factors : List Factor) (m j a : ℕ) → (factor_at factors m).prefix ≡ j → (factor_at factors m).last ≡ a → is_product factors m j a ≡ true
is_the_product factors m j a p q =
    let f : Factor = factor_at factors m in
    ap (λ b. b && (f.last == a)) (eq-eqb f.prefix j p) ∙ eq-eqb f.last a q

ascending_push : {A : Type 0} (Less : A → A → Type 0) (cursor : Option A) (xs : List A) (y : A) → IsAscending Less cursor xs → IsAfter Less cursor y → ((x : A) → IsIn x xs → Less x y) → IsAscending Less cursor (xs ++ y ∷ [])
ascending_push Less cursor [] y h after all = (after, tt)
ascending_push Less cursor (x ∷ xs) y h after all = (h.0, ascending_push Less (Some x) xs y h.1 (all x (inl refl)) (λ z m. all z (inr m)))

-- what the rules of a list of places are
module _ (k : ℕ) (factors : List Factor) (right suffixes : List ℕ) where
  abbrev Rules : ℕ → List (Word × Word)
  Rules = rules_to k factors right suffixes

  abbrev test : ℕ → Bool
  test = is_rule k factors right suffixes

  step_true : (p : ℕ) → test p ≡ true → Rules (suc p) ≡ Rules p ++ rule_at k factors right p ∷ []
  step_true p e = ap (λ b. Rules p ++ (if b then rule_at k factors right p ∷ [] else [])) e

  step_false : (p : ℕ) → test p ≡ false → Rules (suc p) ≡ Rules p
  step_false p e = ap (λ b. Rules p ++ (if b then rule_at k factors right p ∷ [] else [])) e ∙ append-nil (Rules p)

  -- a rule of the list has a place
  rule_place : (p : ℕ) (q : Word × Word) → IsIn q (Rules p) → (l : ℕ) × (l < p) × (test l ≡ true) × (q ≡ rule_at k factors right l)
  rule_place zero q m = absurd m
  rule_place (suc p) q m = by (test p) refl (rule_place p q)
    where
      later : (l : ℕ) × (l < p) × (test l ≡ true) × (q ≡ rule_at k factors right l) → (l : ℕ) × (l < suc p) × (test l ≡ true) × (q ≡ rule_at k factors right l)
      later r = (r.0, omega (arith, r.1), r.2, r.3)

      split : (xs : List (Word × Word)) (y : Word × Word) → IsIn q (xs ++ y ∷ []) → IsIn q xs ⊎ (q ≡ y)
      split [] y (inl e) = inr e
      split [] y (inr n) = absurd n
      split (x ∷ xs) y (inl e) = inl (inl e)
      split (x ∷ xs) y (inr n) = elim (split xs y n) [ inl i ↦ inl (inr i) | inr e ↦ inr e ]

      by : (b : Bool) → test p ≡ b → (IsIn q (Rules p) → (l : ℕ) × (l < p) × (test l ≡ true) × (q ≡ rule_at k factors right l)) → (l : ℕ) × (l < suc p) × (test l ≡ true) × (q ≡ rule_at k factors right l)
      by true e before = elim (split (Rules p) (rule_at k factors right p) (subst (λ xs. IsIn q xs) (step_true p e) m)) [ inl n ↦ later (before n) | inr s ↦ (p, omega arith, e, s) ]
      by false e before = later (before (subst (λ xs. IsIn q xs) (step_false p e) m))

  -- a rule's place is in the list
  place_in : (p l : ℕ) → l < p → test l ≡ true → IsIn (rule_at k factors right l) (Rules p)
  place_in zero l h e = absurd (omega arith)
  place_in (suc p) l h e = elim (equal_or_below l p (omega arith)) [
    | inl s ↦ subst (λ n. IsIn (rule_at k factors right n) (Rules (suc p))) (sym s) (let here = subst (λ n. test n ≡ true) s e in subst (λ xs. IsIn (rule_at k factors right p) xs) (sym (step_true p here)) (in_last (rule_at k factors right p) (Rules p)))
    | inr less ↦ by (test p) refl (place_in p l less e)
  ]
    where
      by : (b : Bool) → test p ≡ b → IsIn (rule_at k factors right l) (Rules p) → IsIn (rule_at k factors right l) (Rules (suc p))
      by true d m = subst (λ xs. IsIn (rule_at k factors right l) xs) (sym (step_true p d)) (in_push (rule_at k factors right l) (rule_at k factors right p) (Rules p) m)
      by false d m = subst (λ xs. IsIn (rule_at k factors right l) xs) (sym (step_false p d)) m

  -- where left sides of later places are greater, the rules ascend
  rules_ascend : (n : ℕ) → ((l p : ℕ) → l < p → p < n → (rule_at k factors right l).0 ≺ (rule_at k factors right p).0) → (p : ℕ) → p ≤ n → IsAscending RuleBefore None (Rules p)
  rules_ascend n later zero h = tt
  rules_ascend n later (suc p) h = by (test p) refl (rules_ascend n later p (omega arith))
    where
      by : (b : Bool) → test p ≡ b → IsAscending RuleBefore None (Rules p) → IsAscending RuleBefore None (Rules (suc p))
      by true e up = subst (λ xs. IsAscending RuleBefore None xs) (sym (step_true p e)) (ascending_push RuleBefore None (Rules p) (rule_at k factors right p) up tt (λ q m. let at = rule_place p q m in subst (λ (z : Word × Word). z.0 ≺ (rule_at k factors right p).0) (sym at.3) (later at.0 p at.1 (omega arith))))
      by false e up = subst (λ xs. IsAscending RuleBefore None xs) (sym (step_false p e)) up

back_nil : (x f : Word) → x ++ f ≡ [] → f ≡ []
back_nil [] f e = e
back_nil (c ∷ x) f e = cc

-- a proper factor of a word with one letter more stands in the word, or behind its first letter
pub proper_cases : (w : Word) (a : ℕ) (f : Word) → f ≢ [] → IsProperFactor f (w ++ a ∷ [])
    → ((x : Word) × (y : Word) × (w ≡ x ++ (f ++ y))) ⊎ ((c : ℕ) × (t : Word) × (x : Word) × (w ≡ c ∷ t) × (t ++ a ∷ [] ≡ x ++ f))
proper_cases w a f some h = elim (snoc h.factor.after) [
  | inl z ↦ inr (behind h.factor.before (h.factor.is ∙ ap (λ y. h.factor.before ++ (f ++ y)) z ∙ ap (λ g. h.factor.before ++ g) (append-nil f)))
  | inr r ↦
      let regrouped : h.factor.before ++ (f ++ h.factor.after) ≡ (h.factor.before ++ (f ++ r.0)) ++ r.1 ∷ [] = ap (λ y. h.factor.before ++ (f ++ y)) r.2 ∙ ap (λ y. h.factor.before ++ y) (sym (append_assoc f r.0 (r.1 ∷ []))) ∙ sym (append_assoc h.factor.before (f ++ r.0) (r.1 ∷ [])) in
      inl (h.factor.before, r.0, (snoc_same w (h.factor.before ++ (f ++ r.0)) a r.1 (h.factor.is ∙ regrouped)).0)
]
  where
    behind : (before : Word) → w ++ a ∷ [] ≡ before ++ f → (c : ℕ) × (t : Word) × (x : Word) × (w ≡ c ∷ t) × (t ++ a ∷ [] ≡ x ++ f)
    behind before e = go w before e (λ b. h.proper (sym (ap (λ x. x ++ f) b) ∙ sym e))
      where
        go : (w before : Word) → w ++ a ∷ [] ≡ before ++ f → (before ≡ [] → ⊥) → (c : ℕ) × (t : Word) × (x : Word) × (w ≡ c ∷ t) × (t ++ a ∷ [] ≡ x ++ f)
        go w [] e n = absurd (n refl)
        go [] (d ∷ x) e n = let rest : x ++ f ≡ [] = cc in absurd (some (back_nil x f rest))
        go (c ∷ t) (d ∷ x) e n = let rest : t ++ a ∷ [] ≡ x ++ f = cc in (c, t, x, refl, rest)

-- what stands behind the first letter
pub tail_same : (c d : ℕ) (t u : Word) → c ∷ t ≡ d ∷ u → t ≡ u
tail_same c d t u e = cc

module _ {V : Type 0} {shape : V → ℕ × ℕ} {s : Generated V} (setting : IsSetting shape s) where
  abbrev pub Related : Word → Word → Type 0
  Related = IsSame s

  equivalence : IsPartialEquivalence Related
  equivalence = record { symmetric = r_sym setting; transitive = r_trans setting }

  -- a part of a least word is least
  pub part_least : (x f y : Word) → f ≢ [] → IsLeast Related (x ++ (f ++ y)) → IsLeast Related f
  part_least x f y some h =
      let k : ℕ = letters_of s in
      let whole : IsOver k (x ++ (f ++ y)) = h.element.left.1 in
      let rest : IsOver k (f ++ y) = over_right k x (f ++ y) whole in
      let here = r_refl setting f (some, over_left k f y rest) in
      let kept : (v : Word) → Related f v → Related (x ++ (f ++ y)) (x ++ (v ++ y)) = λ v r.
      value_kept_left (semi setting) (known setting) x (f ++ y) (v ++ y)
      (value_kept_right (semi setting) (known setting) f v y r (over_right k f y rest)) (over_left k x (f ++ y) whole) in
      least_part Related x f y kept here h

  -- so is a proper factor of a word with a letter, where the word is least, and the rest with the letter
  pub factor_least : (w : Word) (a : ℕ) → (w ≢ [] → IsLeast Related w) → ((c : ℕ) (rest : Word) → w ≡ c ∷ rest → IsLeast Related (rest ++ a ∷ [])) → (f : Word) → IsProperFactor f (w ++ a ∷ []) → f ≢ [] → IsLeast Related f
  factor_least w a least rest_least f proper some = elim (proper_cases w a f some proper) [
    | inl p ↦ part_least p.0 f p.1 some (subst (λ u. IsLeast Related u) p.2 (least (λ e. some (middle_nil p.0 f p.1 (sym p.2 ∙ e)))))
    | inr p ↦ part_least p.2 f [] some (subst (λ u. IsLeast Related u) (p.4 ∙ ap (λ g. p.2 ++ g) (sym (append-nil f))) (rest_least p.0 p.1 p.3))
  ]
    where
      middle_nil : (x f y : Word) → x ++ (f ++ y) ≡ [] → f ≡ []
      middle_nil [] [] y e = refl
      middle_nil [] (c ∷ f) y e = cc
      middle_nil (c ∷ x) f y e = cc

  module _ (factors : List Factor) (right suffixes : List ℕ) (earlier : AreFactors (letters_of s) factors) (rows : AreRows (letters_of s) (length factors) right)
      (follow : AreSuffixes (letters_of s) factors right suffixes (length factors)) (some : 0 < letters_of s)
      (least_at : (m : ℕ) → m < length (words_of factors) → IsLeast Related (get_or (words_of factors) m []))
      (ascending : IsAscending ◌≺◌ None (words_of factors))
      (number : (j a : ℕ) → j ≤ length (words_of factors) → a < letters_of s → IsNumbered s (words_of factors) (entry (letters_of s) right j a) (parent (words_of factors) j ++ a ∷ []))
      (every : (u : Word) → IsElement false (letters_of s) u → (m : ℕ) × IsNumbered s (words_of factors) m u) where
    abbrev k : ℕ
    k = letters_of s

    abbrev words : List Word
    words = words_of factors

    abbrev word : ℕ → Word
    word m = get_or words m []

    parent_least : (j : ℕ) → j ≤ length words → parent words j ≢ [] → IsLeast Related (parent words j)
    parent_least zero h n = absurd (n refl)
    parent_least (suc j) h n = least_at j (omega arith)

    -- the test of a product says whether it is a word
    least_product : (m j a : ℕ) → m < length words → is_product factors m j a ≡ true → IsLeast Related (parent words j ++ a ∷ [])
    least_product m j a h e =
        let is = product_is factors m j a e in
        let whole : word m ≡ parent words j ++ a ∷ [] = factor_word k factors earlier m (omega (arith, words_length factors)) ∙ (λ i. parent words (is.0 i) ++ is.1 i ∷ []) in
        subst (λ u. IsLeast Related u) whole (least_at m h)

    product_test : (m j a : ℕ) → j ≤ length words → IsNumbered s words m (parent words j ++ a ∷ []) → IsLeast Related (parent words j ++ a ∷ []) → is_product factors m j a ≡ true
    product_test m j a h n least =
        let f : Factor = factor_at factors m in
        let inside : m < length factors = omega (arith, words_length factors, n.0) in
        let same : parent words f.prefix ++ f.last ∷ [] ≡ parent words j ++ a ∷ [] = sym (factor_word k factors earlier m inside) ∙ sym (least_word setting words least_at ascending (parent words j ++ a ∷ []) m least n) in
        let both = snoc_same (parent words f.prefix) (parent words j) f.last a same in
        is_the_product factors m j a (parent_once setting words least_at ascending f.prefix j (omega (arith, earlier.earlier m inside, words_length factors)) h both.0) both.1

    -- what is left without the first letter
    suffix_is : (n j : ℕ) → j ≤ n → 0 < j → j ≤ length words → (c : ℕ) × (parent words j ≡ c ∷ parent words (get_or suffixes j 0)) × (get_or suffixes j 0 ≤ length words)
    suffix_is n zero e h l = absurd (omega arith)
    suffix_is zero (suc i) e h l = absurd (omega arith)
    suffix_is (suc n) (suc i) e h l = by f.prefix refl (suffix_is n f.prefix)
      where
        f : Factor
        f = factor_at factors i

        inside : i < length factors
        inside = omega (arith, words_length factors)

        early : f.prefix ≤ i
        early = earlier.earlier i inside

        otherwise : ℕ
        otherwise = entry k right (get_or suffixes f.prefix 0) f.last + 1

        next : get_or suffixes (suc i) 0 ≡ (if f.prefix == 0 then 0 else otherwise)
        next = let place : i + 1 ≡ suc i = omega arith in ap (λ q. get_or suffixes q 0) (sym place) ∙ follow.next i inside

        Left : Type 0
        Left = (c : ℕ) × (parent words (suc i) ≡ c ∷ parent words (get_or suffixes (suc i) 0)) × (get_or suffixes (suc i) 0 ≤ length words)

        by : (p : ℕ) → f.prefix ≡ p → (f.prefix ≤ n → 0 < f.prefix → f.prefix ≤ length words → (c : ℕ) × (parent words f.prefix ≡ c ∷ parent words (get_or suffixes f.prefix 0)) × (get_or suffixes f.prefix 0 ≤ length words)) → Left
        by zero z before =
            let none : get_or suffixes (suc i) 0 ≡ 0 = next ∙ ap (λ q. if q == 0 then 0 else otherwise) z in
            let whole : word i ≡ f.last ∷ [] = factor_word k factors earlier i inside ∙ ap (λ q. parent words q ++ f.last ∷ []) z in
            (f.last, whole ∙ ap (λ q. f.last ∷ parent words q) (sym none), omega (arith, none))
        by (suc p) z before =
            let r = before (omega (arith, early)) (omega arith) (omega (arith, early)) in
            let s : ℕ = get_or suffixes f.prefix 0 in
            let t : Word = parent words s ++ f.last ∷ [] in
            let m : ℕ = entry k right s f.last in
            let whole : word i ≡ r.0 ∷ t = factor_word k factors earlier i inside ∙ ap (λ u. u ++ f.last ∷ []) r.1 in
            let least : IsLeast Related t = part_least (r.0 ∷ []) t [] (λ y. snoc_not_nil (parent words s) f.last y) (subst (λ u. IsLeast Related u) (whole ∙ ap (λ u. r.0 ∷ u) (sym (append-nil t))) (least_at i (omega arith))) in
            let n_t = number s f.last r.2 (earlier.letter i inside) in
            let some_left : get_or suffixes (suc i) 0 ≡ m + 1 = next ∙ ap (λ b. if b then 0 else otherwise) (not_zero f.prefix p z) in
            let at_next : parent words (m + 1) ≡ word m = rw add-one refl in
            let left : t ≡ parent words (get_or suffixes (suc i) 0) = least_word setting words least_at ascending t m least n_t ∙ sym at_next ∙ ap (λ q. parent words q) (sym some_left) in
            (r.0, whole ∙ ap (λ u. r.0 ∷ u) left, omega (arith, some_left, n_t.0))

    length_right : length right ≡ (length words + 1) * k
    length_right = let same : (length words + 1) * k ≡ (length factors + 1) * k = ap (λ n. (n + 1) * k) (words_length factors) in omega (arith, rows.count)

    -- a factor of a left side that is not all of it is least
    side_factor : (j a : ℕ) → j ≤ length words → a < k → (j == 0 || is_product factors (entry k right (get_or suffixes j 0) a) (get_or suffixes j 0) a) ≡ true
        → (f : Word) → IsProperFactor f (parent words j ++ a ∷ []) → f ≢ [] → IsLeast Related f
    side_factor j a h l test = factor_least (parent words j) a (parent_least j h) (λ c rest e.
        let some_j : 0 < j = positive j c rest e in
        let s = suffix_is j j (omega arith) some_j h in
        let same : rest ≡ parent words (get_or suffixes j 0) = tail_same c s.0 rest (parent words (get_or suffixes j 0)) (sym e ∙ s.1) in
        let is : is_product factors (entry k right (get_or suffixes j 0) a) (get_or suffixes j 0) a ≡ true = elim (or_either (j == 0) (is_product factors (entry k right (get_or suffixes j 0) a) (get_or suffixes j 0) a) test) [
          | inl z ↦ absurd (let none = eqb-true j 0 z in omega (arith, none))
          | inr e ↦ e
        ] in
        subst (λ u. IsLeast Related (u ++ a ∷ [])) (sym same) (least_product (entry k right (get_or suffixes j 0) a) (get_or suffixes j 0) a (number (get_or suffixes j 0) a s.2 l).0 is))
      where
        positive : (j c : ℕ) (t : Word) → parent words j ≡ c ∷ t → 0 < j
        positive zero c t e = cc
        positive (suc j) c t e = omega arith

    -- what is tested of a product is what makes it the left side of a rule
    product_rule : (m j a : ℕ) → j ≤ length words → a < k → m ≡ entry k right j a
        → (not (is_product factors m j a) && ((j == 0) || is_product factors (entry k right (get_or suffixes j 0) a) (get_or suffixes j 0) a)) ≡ true
        → IsReducedRule Related (parent words j ++ a ∷ []) (word m)
    product_rule m j a h l is test =
        let u : Word = parent words j ++ a ∷ [] in
        let both = and_both (not (is_product factors m j a)) ((j == 0) || is_product factors (entry k right (get_or suffixes j 0) a) (get_or suffixes j 0) a) test in
        let n = subst (λ q. IsNumbered s words q u) (sym is) (number j a h l) in
        let not_least : IsLeast Related u → ⊥ = λ g. true≢false (sym (product_test m j a h n g) ∙ not_true (is_product factors m j a) both.0) in
        record {
          normal = record { related = n.1; least = least_at m n.0 };
          falls = elim (order_cases (word m) u) [
            | inl less ↦ less
            | inr (inl e) ↦ absurd (not_least (subst (λ w. IsLeast Related w) e (least_at m n.0)))
            | inr (inr g) ↦ absurd ((least_at m n.0).none_less u (r_sym setting u (word m) n.1) g)
          ];
          factors = λ f proper r. side_factor j a h l both.1 f proper r.left.0;
        }

    rule_holds : (p : ℕ) → p < length right → is_rule k factors right suffixes p ≡ true → IsReducedRule Related (rule_at k factors right p).0 (rule_at k factors right p).1
    rule_holds p h e =
        let row = row_of_place k (length words) p some (omega (arith, length_right)) in
        product_rule (get_or right p 0) (p / k) (p % k) row.0 row.1 (ap (λ q. get_or right q 0) (sym row.2)) e

    -- the place of a reduced rule
    record IsPlaceOf (q : Word) : Type 0 where
      row : ℕ
      within : row ≤ length words
      is : q ≡ parent words row

    place_of : (q : Word) → (q ≢ [] → IsLeast Related q) → IsPlaceOf q
    place_of q least = elim (empty_or_not q) [
      | inl z ↦ record { row = zero; within = omega arith; is = z }
      | inr full ↦
          let n = every q (least full).element.left in
          record { row = suc n.0; within = omega (arith, n.1.0); is = least_word setting words least_at ascending q n.0 (least full) n.1 }
    ]

    product_found : (j b : ℕ) (v : Word) → j ≤ length words → b < k → IsReducedRule Related (parent words j ++ b ∷ []) v
        → ((not (is_product factors (entry k right j b) j b) && ((j == 0) || is_product factors (entry k right (get_or suffixes j 0) b) (get_or suffixes j 0) b)) ≡ true) × (v ≡ word (entry k right j b))
    product_found j b v h l rule =
        let u : Word = parent words j ++ b ∷ [] in
        let m : ℕ = entry k right j b in
        let n = number j b h l in
        let normal : v ≡ word m = normal_unique Related (r_sym setting) (r_trans setting) u v (word m) rule.normal (record { related = n.1; least = least_at m n.0 }) in
        (and_true (not (is_product factors m j b)) ((j == 0) || is_product factors (entry k right (get_or suffixes j 0) b) (get_or suffixes j 0) b) (fresh (is_product factors m j b) refl) (rest j h refl), normal)
      where
        and_true : (x y : Bool) → x ≡ true → y ≡ true → (x && y) ≡ true
        and_true true y e d = d
        and_true false y e d = cc

        or_right : (x y : Bool) → y ≡ true → (x || y) ≡ true
        or_right true y e = refl
        or_right false y e = e

        fresh : (x : Bool) → is_product factors (entry k right j b) j b ≡ x → not x ≡ true
        fresh true e = absurd ((least_product (entry k right j b) j b (number j b h l).0 e).none_less v rule.normal.related rule.falls)
        fresh false e = refl

        rest : (i : ℕ) → i ≤ length words → i ≡ j → ((i == 0) || is_product factors (entry k right (get_or suffixes i 0) b) (get_or suffixes i 0) b) ≡ true
        rest zero g e = refl
        rest (suc i) g e =
            let s = suffix_is (suc i) (suc i) (omega arith) (omega arith) g in
            let t : Word = parent words (get_or suffixes (suc i) 0) ++ b ∷ [] in
            let n = number (get_or suffixes (suc i) 0) b s.2 l in
            let whole : parent words j ++ b ∷ [] ≡ s.0 ∷ t = ap (λ w. w ++ b ∷ []) (ap (λ q. parent words q) (sym e) ∙ s.1) in
            let proper : IsProperFactor t (parent words j ++ b ∷ []) = record {
              factor = record { before = s.0 ∷ []; after = []; is = whole ∙ ap (λ w. s.0 ∷ w) (sym (append-nil t)) };
              proper = λ d. omega (arith, ap length d, ap length whole);
            } in
            let least = rule.factors t proper (r_refl setting t n.1.left) in
            or_right (suc i == 0) (is_product factors (entry k right (get_or suffixes (suc i) 0) b) (get_or suffixes (suc i) 0) b) (product_test (entry k right (get_or suffixes (suc i) 0) b) (get_or suffixes (suc i) 0) b s.2 n least)

    complete : (u v : Word) → IsReducedRule Related u v → (p : ℕ) × (p < length right) × (is_rule k factors right suffixes p ≡ true) × ((u, v) ≡ rule_at k factors right p)
    complete u v rule = elim (snoc u) [
      | inl z ↦ absurd (rule.normal.related.left.0 z)
      | inr r ↦
          let over : IsOver k (r.0 ++ r.1 ∷ []) = subst (λ w. IsOver k w) r.2 rule.normal.related.left.1 in
          let b : ℕ = r.1 in
          let l : b < k = (over_right k r.0 (r.1 ∷ []) over).0 in
          let front : r.0 ≢ [] → IsLeast Related r.0 = λ full. rule.factors r.0 (record {
            factor = record { before = []; after = r.1 ∷ []; is = r.2 };
            proper = λ d. omega (arith, ap length d, ap length r.2, length-append r.0 (r.1 ∷ []));
          }) (r_refl setting r.0 (full, over_left k r.0 (r.1 ∷ []) over)) in
          let at = place_of r.0 front in
          let p : ℕ = at.row * k + b in
          let inside : p < length right = let row = row_below k at.row (length words + 1) b (omega (arith, at.within)) l in omega (arith, length_right, row) in
          let row = row_of_place k (length words) p some (omega (arith, length_right, inside)) in
          let same = place_is k (p / k) at.row (p % k) b row.1 l row.2 in
          let whole : u ≡ parent words at.row ++ b ∷ [] = r.2 ∙ ap (λ w. w ++ b ∷ []) at.is in
          let found = product_found at.row b v at.within l (subst (λ w. IsReducedRule Related w v) whole rule) in (
            p,
            inside,
            subst₂ (λ x y. (not (is_product factors (get_or right p 0) x y) && ((x == 0) || is_product factors (entry k right (get_or suffixes x 0) y) (get_or suffixes x 0) y)) ≡ true) (sym same.0) (sym same.1) found.0,
            λ i. ((whole ∙ (λ n. parent words (sym same.0 n) ++ sym same.1 n ∷ [])) i, found.1 i),
          )
    ]

    -- left sides ascend with their places
    sides_ascend : (l p : ℕ) → l < p → p < length right → (rule_at k factors right l).0 ≺ (rule_at k factors right p).0
    sides_ascend l p less h =
        let one = row_of_place k (length words) l some (omega (arith, length_right)) in
        let two = row_of_place k (length words) p some (omega (arith, length_right)) in
        elim (below_or_not (l / k) (p / k)) [
          | inl before ↦ ahead (parent words (l / k)) (parent words (p / k)) (l % k) (p % k) (parents_rise setting words least_at ascending (l / k) (p / k) before two.0)
          | inr le ↦ elim (equal_or_below (p / k) (l / k) le) [
            | inl s ↦
                let rows_same : p / k * k ≡ l / k * k = ap (λ n. n * k) s in
                let letters : l % k < p % k = omega (arith, one.2, two.2, rows_same) in
                subst (λ n. (parent words (l / k) ++ l % k ∷ []) ≺ (parent words n ++ p % k ∷ [])) (sym s) (before_append_left (parent words (l / k)) (l % k ∷ []) (p % k ∷ []) (letter_before (l % k) (p % k) letters))
            | inr behind ↦ absurd (let row = row_below k (p / k) (l / k) (p % k) behind two.1 in omega (arith, one.2, two.2, row))
          ]
        ]

    -- the rules at all places are the reduced rules
    pub rules_listed : IsRuleList Related (rules_to k factors right suffixes (length right))
    rules_listed = list_from_ascending (λ q. IsReducedRule Related q.0 q.1) RuleBefore (rule_order Related equivalence) None (rules_to k factors right suffixes (length right))
        (rules_ascend k factors right suffixes (length right) sides_ascend (length right) (omega arith))
        (λ q m. let at = rule_place k factors right suffixes (length right) q m in subst (λ (z : Word × Word). IsReducedRule Related z.0 z.1) (sym at.3) (rule_holds at.0 at.1 at.2))
        (λ q h _. let at = complete q.0 q.1 h in subst (λ z. IsIn z (rules_to k factors right suffixes (length right))) (sym at.3) (place_in k factors right suffixes (length right) at.0 at.1 at.2))
