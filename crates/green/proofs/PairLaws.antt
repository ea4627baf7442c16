-- Pairs of names are numbered in order.
use Rattle.std.proofs.Common.{◌≡◌, ℕ, zero, suc, ◌+◌, ◌<◌, ◌≤◌, Bool, true, false, ◌&&◌, if◌then◌else◌, eqb, List, [], ◌∷◌, ◌++◌, length, slice_get, slice_index, slice_index_or, refl, sym, ◌∙◌, ap, ap₂, subst, arith, inl, inr, Some}
use Rattle.std.proofs.Math.ListN.{get_or-append}
use Rattle.std.proofs.lemmas.Bool.{cases_eq, cases_lt, eqb-true}
use Rattle.std.proofs.lemmas.List.{get_or_push, length_push}
use Rattle.std.proofs.lemmas.List.Elements.{All-from_recursion}
use Rattle.std.proofs.lemmas.Map.Keys.{IsDistinct-head, IsDistinct-tail}
use Rattle.std.specs.List.{IsDistinct}

abbrev pub pair_at : List (ℕ × ℕ) → ℕ → ℕ × ℕ
pair_at pairs p = slice_index_or pairs p (0, 0)

-- each name is the place of the pair of names, and no pair stands twice
pub record AreNumbered (first second : List ℕ) (m : ℕ) (pairs : List (ℕ × ℕ)) (names : List ℕ) : Type 0 where
  pub count : length names ≡ m
  pub few : length pairs ≤ m
  pub at : (i : ℕ) → i < m → (slice_index names i < length pairs)
      × (pair_at pairs (slice_index names i) ≡ (slice_index first i, slice_index second i))
  pub apart : (p q : ℕ) → p < length pairs → q < length pairs → pair_at pairs p ≡ pair_at pairs q → p ≡ q

abbrev pub pair_eq : ℕ × ℕ → ℕ × ℕ → Bool
pair_eq x y = eqb x.0 y.0 && eqb x.1 y.1

both_true : (a b : Bool) → (a && b) ≡ true → (a ≡ true) × (b ≡ true)
both_true true true e = (refl, refl)
both_true true false e = cc
both_true false b e = cc

eqb_same : (a : ℕ) → eqb a a ≡ true
eqb_same a = grind arith

pair_same : (x : ℕ × ℕ) → pair_eq x x ≡ true
pair_same x = ap₂ (λ a b. a && b) (eqb_same x.0) (eqb_same x.1)

found_is : (x y : ℕ × ℕ) → pair_eq x y ≡ true → y ≡ x
found_is x y e =
    let both = both_true (eqb x.0 y.0) (eqb x.1 y.1) e in
    let one = eqb-true x.0 y.0 both.0 in
    let two = eqb-true x.1 y.1 both.1 in
    ap₂ (λ (a b : ℕ). (a, b)) (sym one) (sym two)

-- no pair stands behind itself
later_differs : (ks : List (ℕ × ℕ)) → IsDistinct pair_eq ks → (p q : ℕ) → p < q → q < length ks → pair_at ks p ≡ pair_at ks q → ⊥
later_differs [] d p q l m e = omega arith
later_differs (k ∷ ks) d p zero l m e = omega arith
later_differs (k ∷ ks) d zero (suc q) l m e =
    let head = All-from_recursion (λ y. pair_eq k y ≡ false) ks (IsDistinct-head pair_eq k ks d) q (0, 0) (omega arith) in
    let same : pair_eq k (pair_at ks q) ≡ true = subst (λ y. pair_eq k y ≡ true) e (pair_same k) in
    cc
later_differs (k ∷ ks) d (suc p) (suc q) l m e = later_differs ks (IsDistinct-tail pair_eq k ks d) p q (omega arith) (omega arith) e

distinct_apart : (ks : List (ℕ × ℕ)) → IsDistinct pair_eq ks → (p q : ℕ) → p < length ks → q < length ks → pair_at ks p ≡ pair_at ks q → p ≡ q
distinct_apart ks d p q l m e = elim (cases_lt p q) [
  | inl less ↦ absurd (later_differs ks d p q less m e)
  | inr most ↦ elim (cases_lt q p) [
    | inl more ↦ absurd (later_differs ks d q p more l (sym e))
    | inr none ↦ omega (arith, most, none)
  ]
]

at_get : (xs : List (ℕ × ℕ)) (i : ℕ) (x : ℕ × ℕ) → slice_get xs i ≡ Some x → pair_at xs i ≡ x
at_get [] i x e = cc
at_get (y ∷ xs) zero x e = let one : y ≡ x = cc in one
at_get (y ∷ xs) (suc i) x e = at_get xs i x e

-- a pair is put behind the others, or is there
grown : (pairs more : List (ℕ × ℕ)) (x : ℕ × ℕ) (has : Bool) → more ≡ (if has then pairs else pairs ++ x ∷ [])
    → (length pairs ≤ length more) × (length more ≤ length pairs + 1) × ((p : ℕ) → p < length pairs → pair_at more p ≡ pair_at pairs p)
grown pairs more x true e = (omega (arith, ap length e), omega (arith, ap length e), λ p l. ap (λ (ps : List (ℕ × ℕ)). pair_at ps p) e)
grown pairs more x false e =
    let long = length_push pairs x in (
      omega (arith, ap length e, long),
      omega (arith, ap length e, long),
      λ p l. ap (λ (ps : List (ℕ × ℕ)). pair_at ps p) e ∙ get_or-append pairs (x ∷ []) (0, 0) p l,
    )

pub numbered_more : (first second names now : List ℕ) (m place : ℕ) (pairs more : List (ℕ × ℕ)) (has : Bool) (found : ℕ × ℕ) → AreNumbered first second m pairs names
    → more ≡ (if has then pairs else pairs ++ (slice_index first m, slice_index second m) ∷ []) → place < length more → slice_get more place ≡ Some found
    → pair_eq (slice_index first m, slice_index second m) found ≡ true → IsDistinct pair_eq more → now ≡ names ++ place ∷ [] → AreNumbered first second (m + 1) more now
numbered_more first second names now m place pairs more has found h is within got same distinct e =
    let size = grown pairs more (slice_index first m, slice_index second m) has is in record {
      count = ap length e ∙ length_push names place ∙ ap (λ n. n + 1) h.count;
      few = omega (arith, h.few, size.1);
      at = λ i l. elim (cases_eq i m) [
        | inl this ↦
            let name : slice_index now i ≡ place = ap (λ (xs : List ℕ). slice_index xs i) e ∙ get_or_push names place 0 i (omega (arith, this, h.count)) in (
              omega (arith, name, within),
              ap (pair_at more) name ∙ at_get more place found got ∙ found_is (slice_index first m, slice_index second m) found same
                  ∙ ap (λ j. (slice_index first j, slice_index second j)) (sym this),
            )
        | inr other ↦
            let less : i < m = omega (arith, l, other) in
            let old = h.at i less in
            let name : slice_index now i ≡ slice_index names i = ap (λ (xs : List ℕ). slice_index xs i) e ∙ get_or-append names (place ∷ []) 0 i (omega (arith, less, h.count)) in (
              omega (arith, name, old.0, size.0),
              ap (pair_at more) name ∙ size.2 (slice_index names i) old.0 ∙ old.1,
            )
      ];
      apart = distinct_apart more distinct;
    }
