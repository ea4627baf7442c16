-- The edges of Cayley graphs as maps, and the classes that they keep.
use Rattle.std.proofs.Common.{◌≡◌, ℕ, false, zero, suc, ◌+◌, ◌-◌, ◌<◌, ◌≤◌, List, [], ◌∷◌, ◌++◌, refl, sym, ◌∙◌, ap, arith, inl, inr, length, subst, subst₂, slice_index, Contains, fold, take, get_or, slice_get, Some}
use Rattle.std.proofs.lemmas.List.{take_more}
use Rattle.std.proofs.lemmas.List.Sums.{fold-append}
use Rattle.std.proofs.lemmas.Option.{get_or_from_slice_get}
use Rattle.std.proofs.lemmas.Bool.{cases_lt}
use Rattle.theory.specs.Word.{Word, IsOver, IsElement}
use Rattle.theory.specs.Generated.{IsKeptOnRight, IsKeptOnLeft, given, symmetric, transitive, on_right, on_left, IsPairOf}
use Rattle.theory.specs.declared.Kind.{Kind}
use Rattle.theory.specs.declared.Kind.TheVariants.{TwoSided, Right, Left}
use Rattle.theory.proofs.GeneratedLaws.{generated_least}
use Rattle.congruence_closure.specs.Maps.{AreInto, GivenPair, KeptBy, AreLeastClasses}
use Rattle.froidure_pin.specs.declared.tables.CayleyTables.{CayleyTables}
use Rattle.cayley.specs.Tables.{edge, number_in, FitTogether, GivenIn, GeneratedIn, AreClasses}
use Rattle.cayley.specs.Placing.{AreNamed}
use Rattle.cayley.specs.Sides.{side_count, side_image, side_maps, numbers_of}

same_pair : (x y i j : ℕ) → ◌≡◌ {A = ℕ × ℕ} (x, y) (i, j) → (x ≡ i) × (y ≡ j)
same_pair x y i j e = (ap (λ (p : ℕ × ℕ). p.0) e, ap (λ (p : ℕ × ℕ). p.1) e)

-- the maps of a kind lead where its edges lead
at_right : (t : CayleyTables) (i a : ℕ) → a < length t.letters → side_image TwoSided t i a ≡ edge t.right i a
at_right t i a h = grind (arith, h)

at_left : (t : CayleyTables) (i a : ℕ) → length t.letters ≤ a → side_image TwoSided t i a ≡ edge t.left i (a - length t.letters)
at_left t i a h = grind (arith, h)

pub sides_into : (t : CayleyTables) (kind : Kind) → FitTogether t → AreInto (side_maps t kind)
sides_into t TwoSided fit i a h l = elim (cases_lt a (length t.letters)) [
  | inl less ↦ subst (λ x. x < length t.words) (sym (at_right t i a less)) (fit.right.within i a h less)
  | inr most ↦ subst (λ x. x < length t.words) (sym (at_left t i a most)) (fit.left.within i (a - length t.letters) h (omega (arith, l, most)))
]
sides_into t Right fit i a h l = fit.right.within i a h l
sides_into t Left fit i a h l = fit.left.within i a h l

-- the numbers of the pairs
pair_listed : (t : CayleyTables) (pairs : List (Word × Word)) (i j : ℕ) → IsPairOf pairs (λ m u. m ≡ number_in t u) i j → Contains (numbers_of t pairs) (i, j)
pair_listed t pairs i j p =
    subst₂ (λ x y. Contains (numbers_of t pairs) (x, y)) (sym p.left) (sym p.right) (at pairs p.listed)
  where
    at : (pairs : List (Word × Word)) → Contains pairs (p.first, p.second) → Contains (numbers_of t pairs) (number_in t p.first, number_in t p.second)
    at [] (n, h, d) = absurd (omega (arith, h))
    at (x ∷ pairs) (zero, h, d) = (0, omega arith, ap (λ (z : Word × Word). (number_in t z.0, number_in t z.1)) d)
    at (x ∷ pairs) (suc n, h, d) = let o = at pairs (n, omega (arith, h), d) in (suc o.0, omega (arith, o.1), o.2)

listed_pair : (t : CayleyTables) (pairs : List (Word × Word)) (i j : ℕ) → Contains (numbers_of t pairs) (i, j) → IsPairOf pairs (λ m u. m ≡ number_in t u) i j
listed_pair t [] i j (n, h, d) = absurd (omega (arith, h))
listed_pair t (x ∷ pairs) i j (zero, h, d) =
    let e = same_pair (number_in t x.0) (number_in t x.1) i j d in
    record { first = x.0; second = x.1; listed = (0, omega arith, refl); left = sym e.0; right = sym e.1 }
listed_pair t (x ∷ pairs) i j (suc n, h, d) =
    let p = listed_pair t pairs i j (n, omega (arith, h), d) in
    record { first = p.first; second = p.second; listed = (suc p.listed.0, omega (arith, p.listed.1), p.listed.2); left = p.left; right = p.right }

number_within : (t : CayleyTables) → FitTogether t → (u : Word) → IsElement false (length t.letters) u → number_in t u < length t.words
number_within t fit [] e = absurd (e.0 refl)
number_within t fit (a ∷ u) e = walk u (slice_index t.letters a) (fit.letters a e.1.0) e.1.1
  where
    walk : (u : Word) (n : ℕ) → n < length t.words → IsOver (length t.letters) u → fold (edge t.right) n u < length t.words
    walk [] n h o = h
    walk (b ∷ u) n h o = walk u (edge t.right n b) (fit.right.within n b h o.0) o.1

-- the numbers of words so far
pub first_letter : (t : CayleyTables) (u : Word) (a : ℕ) → slice_get u 0 ≡ Some a → number_in t (take 1 u) ≡ slice_index t.letters a
first_letter t [] a e = cc
first_letter t (b ∷ u) a e = let same : b ≡ a = cc in ap (slice_index t.letters) same

pub letter_more : (t : CayleyTables) (u : Word) (i a : ℕ) → 0 < i → i < length u → slice_get u i ≡ Some a
    → number_in t (take (i + 1) u) ≡ edge t.right (number_in t (take i u)) a
letter_more t [] i a some h e = absurd (omega arith)
letter_more t (b ∷ u) zero a some h e = absurd (omega arith)
letter_more t (b ∷ u) (suc i) a some h e =
    let place : suc i + 1 ≡ suc (i + 1) = omega arith in
    let more : take (i + 1) u ≡ take i u ++ get_or u i 0 ∷ [] = take_more u i 0 (omega arith) in
    let letter : get_or u i 0 ≡ a = get_or_from_slice_get u i a 0 e in
    ap (λ n. number_in t (take n (b ∷ u))) place ∙ ap (fold (edge t.right) (slice_index t.letters b)) more
    ∙ fold-append (edge t.right) (slice_index t.letters b) (take i u) (get_or u i 0 ∷ [])
    ∙ ap (edge t.right (fold (edge t.right) (slice_index t.letters b) (take i u))) letter

-- the classes of the maps are those of the edges
module _ (t : CayleyTables) (kind : Kind) (pairs : List (Word × Word)) where
  abbrev Kept : ℕ → ℕ → Type 0
  Kept = KeptBy (side_maps t kind) (numbers_of t pairs)

  given_kept : (i j : ℕ) → GivenIn t pairs i j → Kept i j
  given_kept i j (inl h) = given (inl h)
  given_kept i j (inr p) = given (inr (pair_listed t pairs i j p))

  kept_given : (i j : ℕ) → GivenPair (length t.words) (numbers_of t pairs) i j → GeneratedIn t kind pairs i j
  kept_given i j (inl h) = given (inl h)
  kept_given i j (inr o) = given (inr (listed_pair t pairs i j o))

right_kept : (t : CayleyTables) (kind : Kind) (pairs : List (Word × Word)) (i j a : ℕ) → IsKeptOnRight kind → a < length t.letters
    → Kept t kind pairs i j → Kept t kind pairs (edge t.right i a) (edge t.right j a)
right_kept t TwoSided pairs i j a m h k =
    subst₂ (Kept t TwoSided pairs) (at_right t i a h) (at_right t j a h) (on_right i j a tt (omega (arith, h)) k)
right_kept t Right pairs i j a m h k = on_right i j a tt h k
right_kept t Left pairs i j a m h k = absurd m

left_kept : (t : CayleyTables) (kind : Kind) (pairs : List (Word × Word)) (i j a : ℕ) → IsKeptOnLeft kind → a < length t.letters
    → Kept t kind pairs i j → Kept t kind pairs (edge t.left i a) (edge t.left j a)
left_kept t TwoSided pairs i j a m h k =
    let b : a + length t.letters - length t.letters ≡ a = omega arith in
    let high : length t.letters ≤ a + length t.letters = omega arith in
    subst₂ (Kept t TwoSided pairs) (at_left t i (a + length t.letters) high ∙ ap (edge t.left i) b) (at_left t j (a + length t.letters) high ∙ ap (edge t.left j) b)
    (on_right i j (a + length t.letters) tt (omega (arith, h)) k)
left_kept t Right pairs i j a m h k = absurd m
left_kept t Left pairs i j a m h k = on_right i j a tt h k

-- under a map of the kind related numbers lead to related ones
map_generated : (t : CayleyTables) (kind : Kind) (pairs : List (Word × Word)) (i j a : ℕ) → a < side_count kind (length t.letters)
    → GeneratedIn t kind pairs i j → GeneratedIn t kind pairs (side_image kind t i a) (side_image kind t j a)
map_generated t TwoSided pairs i j a h g = elim (cases_lt a (length t.letters)) [
  | inl less ↦ subst₂ (GeneratedIn t TwoSided pairs) (sym (at_right t i a less)) (sym (at_right t j a less)) (on_right i j a tt less g)
  | inr most ↦
      subst₂ (GeneratedIn t TwoSided pairs) (sym (at_left t i a most)) (sym (at_left t j a most))
      (on_left i j (a - length t.letters) tt (omega (arith, h, most)) g)
]
map_generated t Right pairs i j a h g = on_right i j a tt h g
map_generated t Left pairs i j a h g = on_left i j a tt h g

generated_kept : (t : CayleyTables) (kind : Kind) (pairs : List (Word × Word)) (i j : ℕ) → GeneratedIn t kind pairs i j → Kept t kind pairs i j
generated_kept t kind pairs i j =
    generated_least kind (length t.letters) (edge t.right) (edge t.left) (GivenIn t pairs) (Kept t kind pairs) (given_kept t kind pairs)
    (λ x y h. symmetric h) (λ x y z h g. transitive h g) (right_kept t kind pairs) (left_kept t kind pairs)

kept_generated : (t : CayleyTables) (kind : Kind) (pairs : List (Word × Word)) (i j : ℕ) → Kept t kind pairs i j → GeneratedIn t kind pairs i j
kept_generated t kind pairs i j =
    generated_least Right (side_count kind (length t.letters)) (side_image kind t) (side_image kind t) (GivenPair (length t.words) (numbers_of t pairs))
    (GeneratedIn t kind pairs) (kept_given t kind pairs) (λ x y h. symmetric h) (λ x y z h g. transitive h g)
    (λ x y a m h g. map_generated t kind pairs x y a h g) (λ x y a m h g. absurd m)

pub kept_classes : (t : CayleyTables) (kind : Kind) (pairs : List (Word × Word)) (classes : List ℕ)
    → AreLeastClasses (side_maps t kind) (numbers_of t pairs) classes → AreClasses t kind pairs classes
kept_classes t kind pairs classes c = record {
  count = c.count;
  related = λ i j p q. (
    λ h. (c.related i j p q).0 (generated_kept t kind pairs i j h),
    λ e. kept_generated t kind pairs i j ((c.related i j p q).1 e),
  );
  own = λ i p. kept_generated t kind pairs i (slice_index classes i) (c.own i p);
  least = λ i j p h. c.least i j p (generated_kept t kind pairs i j h);
}

-- classes are named by their least numbers
pub kept_named : (t : CayleyTables) (kind : Kind) (pairs : List (Word × Word)) (classes : List ℕ)
    → AreLeastClasses (side_maps t kind) (numbers_of t pairs) classes → AreNamed classes
kept_named t kind pairs classes c = record { below = low; own = λ i h. sym ((c.related i (slice_index classes i) (in_words i h) (down i h)).0 (c.own i (in_words i h))) }
  where
    in_words : (i : ℕ) → i < length classes → i < length t.words
    in_words i h = omega (arith, h, c.count)

    low : (i : ℕ) → i < length classes → slice_index classes i ≤ i
    low i h = c.least i i (in_words i h) (given (inl (in_words i h, refl)))

    down : (i : ℕ) → i < length classes → slice_index classes i < length t.words
    down i h = omega (arith, low i h, in_words i h)
