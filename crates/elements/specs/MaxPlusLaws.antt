-- What the product of truncated max-plus matrices keeps.
use Rattle.std.specs.Prelude.{◌≡◌, ℕ, ◌+◌, min, max, Bool, ◌&&◌, Option, Some, None, IsTrue, ◌==◌, refl}
use Rattle.std.specs.Hash as fed
use Rattle.std.specs.Option.{option_eq, option_cmp}
use Rattle.std.specs.declared.cmp.Ordering.{Ordering}
use Rattle.std.specs.Ordering.{nat_cmp, eq_by_cmp, eq_of_both, on, then_cmp, as_partial_cmp, ordering_then}
use Rattle.std.specs.Cmp.{unsigned_Decides, unsigned_ties, nat_cmp_total, nat_eq_equiv, on_total, on_equiv, and_equiv, partial_equiv_from_equiv, then_total, both_tied, first_so, second_so, IsEquivalence, IsPartialEquivalence, IsTotalOrder, IsPartialOrder, po}
use Rattle.std.specs.Cmp.Lexicographic.{pointwise, slice_cmp, lists_total, options_total, lists_equiv, options_equiv}
use Rattle.std.proofs.Common.{sym, ap, ◌∙◌, arith}
use Rattle.theory.specs.Value.{IsProduct}
use Rattle.elements.specs.Hashes.{entries_hash}
use Rattle.elements.specs.Matrix.{IsSemiring, matrix_product}
use Rattle.elements.specs.MatrixLaws.{matrix_product-associative}
use Rattle.elements.specs.MaxPlus.{TruncatedMatrix, greater_of, truncated_sum, truncated_product}
use Rattle.elements.specs.PPermLaws.{same_entries, equal_entries, entries_ties}

-- the same dimension, the same bound and the same entries
abbrev pub truncated_matrix_eq : TruncatedMatrix → TruncatedMatrix → Bool
truncated_matrix_eq = eq_of_both (on (λ m. m.dimension) ◌==◌)
    (eq_of_both (on (λ m. m.bound) ◌==◌) (on (λ m. m.entries) (pointwise (option_eq ◌==◌))))

-- by dimension, then by bound, and then by entries
abbrev pub truncated_matrix_cmp : TruncatedMatrix → TruncatedMatrix → Ordering
truncated_matrix_cmp = then_cmp (on (λ m. m.dimension) nat_cmp)
    (then_cmp (on (λ m. m.bound) nat_cmp) (on (λ m. m.entries) (slice_cmp (option_cmp nat_cmp))))

pub same_truncated_matrix : (x y : TruncatedMatrix) → IsTrue (truncated_matrix_eq x y) → x ≡ y
same_truncated_matrix x y h =
    let rest : IsTrue ((x.bound == y.bound) && pointwise (option_eq ◌==◌) x.entries y.entries)
    = second_so (x.dimension == y.dimension)
    ((x.bound == y.bound) && pointwise (option_eq ◌==◌) x.entries y.entries) h in
    let d = (unsigned_Decides x.dimension y.dimension).0
    (first_so (x.dimension == y.dimension)
    ((x.bound == y.bound) && pointwise (option_eq ◌==◌) x.entries y.entries) h) in
    let b = (unsigned_Decides x.bound y.bound).0
    (first_so (x.bound == y.bound) (pointwise (option_eq ◌==◌) x.entries y.entries) rest) in
    let e = same_entries x.entries y.entries
    (second_so (x.bound == y.bound) (pointwise (option_eq ◌==◌) x.entries y.entries) rest) in
    λ i. record { dimension = d i; bound = b i; entries = e i }

equal_to_itself : (x : TruncatedMatrix) → IsTrue (truncated_matrix_eq x x)
equal_to_itself x = λ i. (unsigned_Decides x.dimension x.dimension).1 refl i &&
    ((unsigned_Decides x.bound x.bound).1 refl i && equal_entries x.entries x.entries refl i)

equal_truncated_matrix : (x y : TruncatedMatrix) → x ≡ y → IsTrue (truncated_matrix_eq x y)
equal_truncated_matrix x y e = ap (truncated_matrix_eq x) (sym e) ∙ equal_to_itself x

pub truncated_matrix_equivalence : IsEquivalence truncated_matrix_eq
truncated_matrix_equivalence = and_equiv (on_equiv (λ m. m.dimension) nat_eq_equiv)
    (and_equiv (on_equiv (λ m. m.bound) nat_eq_equiv)
    (on_equiv (λ m. m.entries) (lists_equiv (options_equiv nat_eq_equiv))))

pub truncated_matrix_partial_equivalence : IsPartialEquivalence truncated_matrix_eq
truncated_matrix_partial_equivalence = partial_equiv_from_equiv truncated_matrix_equivalence

pub truncated_matrix_ties : (x y : TruncatedMatrix)
    → truncated_matrix_eq x y ≡ eq_by_cmp truncated_matrix_cmp x y
truncated_matrix_ties x y =
    both_tied (x.dimension == y.dimension)
    ((x.bound == y.bound) && pointwise (option_eq ◌==◌) x.entries y.entries)
    (nat_cmp x.dimension y.dimension)
    (ordering_then (nat_cmp x.bound y.bound)
    (slice_cmp (option_cmp nat_cmp) x.entries y.entries))
    (unsigned_ties x.dimension y.dimension)
    (both_tied (x.bound == y.bound) (pointwise (option_eq ◌==◌) x.entries y.entries)
    (nat_cmp x.bound y.bound) (slice_cmp (option_cmp nat_cmp) x.entries y.entries)
    (unsigned_ties x.bound y.bound) (entries_ties x.entries y.entries))

pub truncated_matrix_total : IsTotalOrder truncated_matrix_cmp
truncated_matrix_total = then_total (on_total (λ m. m.dimension) nat_cmp_total)
    (then_total (on_total (λ m. m.bound) nat_cmp_total)
    (on_total (λ m. m.entries) (lists_total (options_total nat_cmp_total))))

pub truncated_matrix_order : IsPartialOrder truncated_matrix_eq
    (as_partial_cmp truncated_matrix_cmp)
truncated_matrix_order = po truncated_matrix_total truncated_matrix_ties

-- what a hasher is fed
abbrev pub truncated_matrix_hash : TruncatedMatrix → fed.HashWrites
truncated_matrix_hash m = entries_hash m.entries

pub truncated_matrix_alike : (x y : TruncatedMatrix) → IsTrue (truncated_matrix_eq x y)
    → truncated_matrix_hash x ≡ truncated_matrix_hash y
truncated_matrix_alike x y h = ap truncated_matrix_hash (same_truncated_matrix x y h)

greater_associative : (p q r : Option ℕ)
    → greater_of (greater_of p q) r ≡ greater_of p (greater_of q r)
greater_associative None q r = refl
greater_associative (Some p) None r = refl
greater_associative (Some p) (Some q) None = refl
greater_associative (Some p) (Some q) (Some r) = let e : max (max p q) r
    ≡ max p (max q r) = Prim.omega arith in ap Some e

greater_commutative : (p q : Option ℕ) → greater_of p q ≡ greater_of q p
greater_commutative None None = refl
greater_commutative None (Some q) = refl
greater_commutative (Some p) None = refl
greater_commutative (Some p) (Some q) = let e : max p q ≡ max q p = Prim.omega arith in ap Some e

greater_nothing : (p : Option ℕ) → greater_of p None ≡ p
greater_nothing None = refl
greater_nothing (Some p) = refl

module _ (t : ℕ) where
  sum_associative : (p q r : Option ℕ)
      → truncated_sum t (truncated_sum t p q) r ≡ truncated_sum t p (truncated_sum t q r)
  sum_associative None q r = refl
  sum_associative (Some p) None r = refl
  sum_associative (Some p) (Some q) None = refl
  sum_associative (Some p) (Some q) (Some r) = let e : min (min (p + q) t + r) t
      ≡ min (p + min (q + r) t) t = Prim.omega arith in ap Some e

  sum_greater : (p q r : Option ℕ)
      → truncated_sum t p (greater_of q r) ≡ greater_of (truncated_sum t p q) (truncated_sum t p r)
  sum_greater None q r = refl
  sum_greater (Some p) None r = refl
  sum_greater (Some p) (Some q) None = refl
  sum_greater (Some p) (Some q) (Some r) = let e : min (p + max q r) t
      ≡ max (min (p + q) t) (min (p + r) t) = Prim.omega arith in ap Some e

  greater_sum : (p q r : Option ℕ)
      → truncated_sum t (greater_of p q) r ≡ greater_of (truncated_sum t p r) (truncated_sum t q r)
  greater_sum None q r = refl
  greater_sum (Some p) None None = refl
  greater_sum (Some p) None (Some r) = refl
  greater_sum (Some p) (Some q) None = refl
  greater_sum (Some p) (Some q) (Some r) = let e : min (max p q + r) t
      ≡ max (min (p + r) t) (min (q + r) t) = Prim.omega arith in ap Some e

  sum_nothing : (p : Option ℕ) → truncated_sum t p None ≡ None
  sum_nothing None = refl
  sum_nothing (Some p) = refl

  truncated_sums : IsSemiring greater_of (truncated_sum t) None
  truncated_sums = record {
    add_associative = greater_associative;
    add_commutative = greater_commutative;
    add_nothing = greater_nothing;
    multiply_associative = sum_associative;
    multiply_sum = sum_greater;
    sum_multiply = greater_sum;
    multiply_nothing = sum_nothing;
    nothing_multiply = λ p. refl;
  }

-- equal matrices have one dimension and one bound
pub one_truncated_shape : (x y : TruncatedMatrix) → IsTrue (truncated_matrix_eq x y)
    → ◌≡◌ {A = ℕ × ℕ} (x.dimension, x.bound) (y.dimension, y.bound)
one_truncated_shape x y e = ap (λ m. (m.dimension, m.bound)) (same_truncated_matrix x y e)

-- the matrices of one dimension and bound have an associative product
pub truncated_products : (one : ℕ × ℕ)
    → IsProduct (λ x. let s : ℕ × ℕ = (x.dimension, x.bound) in s ≡ one) truncated_product
    truncated_matrix_eq
truncated_products one = record {
  shape = λ x y h _. h;
  associative = λ x y z p q _. equal_truncated_matrix (truncated_product (truncated_product x y) z)
      (truncated_product x (truncated_product y z))
      (one_by_one x y z (ap (λ s. s.0) (p ∙ sym q)) (ap (λ s. s.1) (p ∙ sym q)));
  kept = λ x y z w _ _ _ _ p q. equal_truncated_matrix (truncated_product x z)
      (truncated_product y w)
      (λ i. truncated_product (same_truncated_matrix x y p i) (same_truncated_matrix z w q i));
  reflexive = equal_to_itself;
  symmetric = λ x y p. equal_truncated_matrix y x (sym (same_truncated_matrix x y p));
  transitive = λ x y z p q. equal_truncated_matrix x z
      (same_truncated_matrix x y p ∙ same_truncated_matrix y z q);
}
  where
    one_by_one : (x y z : TruncatedMatrix) → x.dimension ≡ y.dimension → x.bound ≡ y.bound
        → truncated_product (truncated_product x y) z ≡ truncated_product x (truncated_product y z)
    one_by_one x y z d b =
        let entries =
        matrix_product-associative greater_of (truncated_sum x.bound) None
        (truncated_sums x.bound) x.dimension x.entries y.entries z.entries
        ∙ (λ i. matrix_product greater_of (truncated_sum x.bound) None x.dimension x.entries
        (matrix_product greater_of (truncated_sum (b i)) None (d i) y.entries z.entries)) in
        λ i. record { dimension = x.dimension; bound = x.bound; entries = entries i }
