-- What the product of Boolean matrices keeps.
use mathlib.Core.Bool.{beq}
use Rattle.std.specs.Prelude.{◌≡◌, ℕ, Bool, true, false, ◌||◌, ◌&&◌, IsTrue, ◌==◌, refl}
use Rattle.std.specs.Hash as fed
use Rattle.std.specs.declared.cmp.Ordering.{Ordering}
use Rattle.std.specs.Ordering.{nat_cmp, bool_cmp, eq_by_cmp, eq_of_both, on, then_cmp, as_partial_cmp}
use Rattle.std.specs.Cmp.{unsigned_Decides, booleans_Decides, unsigned_ties, nat_cmp_total, bool_cmp_total, on_total, then_total, both_tied, first_so, second_so, IsTotalOrder, IsPartialOrder, po}
use Rattle.std.specs.Cmp.Lexicographic.{pointwise, pointwise_decides, slice_cmp, lists_total, lists_ties}
use Rattle.std.proofs.Common.{sym, ap, ◌∙◌}
use Rattle.theory.specs.Value.{IsProduct}
use Rattle.elements.specs.Hashes.{bits_hash}
use Rattle.elements.specs.Matrix.{IsSemiring, matrix_product}
use Rattle.elements.specs.MatrixLaws.{matrix_product-associative}
use Rattle.elements.specs.BMat.{BooleanMatrix, boolean_product}

-- the same dimension and the same entries
abbrev pub boolean_matrix_eq : BooleanMatrix → BooleanMatrix → Bool
boolean_matrix_eq = eq_of_both (on (λ m. m.dimension) ◌==◌) (on (λ m. m.entries) (pointwise beq))

-- by dimension, and then by entries
abbrev pub boolean_matrix_cmp : BooleanMatrix → BooleanMatrix → Ordering
boolean_matrix_cmp = then_cmp (on (λ m. m.dimension) nat_cmp)
    (on (λ m. m.entries) (slice_cmp bool_cmp))

pub same_boolean_matrix : (x y : BooleanMatrix) → IsTrue (boolean_matrix_eq x y) → x ≡ y
same_boolean_matrix x y h =
    let d = (unsigned_Decides x.dimension y.dimension).0
    (first_so (x.dimension == y.dimension) (pointwise beq x.entries y.entries) h) in
    let e = (pointwise_decides booleans_Decides x.entries y.entries).0
    (second_so (x.dimension == y.dimension) (pointwise beq x.entries y.entries) h) in
    λ i. record { dimension = d i; entries = e i }

equal_to_itself : (x : BooleanMatrix) → IsTrue (boolean_matrix_eq x x)
equal_to_itself x = λ i. (unsigned_Decides x.dimension x.dimension).1 refl i &&
    (pointwise_decides booleans_Decides x.entries x.entries).1 refl i

equal_boolean_matrix : (x y : BooleanMatrix) → x ≡ y → IsTrue (boolean_matrix_eq x y)
equal_boolean_matrix x y e = ap (boolean_matrix_eq x) (sym e) ∙ equal_to_itself x

bit_ties : (x y : Bool) → beq x y ≡ eq_by_cmp bool_cmp x y
bit_ties true true = refl
bit_ties true false = refl
bit_ties false true = refl
bit_ties false false = refl

pub boolean_matrix_ties : (x y : BooleanMatrix)
    → boolean_matrix_eq x y ≡ eq_by_cmp boolean_matrix_cmp x y
boolean_matrix_ties x y =
    both_tied (x.dimension == y.dimension) (pointwise beq x.entries y.entries)
    (nat_cmp x.dimension y.dimension) (slice_cmp bool_cmp x.entries y.entries)
    (unsigned_ties x.dimension y.dimension) (lists_ties bool_cmp bit_ties x.entries y.entries)

pub boolean_matrix_total : IsTotalOrder boolean_matrix_cmp
boolean_matrix_total = then_total (on_total (λ m. m.dimension) nat_cmp_total)
    (on_total (λ m. m.entries) (lists_total bool_cmp_total))

pub boolean_matrix_order : IsPartialOrder boolean_matrix_eq (as_partial_cmp boolean_matrix_cmp)
boolean_matrix_order = po boolean_matrix_total boolean_matrix_ties

-- what a hasher is fed
abbrev pub boolean_matrix_hash : BooleanMatrix → fed.HashWrites
boolean_matrix_hash m = bits_hash m.entries

pub boolean_matrix_alike : (x y : BooleanMatrix) → IsTrue (boolean_matrix_eq x y)
    → boolean_matrix_hash x ≡ boolean_matrix_hash y
boolean_matrix_alike x y h = ap boolean_matrix_hash (same_boolean_matrix x y h)

booleans : IsSemiring ◌||◌ ◌&&◌ false
booleans = record {
  add_associative = elim [ true ↦ λ q r. refl | false ↦ λ q r. refl ];
  add_commutative = or_commutative;
  add_nothing = elim [ true ↦ refl | false ↦ refl ];
  multiply_associative = elim [ true ↦ λ q r. refl | false ↦ λ q r. refl ];
  multiply_sum = elim [ true ↦ λ q r. refl | false ↦ λ q r. refl ];
  sum_multiply = or_and;
  multiply_nothing = elim [ true ↦ refl | false ↦ refl ];
  nothing_multiply = λ p. refl;
}
  where
    or_commutative : (p q : Bool) → (p || q) ≡ (q || p)
    or_commutative true true = refl
    or_commutative true false = refl
    or_commutative false true = refl
    or_commutative false false = refl

    or_and : (p q r : Bool) → ((p || q) && r) ≡ ((p && r) || (q && r))
    or_and true true true = refl
    or_and true true false = refl
    or_and true false true = refl
    or_and true false false = refl
    or_and false q r = refl

-- equal matrices have one dimension
pub one_boolean_dimension : (x y : BooleanMatrix) → IsTrue (boolean_matrix_eq x y)
    → ◌≡◌ {A = ℕ × ℕ} (x.dimension, 0) (y.dimension, 0)
one_boolean_dimension x y e = ap (λ m. (m.dimension, 0)) (same_boolean_matrix x y e)

-- the matrices of one dimension have an associative product
pub boolean_products : (one : ℕ × ℕ)
    → IsProduct (λ x. let s : ℕ × ℕ = (x.dimension, 0) in s ≡ one) boolean_product boolean_matrix_eq
boolean_products one = record {
  shape = λ x y h _. h;
  associative = λ x y z p q _. equal_boolean_matrix (boolean_product (boolean_product x y) z)
      (boolean_product x (boolean_product y z)) (one_by_one x y z (ap (λ s. s.0) (p ∙ sym q)));
  kept = λ x y z w _ _ _ _ p q. equal_boolean_matrix (boolean_product x z) (boolean_product y w)
      (λ i. boolean_product (same_boolean_matrix x y p i) (same_boolean_matrix z w q i));
  reflexive = equal_to_itself;
  symmetric = λ x y p. equal_boolean_matrix y x (sym (same_boolean_matrix x y p));
  transitive = λ x y z p q. equal_boolean_matrix x z
      (same_boolean_matrix x y p ∙ same_boolean_matrix y z q);
}
  where
    one_by_one : (x y z : BooleanMatrix) → x.dimension ≡ y.dimension
        → boolean_product (boolean_product x y) z ≡ boolean_product x (boolean_product y z)
    one_by_one x y z e =
        let entries =
        matrix_product-associative ◌||◌ ◌&&◌ false booleans x.dimension x.entries y.entries
        z.entries
        ∙ ap (λ n. matrix_product ◌||◌ ◌&&◌ false x.dimension x.entries
        (matrix_product ◌||◌ ◌&&◌ false n y.entries z.entries)) e in
        λ i. record { dimension = x.dimension; entries = entries i }
