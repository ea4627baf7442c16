-- Packed matrices beside the lists of their entries.
use Rattle.std.proofs.Common.{◌≡◌, ℕ, ◌*◌, ◌^◌, ◌<◌, ◌&&◌, ◌==◌, refl, sym, ap, ◌∙◌, subst}
use mathlib.Core.Bool.{beq}
use Rattle.std.specs.Prelude.{IsTrue}
use Rattle.std.specs.declared.cmp.Ordering.{Ordering}
use Rattle.std.specs.declared.cmp.Ordering.TheVariants.{Less, Equal, Greater}
use Rattle.std.specs.Ordering.{nat_cmp, bool_cmp, ordering_then}
use Rattle.std.specs.Cmp.{unsigned_Decides, booleans_Decides}
use Rattle.std.specs.Cmp.Lexicographic.{pointwise, pointwise_decides, slice_cmp}
use Rattle.theory.proofs.Words.{nat_from_Equal}
use Rattle.elements.specs.Bits.{bits}
use Rattle.elements.specs.BMat.{BooleanMatrix}
use Rattle.elements.specs.BMatLaws.{boolean_matrix_eq, boolean_matrix_cmp}
use Rattle.elements.proofs.Bits.{same_tests, same_from_digits, cmp_digits}

-- the packed matrix of n rows
abbrev pub packed : ℕ → ℕ → BooleanMatrix
packed n x = record { dimension = n; entries = bits (n * n) x }

one_dimension : (n x y : ℕ) → x < 2 ^ (n * n) → y < 2 ^ (n * n) → (x == y) ≡ boolean_matrix_eq (packed n x) (packed n y)
one_dimension n x y p q =
    let itself : IsTrue (n == n) = (unsigned_Decides n n).1 refl in
    same_tests (x == y) (pointwise beq (bits (n * n) x) (bits (n * n) y))
    (λ h. (pointwise_decides booleans_Decides (bits (n * n) x) (bits (n * n) y)).1 (ap (bits (n * n)) ((unsigned_Decides x y).0 h)))
    (λ h. (unsigned_Decides x y).1 (same_from_digits (n * n) x y p q ((pointwise_decides booleans_Decides (bits (n * n) x) (bits (n * n) y)).0 h)))
    ∙ ap (λ b. b && pointwise beq (bits (n * n) x) (bits (n * n) y)) (sym itself)

pub packed_equal : (n m x y : ℕ) → n ≡ m → x < 2 ^ (n * n) → y < 2 ^ (m * m) → (x == y) ≡ boolean_matrix_eq (packed n x) (packed m y)
packed_equal n m x y e p q = one_dimension n x y p (subst (λ k. y < 2 ^ (k * k)) (sym e) q) ∙ ap (λ k. boolean_matrix_eq (packed n x) (packed k y)) e

pub packed_compared : (n m x y : ℕ) → x < 2 ^ (n * n) → y < 2 ^ (m * m) → ordering_then (nat_cmp n m) (nat_cmp x y) ≡ boolean_matrix_cmp (packed n x) (packed m y)
packed_compared n m x y p q = by (nat_cmp n m) refl
  where
    by : (r : Ordering) → nat_cmp n m ≡ r → ordering_then r (nat_cmp x y) ≡ ordering_then r (slice_cmp bool_cmp (bits (n * n) x) (bits (m * m) y))
    by Less e = refl
    by Greater e = refl
    by Equal e =
        let same : n ≡ m = nat_from_Equal n m e in
        sym (cmp_digits (n * n) x y p (subst (λ k. y < 2 ^ (k * k)) (sym same) q)) ∙ ap (λ k. slice_cmp bool_cmp (bits (n * n) x) (bits (k * k) y)) same
