-- The order of two lists that are alike as far as one of them goes.
use Rattle.std.proofs.Common.{◌≡◌, ℕ, zero, suc, ◌<◌, ◌≤◌, List, [], ◌∷◌, length, drop, min, refl, ◌∙◌, rules, arith}
use Rattle.std.specs.declared.cmp.Ordering.{Ordering}
use Rattle.std.specs.declared.cmp.Ordering.TheVariants.{Less, Equal, Greater}
use Rattle.std.specs.Ordering.{nat_cmp, MatchOrdering}
use Rattle.std.specs.Cmp.{nat_cmp_is}
use Rattle.std.specs.Cmp.Lexicographic.{slice_cmp}

-- lists, alike so far, of which one ends
pub ends_compared : {A : Type 0} (R : A → A → Ordering) (xs ys : List A) (i : ℕ) → i ≤ length xs → i ≤ length ys → min (length xs) (length ys) ≤ i → slice_cmp R (drop i xs) (drop i ys) ≡ nat_cmp (length xs) (length ys)
ends_compared R [] [] zero p q e = refl
ends_compared R [] [] (suc i) p q e = absurd (omega arith)
ends_compared R [] (y ∷ ys) zero p q e = nat_cmp_is zero (suc (length ys)) Less (omega arith)
ends_compared R [] (y ∷ ys) (suc i) p q e = absurd (omega arith)
ends_compared R (x ∷ xs) [] zero p q e = nat_cmp_is (suc (length xs)) zero Greater (omega arith)
ends_compared R (x ∷ xs) [] (suc i) p q e = absurd (omega arith)
ends_compared R (x ∷ xs) (y ∷ ys) zero p q e = absurd (omega arith)
ends_compared R (x ∷ xs) (y ∷ ys) (suc i) p q e = ends_compared R xs ys i (omega arith) (omega arith) (omega arith) ∙ nat_cmp_is (suc (length xs)) (suc (length ys)) (nat_cmp (length xs) (length ys)) (more (nat_cmp (length xs) (length ys)) (search rules))
  where
    more : (o : Ordering) → MatchOrdering o (length xs < length ys) (length xs ≡ length ys) (length ys < length xs) → MatchOrdering o (suc (length xs) < suc (length ys)) (suc (length xs) ≡ suc (length ys)) (suc (length ys) < suc (length xs))
    more Less h = omega arith
    more Equal h = omega arith
    more Greater h = omega arith
