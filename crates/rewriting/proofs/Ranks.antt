-- The place of a word in short-lex order.
use Rattle.std.proofs.Common.{◌≡◌, ℕ, suc, ◌+◌, ◌*◌, ◌<◌, ◌≤◌, [], ◌∷◌, length, arith, inl, inr, nat_cmp, Less}
use Rattle.std.specs.Cmp.Lexicographic.{slice_cmp}
use Rattle.std.proofs.Math.Nat.{mul-le-mul_right}
use Rattle.std.proofs.lemmas.Bool.{cases_lt}
use Rattle.theory.specs.Word.{Word, IsOver}
pub use Rattle.rewriting.specs.Reductions.{rank_from, rank}
use Rattle.theory.specs.ShortLex.{◌≺◌}
use Rattle.theory.proofs.Words.{before_cases, then_Less, nat_from_Less, nat_from_Equal}

-- one letter more, after a lesser number
next_less : (k n m a b : ℕ) → n < m → a < k → n * k + suc a < m * k + suc b
next_less k n m a b h l =
    let more : suc n * k ≤ m * k = mul-le-mul_right k (omega arith) in
    let one : suc n * k ≡ n * k + k = grind arith in
    omega arith

-- a letter makes a number greater
next_more : (k n m b : ℕ) → n ≤ m → b < k → n < m * k + suc b
next_more k n m b h l =
    let more : m * 1 ≤ m * k = grind (arith, mul-le 1 k m) in
    omega arith
  where
    mul-le : (i j m : ℕ) → i ≤ j → m * i ≤ m * j
    mul-le i j m h = grind arith

-- words of one length after a lesser number
rank_number : (k n m : ℕ) (u v : Word) → length u ≡ length v → IsOver k u → n < m → rank_from k n u < rank_from k m v
rank_number k n m [] [] e over h = h
rank_number k n m [] (b ∷ v) e over h = absurd (omega arith)
rank_number k n m (a ∷ u) [] e over h = absurd (omega arith)
rank_number k n m (a ∷ u) (b ∷ v) e over h =
    rank_number k (n * k + suc a) (m * k + suc b) u v (omega arith) over.1 (next_less k n m a b h over.0)

-- less by letters
rank_letters : (k n : ℕ) (u v : Word) → length u ≡ length v → IsOver k u → slice_cmp nat_cmp u v ≡ Less → rank_from k n u < rank_from k n v
rank_letters k n [] [] e over h = cc
rank_letters k n [] (b ∷ v) e over h = absurd (omega arith)
rank_letters k n (a ∷ u) [] e over h = absurd (omega arith)
rank_letters k n (a ∷ u) (b ∷ v) e over h = elim (then_Less (nat_cmp a b) (slice_cmp nat_cmp u v) h) [
  | inl l ↦ rank_number k (n * k + suc a) (n * k + suc b) u v (omega arith) over.1 (let less = nat_from_Less a b l in omega (arith, less))
  | inr p ↦ rw (nat_from_Equal a b p.0) (rank_letters k (n * k + suc b) u v (omega arith) over.1 p.1)
]

-- shorter
rank_shorter : (k n m : ℕ) (u v : Word) → length u < length v → IsOver k u → IsOver k v → n ≤ m → rank_from k n u < rank_from k m v
rank_shorter k n m u [] l over_u over_v h = absurd (omega arith)
rank_shorter k n m u (b ∷ v) l over_u over_v h =
    let less : n < m * k + suc b = next_more k n m b h over_v.0 in
    elim (cases_lt (length u) (length v)) [
      | inl short ↦ rank_shorter k n (m * k + suc b) u v short over_u over_v.1 (omega arith)
      | inr same ↦ rank_number k n (m * k + suc b) u v (omega arith) over_u less
    ]

-- what comes before has a lesser place
pub rank_below : (k : ℕ) (u v : Word) → IsOver k u → IsOver k v → u ≺ v → rank k u < rank k v
rank_below k u v over_u over_v h = elim (before_cases u v h) [
  | inl l ↦ rank_shorter k 0 0 u v l over_u over_v (omega arith)
  | inr p ↦ rank_letters k 0 u v p.0 over_u p.1
]
