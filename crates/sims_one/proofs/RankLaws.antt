-- A number that falls with each table.
use Rattle.std.proofs.Common.{◌≡◌, ℕ, zero, suc, ◌+◌, ◌-◌, ◌*◌, ◌<◌, ◌≤◌, List, [], ◌∷◌, length, All, inl, inr, sym, ◌∙◌, subst, arith}
use Rattle.std.proofs.Math.Nat.{mul-le-mul_right}
use Rattle.std.proofs.lemmas.Bool.{cases_lt}
use Rattle.std.proofs.lemmas.List.Elements.{All-head, All-tail}
use Rattle.theory.specs.Congruence.{Presentation}
use Rattle.sims_one.specs.Targets.{seen, IsTable}
use Rattle.sims_one.specs.Search.{Before}
use Rattle.sims_one.proofs.FrontLaws.{before_itself, before_both, before_heads, common_front, allowed_below, most_few, few_seen}

base : ℕ → ℕ
base zero = 1
base (suc d) = 18 * base d

-- the number of a list of at most d targets
pub rank : ℕ → List ℕ → ℕ
rank zero u = 1
rank (suc d) [] = 18 * base d
rank (suc d) (x ∷ xs) = (16 - x) * base d + rank d xs

base_some : (d : ℕ) → 0 < base d
unfolding base
base_some zero = omega arith
base_some (suc d) = let h = base_some d in omega arith

rank_some : (d : ℕ) (u : List ℕ) → 0 < rank d u
unfolding base rank
rank_some zero u = omega arith
rank_some (suc d) [] = let h = base_some d in omega arith
rank_some (suc d) (x ∷ xs) = let h = rank_some d xs in omega arith

times_most : (p b : ℕ) → p ≤ 16 → p * b ≤ 16 * b
times_most p b h = mul-le-mul_right b h

rank_most : (d : ℕ) (u : List ℕ) → rank d u ≤ base d
unfolding base rank
rank_most zero u = omega arith
rank_most (suc d) [] = omega arith
rank_most (suc d) (x ∷ xs) = sum ((16 - x) * base d) (rank d xs) (base d) (times_most (16 - x) (base d) (omega arith)) (rank_most d xs)
  where
    sum : (a r b : ℕ) → a ≤ 16 * b → r ≤ b → a + r ≤ 18 * b
    sum a r b h k = omega arith

digits_fall : (p q b r s : ℕ) → q < p → r ≤ b → 0 < s → q * b + r < p * b + s
digits_fall p q b r s less low some = let h : suc q * b ≤ p * b = mul-le-mul_right b less in omega (arith, h)

pub rank_falls : (d : ℕ) (t u : List ℕ) → length t ≤ d → length u ≤ d → All (λ m. m < 17) u → Before t u → rank d u < rank d t
unfolding base rank
rank_falls zero [] [] lt lu few before = absurd (before_itself [] before)
rank_falls zero [] (y ∷ ys) lt lu few before = absurd (omega arith)
rank_falls zero (x ∷ xs) u lt lu few before = absurd (omega arith)
rank_falls (suc d) [] [] lt lu few before = absurd (before_itself [] before)
rank_falls (suc d) [] (y ∷ ys) lt lu few before = sum ((16 - y) * base d) (rank d ys) (base d) (times_most (16 - y) (base d) (omega arith)) (rank_most d ys) (base_some d)
  where
    sum : (a r b : ℕ) → a ≤ 16 * b → r ≤ b → 0 < b → a + r < 18 * b
    sum a r b h k some = omega arith
rank_falls (suc d) (x ∷ xs) [] lt lu few before = cc
rank_falls (suc d) (x ∷ xs) (y ∷ ys) lt lu few before = elim (cases_lt x y) [
  | inl less ↦
      let low : y < 17 = All-head (λ m. m < 17) y ys few in
      digits_fall (16 - x) (16 - y) (base d) (rank d ys) (rank d xs) (omega arith) (rank_most d ys) (rank_some d xs)
  | inr most ↦ elim (cases_lt y x) [
    | inl more ↦ absurd (before_both (x ∷ xs) (y ∷ ys) before (before_heads [] y x ys xs more))
    | inr least ↦ same (omega arith) (rank_falls d xs ys (omega arith) (omega arith) (All-tail (λ m. m < 17) y ys few))
  ]
]
  where
    same : x ≡ y → (Before xs ys → rank d ys < rank d xs) → (16 - y) * base d + rank d ys < (16 - x) * base d + rank d xs
    same e falls =
        let behind : Before xs ys = sym (common_front (x ∷ []) xs ys) ∙ subst (λ z. Before (x ∷ xs) (z ∷ ys)) (sym e) before in
        subst (λ z. (16 - z) * base d + rank d ys < (16 - x) * base d + rank d xs) e (plus ((16 - x) * base d) (rank d ys) (rank d xs) (falls behind))
      where
        plus : (a m n : ℕ) → m < n → a + m < a + n
        plus a m n h = omega arith

module _ (p : Presentation) (n : ℕ) (few : n ≤ 16) (letters : p.letters ≤ 53) where
  table_short : (u : List ℕ) → IsTable p n u → length u ≤ 901
  table_short u table =
      let nodes = few_seen p n u table.allowed few in
      let most : p.letters * seen u ≤ 53 * seen u = mul-le-mul_right (seen u) letters in
      omega (arith, table.full, nodes, most)

  pub table_falls : (t u : List ℕ) → IsTable p n t → IsTable p n u → Before t u → rank 901 u < rank 901 t
  table_falls t u one two before = rank_falls 901 t u (table_short t one) (table_short u two) (allowed_below p n 17 u two.allowed (most_few p.is_monoid n few)) before
