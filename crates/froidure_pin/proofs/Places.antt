-- Places in rows of k numbers that follow one another, and what a list has at its places.
use Rattle.std.proofs.Common.{◌≡◌, ℕ, ◌+◌, ◌*◌, ◌<◌, ◌≤◌, Bool, true, false, List, [], ◌∷◌, ◌++◌, length, get_or, refl, sym, ap, ◌∙◌, arith, inl, inr, true≢false, ◌||◌, mul-le-mul_right}
use Rattle.std.specs.List.{list_any, position_or_len}
use Rattle.froidure_pin.proofs.Order.{below_or_not, equal_or_below}

-- an earlier row ends before a later one begins
pub row_below : (k j i b : ℕ) → j < i → b < k → j * k + b < i * k
row_below k j i b h l = let rows : (j + 1) * k ≤ i * k = mul-le-mul_right k (omega arith) in omega (arith, rows)

-- what stands before a place of a row is of that row or an earlier one
pub row_within : (k j i a b : ℕ) → a ≤ k → j * k + b < i * k + a → j ≤ i
row_within k j i a b few h = elim (below_or_not i j) [
  | inl l ↦ absurd (let rows : (i + 1) * k ≤ j * k = mul-le-mul_right k (omega arith) in omega (arith, rows))
  | inr le ↦ le
]

-- a place is of one row, and at one letter
pub place_is : (k j i b a : ℕ) → b < k → a < k → j * k + b ≡ i * k + a → (j ≡ i) × (b ≡ a)
place_is k j i b a hb ha e = elim (below_or_not j i) [
  | inl l ↦ absurd (let less = row_below k j i b l hb in omega arith)
  | inr le ↦ elim (equal_or_below i j le) [
    | inl s ↦ (sym s, let rows : i * k ≡ j * k = ap (λ n. n * k) s in omega arith)
    | inr l ↦ absurd (let less = row_below k i j a l ha in omega arith)
  ]
]

pub at_last : {A : Type 0} (xs : List A) (x d : A) → get_or (xs ++ x ∷ []) (length xs) d ≡ x
at_last [] x d = refl
at_last (y ∷ xs) x d = at_last xs x d

module _ {V : Type 0} (test : V → Bool) where
  -- what none passes has its place behind all
  pub position_none : (xs : List V) → list_any test xs ≡ false → position_or_len test xs ≡ length xs
  position_none [] h = refl
  position_none (x ∷ xs) h = by (test x) refl (position_none xs)
    where
      by : (b : Bool) → test x ≡ b → (list_any test xs ≡ false → position_or_len test xs ≡ length xs) → position_or_len test (x ∷ xs) ≡ length (x ∷ xs)
      by true e rest = absurd (true≢false (sym (ap (λ b. b || list_any test xs) e) ∙ h))
      by false e rest = let more = rest (sym (ap (λ b. b || list_any test xs) e) ∙ h) in rw e (omega arith)

  -- what one passes has its place among them
  pub position_some : (xs : List V) → list_any test xs ≡ true → position_or_len test xs < length xs
  position_some [] h = absurd (true≢false (sym h))
  position_some (x ∷ xs) h = by (test x) refl (position_some xs)
    where
      by : (b : Bool) → test x ≡ b → (list_any test xs ≡ true → position_or_len test xs < length xs) → position_or_len test (x ∷ xs) < length (x ∷ xs)
      by true e rest = rw e (omega arith)
      by false e rest = let more = rest (sym (ap (λ b. b || list_any test xs) e) ∙ h) in rw e (omega arith)
