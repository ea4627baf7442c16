-- Generators of a semigroup, and the values of words over them (Froidure and Pin 1997).
use Rattle.std.specs.Prelude.{◌≡◌, ℕ, ◌<◌, List, length, slice_index_or}
use Rattle.theory.specs.Word.{Word}
use Rattle.theory.specs.Value.{value}

-- any two have the same shape
abbrev pub HaveOneShape : {V : Type 0} → (V → ℕ × ℕ) → List V → Type 0
HaveOneShape {V} shape xs = (i j : ℕ) (unused : V) → i < length xs → j < length xs
    → shape (slice_index_or xs i unused) ≡ shape (slice_index_or xs j unused)

-- the value of a word over the generators; nothing but words beyond them, and the empty word, have
-- the value `unused`
abbrev pub value_by : {V : Type 0} → (V → V → V) → List V → V → Word → V
value_by product generators unused = value product (λ a. slice_index_or generators a unused) unused
