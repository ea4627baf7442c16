-- The bytes that words with powers have beside letters.
use Rattle.std.proofs.Common.{◌≡◌, ℕ, ◌<◌, ◌≤◌, true, ◌==◌, List, length, get_or, slice_index, Option, Some, None, inl, inr, refl, subst, arith, cond, nat_lt}
use Rattle.std.specs.List.{position_or_len}
use Rattle.std.proofs.lemmas.Grind.{common_steps}
use Rattle.std.proofs.lemmas.Cmp.{nat_eq_equiv}
use Rattle.std.proofs.lemmas.List.Quantifiers.{position-Some}
use Rattle.std.proofs.lemmas.List.Sums.{position_or_len_is}
use Rattle.words.specs.Alphabet.{IsAlphabet, IsSymbol, marker, place_of}

-- `(`, `)`, `^` or a digit
pub data IsSignByte : ℕ → Type 0 where
  Opens : IsSignByte 40
  Closes : IsSignByte 41
  Raises : IsSignByte 94
  Counts : (byte : ℕ) → 48 ≤ byte → byte ≤ 57 → IsSignByte byte

outside : (byte : ℕ) → (97 ≤ byte → ⊥) → (65 ≤ byte → byte ≤ 90 → ⊥) → (byte ≡ marker → ⊥) → IsSymbol byte → ⊥
outside byte low high mark (inl (inl h)) = low h.0
outside byte low high mark (inl (inr h)) = high h.1 h.2
outside byte low high mark (inr h) = mark h

-- no such byte is a letter
pub no_letter : (bytes : List ℕ) (byte : ℕ) → IsAlphabet bytes → IsSignByte byte → place_of bytes byte ≡ None
no_letter bytes byte a sign = by (place_of bytes byte) refl
  where
    same : (x y : ℕ) → (x == y) ≡ true → x ≡ y
    same x y e = grind (arith, common_steps)

    -- it is greater than the marker, and stands before, between or behind the letters
    apart : (byte : ℕ) → IsSignByte byte → IsSymbol byte → ⊥
    apart byte Opens h = outside 40 (λ l. omega arith) (λ l u. omega arith) (λ e. omega arith) h
    apart byte Closes h = outside 41 (λ l. omega arith) (λ l u. omega arith) (λ e. omega arith) h
    apart byte Raises h = outside 94 (λ l. omega arith) (λ l u. omega arith) (λ e. omega arith) h
    apart byte (Counts _ p q) h = outside byte (λ l. omega arith) (λ l u. omega arith) (λ e. omega arith) h

    by : (o : Option ℕ) → place_of bytes byte ≡ o → o ≡ None
    by None e = refl
    by (Some k) e =
        let at = position-Some (λ y. y == byte) bytes k 0 e in
        let is : get_or bytes k 0 ≡ byte = same (get_or bytes k 0) byte at.1 in
        absurd (apart byte sign (subst IsSymbol is (a.sound.all k 0 at.0)))

-- an alphabet has a letter
pub some_letter : (bytes : List ℕ) → 0 < length bytes → (byte : ℕ) × (place_of bytes byte ≡ Some 0)
some_letter bytes h = (
  slice_index bytes 0,
  found (position_or_len (λ y. y == slice_index bytes 0) bytes)
      (position_or_len_is (λ y. y == slice_index bytes 0) bytes 0 0 (omega arith) (λ k p. absurd (omega arith)) (λ p. nat_eq_equiv.refl (slice_index bytes 0))),
)
  where
    found : (n : ℕ) → n ≡ 0 → cond (nat_lt n (length bytes)) (Some n) None ≡ Some 0
    found n e = grind (arith, common_steps)
