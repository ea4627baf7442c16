-- The reduced rules of a table (Froidure and Pin 1997).
use Rattle.std.specs.Prelude.{◌≡◌, ℕ, zero, suc, ◌+◌, ◌<◌, ◌≤◌, ◌/◌, ◌%◌, Bool, not, ◌&&◌, ◌||◌, ◌==◌, List, [], ◌∷◌, ◌++◌, length, slice_index, slice_index_or, if◌then◌else◌}
use Rattle.theory.specs.Word.{Word}
use Rattle.froidure_pin.specs.Found.{AreFactors, entry, parent, words_of, IsTableOf, factor_at}
use Rattle.froidure_pin.specs.Numbering.{AreRows, TableOf, IsNumbering}
use Rattle.elements.specs.Generators.{HaveOneShape}
use Rattle.froidure_pin.specs.declared.parts.Factor.{Factor}

-- the table is that of the generators, and its numbers are those of their products
pub record IsWholeTable {V : Type 0} (shape : V → ℕ × ℕ) (product : V → V → V)
    (equal : V → V → Bool) (generators : List V) (unused : V) (table : TableOf V) : Type 0 where
  pub shaped : HaveOneShape shape generators
  pub found : IsTableOf product equal generators unused table.words table.elements
  pub numbers : IsNumbering product equal generators unused table

-- words over so many letters, in a row for each parent the numbers of its products by the letters
pub record AreProducts (letters : ℕ) (factors : List Factor) (right : List ℕ) : Type 0 where
  pub some : 0 < letters
  pub few : letters ≤ 256
  pub known : AreFactors letters factors
  pub rows : AreRows letters (length factors) right

-- the parents that are left of the first i words without their first letters
pub record AreSuffixes (k : ℕ) (factors : List Factor) (right suffixes : List ℕ)
    (i : ℕ) : Type 0 where
  pub count : length suffixes ≡ i + 1
  pub within : (j : ℕ) → j < length suffixes → slice_index suffixes j ≤ length factors
  pub next : (j : ℕ) → j < i
      → slice_index suffixes (j + 1) ≡ (if (factor_at factors j).prefix == 0
      then 0
      else entry k right (slice_index suffixes (factor_at factors j).prefix)
      (factor_at factors j).last + 1)

-- whether the word of a number is a parent with a letter
abbrev pub is_product : List Factor → ℕ → ℕ → ℕ → Bool
is_product factors m j a =
    ((factor_at factors m).prefix == j) && ((factor_at factors m).last == a)

-- whether the product at a place is the left side of a rule: no word, while it is one without its
-- first letter, or has no other letter
abbrev pub is_rule : ℕ → List Factor → List ℕ → List ℕ → ℕ → Bool
is_rule k factors right suffixes p =
    not (is_product factors (slice_index right p) (p / k) (p % k))
    && ((p / k == 0)
    || is_product factors (entry k right (slice_index suffixes (p / k)) (p % k))
    (slice_index suffixes (p / k)) (p % k))

-- the product at a place, and the word of its number
abbrev pub rule_at : ℕ → List Factor → List ℕ → ℕ → Word × Word
rule_at k factors right p = (
  parent (words_of factors) (p / k) ++ p % k ∷ [],
  slice_index_or (words_of factors) (slice_index right p) [],
)

-- the rule at a place, where there is one
abbrev pub rules_at : ℕ → List Factor → List ℕ → List ℕ → ℕ → List (Word × Word)
rules_at k factors right suffixes p =
    if is_rule k factors right suffixes p then rule_at k factors right p ∷ [] else []

-- the rules at the first places
abbrev pub rules_to : ℕ → List Factor → List ℕ → List ℕ → ℕ → List (Word × Word)
rules_to k factors right suffixes zero = []
rules_to k factors right suffixes (suc p) =
    rules_to k factors right suffixes p ++ rules_at k factors right suffixes p
