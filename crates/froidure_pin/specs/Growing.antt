-- What is kept while elements are found, one length of words after another (Froidure and Pin 1997).
use Rattle.std.specs.Prelude.{◌≡◌, ℕ, ◌+◌, ◌*◌, ◌<◌, ◌≤◌, Bool, true, false, List, [], ◌∷◌, ◌++◌, length, slice_index_or}
use Rattle.theory.specs.Word.{Word}
use Rattle.theory.specs.Class.{IsReducedRule}
use Rattle.theory.specs.Value.{HasMoreValues}
use Rattle.theory.proofs.Counting.{AreApart, IsIn}
use Rattle.froidure_pin.specs.Found.{AreFactors, AreFound, FoundLists, Generated, IsNumbered, IsSame, entry, factor_at, letters_of, parent, tail_at, value_in, words_in}
use Rattle.froidure_pin.specs.Rules.{is_product}
use Rattle.froidure_pin.specs.declared.parts.Factor.{Factor}
use Rattle.froidure_pin.specs.declared.parts.Tail.{Tail}

-- each factor is a place before the n-th, in rows of k
pub record ArePlaced (k : ℕ) (factors : List Factor) (n : ℕ) : Type 0 where
  pub before : (j : ℕ) → j < length factors
      → (factor_at factors j).prefix * k + (factor_at factors j).last < n

-- each word is a first letter and an earlier parent
pub record AreTails (words : List Word) (tails : List Tail) : Type 0 where
  pub count : length tails ≡ length words
  pub earlier : (j : ℕ) → j < length words → (tail_at tails j).suffix ≤ j
  pub whole : (j : ℕ) → j < length words
      → slice_index_or words j [] ≡ (tail_at tails j).first
      ∷ parent words (tail_at tails j).suffix

-- the words from the first to before the last are of one length, and those behind are one letter
-- longer
pub record IsLevel (words : List Word) (first last : ℕ) : Type 0 where
  pub within : last ≤ length words
  pub here : (j : ℕ) → first ≤ j → j < last
      → length (slice_index_or words j []) ≡ length (slice_index_or words first [])
  pub behind : (j : ℕ) → last ≤ j → j < length words
      → length (slice_index_or words j []) ≡ length (slice_index_or words first []) + 1

-- n numbers are those of rows of k for all parents that are shorter than the word of a number
pub record ReachesShorter (k : ℕ) (words : List Word) (n number : ℕ) : Type 0 where
  pub row : (j : ℕ) → j ≤ length words
      → length (parent words j) < length (slice_index_or words number []) → (j + 1) * k ≤ n

-- n numbers are those of rows of k for all words that are no longer than the word of a number
pub record ReachesAsLong (k : ℕ) (words : List Word) (n number : ℕ) : Type 0 where
  pub row : (j : ℕ) → j < length words
      → length (slice_index_or words j []) ≤ length (slice_index_or words number [])
      → (j + 1 + 1) * k ≤ n

-- what is found, as far as the place of row i and letter a
pub record IsGrown {V : Type 0} (s : Generated V) (lists : FoundLists V) (i a : ℕ) : Type 0 where
  pub known : AreFactors (letters_of s) lists.factors
  pub placed : ArePlaced (letters_of s) lists.factors (length lists.right)
  pub split : AreTails (words_in lists) lists.tails
  pub found : AreFound s lists i a

-- whether the word of a number without its first letter, with letter a behind, is one that is found
abbrev pub is_rest_word : {V : Type 0} → ℕ → FoundLists V → ℕ → ℕ → Bool
is_rest_word k lists number a =
    let suffix = (tail_at lists.tails number).suffix in
    is_product lists.factors (entry k lists.right suffix a) suffix a

-- the numbers are those of letters times parents
pub record AreLeftNumbers {V : Type 0} (s : Generated V) (words : List Word)
    (left : List ℕ) : Type 0 where
  pub numbers : (j b : ℕ) → b < letters_of s → j * letters_of s + b < length left
      → IsNumbered s words (entry (letters_of s) left j b) (b ∷ parent words j)

-- the element of a number is being multiplied by the letters, and letter a is next
pub record IsAt {V : Type 0} (s : Generated V) (lists : FoundLists V) (number a : ℕ) : Type 0 where
  pub within : number < length lists.elements
  pub grown : IsGrown s lists (number + 1) a
  pub lefts : AreLeftNumbers s (words_in lists) lists.left
  pub few : length lists.left ≤ (number + 1) * letters_of s
  pub shorter : ReachesShorter (letters_of s) (words_in lists) (length lists.left) number

-- the element of a number was multiplied by the letters before one: the levels stay
pub record IsStep {V : Type 0} (s : Generated V) (old new : FoundLists V)
    (number letter : ℕ) : Type 0 where
  pub at : IsAt s new number letter
  pub level : (first last : ℕ) → first ≤ number → number < last
      → IsLevel (words_in old) first last → IsLevel (words_in new) first last
  pub left : new.left ≡ old.left

-- the words from the first to before the last are of one length: the elements before a number are
-- multiplied on the right, and on the left those before the first
pub record IsWithin {V : Type 0} (s : Generated V) (lists : FoundLists V)
    (first last number : ℕ) : Type 0 where
  pub grown : IsGrown s lists (number + 1) 0
  pub lefts : AreLeftNumbers s (words_in lists) lists.left
  pub rows : length lists.left ≡ (first + 1) * letters_of s
  pub level : IsLevel (words_in lists) first last

-- steps from a start are no more than the words and some reduced rules, whose left sides are at the
-- first n places
pub record AreCounted {V : Type 0} (s : Generated V) (words : List Word)
    (n start steps : ℕ) : Type 0 where
  pub rules : List (Word × Word)
  pub apart : AreApart (λ (p q : Word × Word). p ≡ q) rules
  pub reduced : (p : Word × Word) → IsIn p rules → IsReducedRule (IsSame s) p.0 p.1
  pub placed : (p : Word × Word) → IsIn p rules
      → (j : ℕ) × (b : ℕ) × (j ≤ length words) × (b < letters_of s)
      × (j * letters_of s + b < n) × (p.0 ≡ parent words j ++ b ∷ [])
  pub few : steps ≤ start + (length words + length rules)

-- steps from a start that were no more than words and reduced rules before are no more after
abbrev pub KeepsCount : {V : Type 0} → Generated V → FoundLists V → FoundLists V → ℕ → ℕ → Type 0
KeepsCount s old new before after = (start : ℕ)
    → AreCounted s (words_in old) (length old.right) start before
    → AreCounted s (words_in new) (length new.right) start after

-- there are more elements than the bound
abbrev pub IsOver : {V : Type 0} → Generated V → ℕ → Type 0
IsOver s bound = HasMoreValues (letters_of s) s.equal (value_in s) bound

-- lists of what is found, and how many products were multiplied out
pub record Counted (V : Type 0) : Type 0 where
  pub lists : FoundLists V
  pub steps : ℕ

abbrev pub with_steps : {V : Type 0} → FoundLists V → ℕ → Counted V
with_steps lists steps = record { lists = lists; steps = steps }

-- either there are more elements than the bound, which is told, or this holds
pub record UnlessOver {V : Type 0} (s : Generated V) (bound : ℕ) (over : Bool)
    (Holds : Type 0) : Type 0 where
  pub more : over ≡ true → IsOver s bound
  pub holds : over ≡ false → Holds

-- the generators were taken in, and there are no more elements than the bound
pub record HasGenerators {V : Type 0} (s : Generated V) (bound : ℕ)
    (lists : FoundLists V) : Type 0 where
  pub few : length lists.elements ≤ bound
  pub within : IsWithin s lists 0 (length lists.elements) 0

-- the element of a number was multiplied by the letters before one, and there are no more elements
-- than the bound
pub record IsMultiplied {V : Type 0} (s : Generated V) (bound : ℕ) (old new : Counted V)
    (number letter : ℕ) : Type 0 where
  pub few : length new.lists.elements ≤ bound
  pub step : IsStep s old.lists new.lists number letter
  pub count : KeepsCount s old.lists new.lists old.steps new.steps

-- the elements before the last were multiplied, and there are no more elements than the bound
pub record AreMultiplied {V : Type 0} (s : Generated V) (bound : ℕ) (old new : Counted V)
    (last : ℕ) : Type 0 where
  pub few : length new.lists.elements ≤ bound
  pub reached : last ≤ length new.lists.elements
  pub within : IsWithin s new.lists last (length new.lists.elements) last
  pub count : KeepsCount s old.lists new.lists old.steps new.steps

-- the elements before one were multiplied, in as many steps from a start as are counted, and there
-- are no more elements than the bound
pub record AreFoundFrom {V : Type 0} (s : Generated V) (bound : ℕ) (found : Counted V)
    (start first : ℕ) : Type 0 where
  pub few : length found.lists.elements ≤ bound
  pub within : IsWithin s found.lists first (length found.lists.elements) first
  pub count : AreCounted s (words_in found.lists) (length found.lists.right) start found.steps
