-- Words with powers, as texts: letters, groups in parentheses, and exponents behind `^`.
use Rattle.std.specs.Prelude.{ℕ, zero, suc, ◌+◌, ◌*◌, ◌-◌, ◌<◌, ◌≤◌, Bool, IsTrue, IsFalse, List, [], ◌∷◌, ◌++◌, length, take, slice_get, Some, None, Result, Ok, Err, ◌⊎◌, ◌≡◌}
use Rattle.theory.specs.Word.{Word}
use Rattle.words.specs.Alphabet.{place_of}
use Rattle.words.specs.WordText.{most_letters, is_empty_text}
use Rattle.word_powers.specs.declared.fault.PowerFault.{PowerFault}
use Rattle.word_powers.specs.declared.fault.PowerFault.TheVariants.{EmptyWord, NotInAlphabet, BadPower, TooLong, NoMemory}

-- so many copies of a word, one after another
abbrev pub power : ℕ → Word → Word
power zero u = []
power (suc n) u = power n u ++ u

-- at most four digits, the first of them not `0`: how many they are, and their number
pub data IsExponent : ℕ → List ℕ → ℕ → Type 0 where
  First : (byte : ℕ) → 49 ≤ byte → byte ≤ 57 → IsExponent 1 (byte ∷ []) (byte - 48)
  Next : (count : ℕ) (text : List ℕ) (number byte : ℕ) → IsExponent count text number
      → count < 4 → 48 ≤ byte → byte ≤ 57
      → IsExponent (suc count) (text ++ byte ∷ []) (10 * number + (byte - 48))

mutual
  -- a letter, or items between `(` and `)`; groups nest at most so deep
  pub data IsBase (alphabet : List ℕ) : ℕ → List ℕ → Word → Type 0 where
    Letter : (depth byte letter : ℕ) → place_of alphabet byte ≡ Some letter
        → IsBase alphabet depth (byte ∷ []) (letter ∷ [])
    Group : (depth : ℕ) (text : List ℕ) (word : Word) → IsItems alphabet depth text word
        → IsBase alphabet (suc depth) (40 ∷ (text ++ 41 ∷ [])) word

  -- a base, alone or with an exponent behind `^`
  pub data IsItem (alphabet : List ℕ) : ℕ → List ℕ → Word → Type 0 where
    Alone : (depth : ℕ) (text : List ℕ) (word : Word) → IsBase alphabet depth text word
        → IsItem alphabet depth text word
    Power : (depth : ℕ) (text : List ℕ) (word : Word) (count : ℕ) (digits : List ℕ) (number : ℕ)
        → IsBase alphabet depth text word → IsExponent count digits number
        → IsItem alphabet depth (text ++ 94 ∷ digits) (power number word)

  -- one or more items, and their words written together
  pub data IsItems (alphabet : List ℕ) : ℕ → List ℕ → Word → Type 0 where
    One : (depth : ℕ) (text : List ℕ) (word : Word) → IsItem alphabet depth text word
        → IsItems alphabet depth text word
    More : (depth : ℕ) (text : List ℕ) (word : Word) (last : List ℕ) (last_word : Word)
        → IsItems alphabet depth text word → IsItem alphabet depth last last_word
        → IsItems alphabet depth (text ++ last) (word ++ last_word)

-- the text stands for the word: `1` and no byte for the empty word, else items, whose groups nest
-- at most eight deep
abbrev pub IsWordText : List ℕ → List ℕ → Word → Type 0
IsWordText alphabet text word =
    (IsTrue (is_empty_text text) × (word ≡ [])) ⊎ IsItems alphabet 8 text word

-- a word's text begins with the bytes
pub record IsStart (alphabet text : List ℕ) : Type 0 where
  pub rest : List ℕ
  pub word : Word
  pub whole : IsWordText alphabet (text ++ rest) word

-- the place of the first byte with which the text begins no word's text; or the text's end, where
-- all of it begins one, and is none itself
pub record IsFaultAt (alphabet text : List ℕ) (place : ℕ) : Type 0 where
  pub within : place ≤ length text
  pub starts : (n : ℕ) → n ≤ place → IsStart alphabet (take n text)
  pub ends : place < length text → ¬ IsStart alphabet (take (place + 1) text)
  pub no_word : (word : Word) → ¬ IsWordText alphabet text word

-- a byte that stands in no word: no letter, no digit and none of `(`, `)` and `^`
pub record IsStrangeByte (alphabet : List ℕ) (byte : ℕ) : Type 0 where
  pub no_letter : place_of alphabet byte ≡ None
  pub no_digit : (byte < 48) ⊎ (57 < byte)
  pub no_sign : (byte < 40) ⊎ ((41 < byte) × ((byte < 94) ⊎ (94 < byte)))

-- such a byte stands at the place
abbrev pub IsStranger : List ℕ → List ℕ → ℕ → Type 0
IsStranger alphabet text place =
    (byte : ℕ) × (slice_get text place ≡ Some byte) × IsStrangeByte alphabet byte

-- the text stands for some word
abbrev pub HasWord : List ℕ → List ℕ → Type 0
HasWord alphabet text = (word : Word) × IsWordText alphabet text word

-- the text stands for a word, which is so
abbrev pub StandsFor : List ℕ → List ℕ → (Word → Type 0) → Type 0
StandsFor alphabet text IsSo = (word : Word) × IsWordText alphabet text word × IsSo word

-- no more letters than a word that is read may have, or more
abbrev pub IsShort : Word → Type 0
IsShort word = length word ≤ most_letters

abbrev pub IsLong : Word → Type 0
IsLong word = most_letters < length word

-- a word that may be read: not too long, and empty only where that is allowed
pub record IsReadable (allow_empty : Bool) (word : Word) : Type 0 where
  pub short : IsShort word
  pub allowed : word ≡ [] → IsTrue allow_empty

-- when each refusal comes
abbrev pub IsPowerFault : List ℕ → Bool → List ℕ → PowerFault → Type 0
IsPowerFault alphabet allow_empty text EmptyWord =
    IsTrue (is_empty_text text) × IsFalse allow_empty
IsPowerFault alphabet allow_empty text (NotInAlphabet place) =
    IsFaultAt alphabet text place × IsStranger alphabet text place
IsPowerFault alphabet allow_empty text (BadPower place) =
    IsFaultAt alphabet text place × ¬ IsStranger alphabet text place
IsPowerFault alphabet allow_empty text TooLong =
    StandsFor alphabet text IsLong
IsPowerFault alphabet allow_empty text NoMemory =
    StandsFor alphabet text (IsReadable allow_empty)

-- what reading gives: a word that may be read, or the refusal that comes
abbrev pub IsOutcome : List ℕ → Bool → List ℕ → Result Word PowerFault → Type 0
IsOutcome alphabet allow_empty text (Ok word) =
    IsWordText alphabet text word × IsReadable allow_empty word
IsOutcome alphabet allow_empty text (Err fault) = IsPowerFault alphabet allow_empty text fault
