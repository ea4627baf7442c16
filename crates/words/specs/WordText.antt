-- Words as texts: the bytes of their letters, and `1` for the empty word.
use Rattle.std.specs.Prelude.{ℕ, ◌≤◌, Bool, true, false, IsTrue, nat_le, ◌==◌, List, [], ◌∷◌, length, map, take, slice_index, position, filter_map, is_none, if◌then◌else◌, Option, Some, None, Result, Ok, Err, IsOk, ◌≡◌}
use Rattle.theory.specs.Word.{Word}
use Rattle.words.specs.Alphabet.{place_of}
use Rattle.words.specs.declared.fault.WordFault.{WordFault}
use Rattle.words.specs.declared.fault.WordFault.TheVariants.{EmptyWord, NotInAlphabet, TooLong, NoMemory}

-- the most letters of a word that is read
abbrev pub most_letters : ℕ
most_letters = 4096

-- the empty word is written `1`, or with no byte
abbrev pub is_empty_text : List ℕ → Bool
is_empty_text [] = true
is_empty_text (b ∷ []) = b == 49
is_empty_text (b ∷ c ∷ bs) = false

-- the place of the first byte that is no letter, among as many as a word may have
abbrev pub first_stranger : List ℕ → List ℕ → Option ℕ
first_stranger alphabet text = position (λ b. is_none (place_of alphabet b))
    (take most_letters text)

-- the letters of bytes
abbrev pub letters_of : List ℕ → List ℕ → Word
letters_of alphabet text = filter_map (place_of alphabet) text

-- a word is refused at a byte that is no letter, or else where it is too long
abbrev pub word_unless : Option ℕ → Bool → Word → Result Word WordFault
word_unless (Some place) fits word = Err (NotInAlphabet place)
word_unless None true word = Ok word
word_unless None false word = Err TooLong

-- the word of a text
abbrev pub word_of : List ℕ → Bool → List ℕ → Result Word WordFault
word_of alphabet allow_empty text =
    if is_empty_text text
    then (if allow_empty then Ok [] else Err EmptyWord)
    else word_unless (first_stranger alphabet text) (nat_le (length text) most_letters)
    (letters_of alphabet text)

-- why a text is refused: for what it is, or where it is a word for want of memory
abbrev pub IsWordFault : Result Word WordFault → WordFault → Type 0
IsWordFault outcome NoMemory = IsOk outcome
IsWordFault outcome fault = outcome ≡ Err fault

-- the bytes of letters
abbrev pub bytes_of : List ℕ → Word → List ℕ
bytes_of alphabet word = map (λ a. slice_index alphabet a) word

-- the text of a word
abbrev pub text_of : List ℕ → Word → List ℕ
text_of alphabet [] = 49 ∷ []
text_of alphabet (a ∷ u) = bytes_of alphabet (a ∷ u)

-- the text is read as the word, wherever such a word is read
abbrev pub ReadsBack : List ℕ → List ℕ → Word → Type 0
ReadsBack alphabet text word =
    (allow_empty : Bool) → length word ≤ most_letters → (word ≡ [] → IsTrue allow_empty)
    → word_of alphabet allow_empty text ≡ Ok word
