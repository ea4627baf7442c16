-- What the reader makes of words with powers, byte by byte; the laws say what that is.
use Rattle.std.specs.Prelude.{ℕ, suc, Bool, not, ◌&&◌, ◌==◌, is_none, nat_le, List, [], ◌∷◌, length, if◌then◌else◌, Option, Some, None, Result, Ok, Err}
use Rattle.theory.specs.Word.{Word}
use Rattle.words.specs.Alphabet.{place_of}
use Rattle.word_powers.specs.PowerSteps.{State, done, is_whole, outset, step}
use Rattle.words.specs.WordText.{is_empty_text, most_letters}
use Rattle.word_powers.specs.declared.fault.PowerFault.{PowerFault}
use Rattle.word_powers.specs.declared.fault.PowerFault.TheVariants.{EmptyWord, NotInAlphabet, BadPower, TooLong}
use Rattle.line_parts.specs.Token.{is_digit}

-- whether a byte stands in no word: no letter, no digit and none of `(`, `)` and `^`
abbrev pub is_strange : List ℕ → ℕ → Bool
is_strange alphabet byte = is_none (place_of alphabet byte)
    && (not (is_digit byte) && (not (byte == 40) && (not (byte == 41) && not (byte == 94))))

-- the fault of a byte that may not stand at a place
abbrev pub fault_of_byte : List ℕ → ℕ → ℕ → PowerFault
fault_of_byte alphabet byte place =
    if is_strange alphabet byte then NotInAlphabet place else BadPower place

-- the word, if it is not too long
abbrev pub unless_long : Word → Result Word PowerFault
unless_long u = if nat_le (length u) most_letters then Ok u else Err TooLong

-- what is read where nothing stands behind it
abbrev pub powers_at_end : ℕ → State → Result Word PowerFault
powers_at_end place s =
    if is_whole (length s.outer) s.last then unless_long (done s) else Err (BadPower place)

abbrev pub onward : Option State → PowerFault → (State → Result Word PowerFault)
    → Result Word PowerFault
onward None fault further = Err fault
onward (Some s) fault further = further s

-- what is read with the bytes from a place on
abbrev pub powers_from : List ℕ → ℕ → State → List ℕ → Result Word PowerFault
powers_from alphabet place s [] = powers_at_end place s
powers_from alphabet place s (byte ∷ bytes) =
    onward (step alphabet s byte) (fault_of_byte alphabet byte place)
    (λ t. powers_from alphabet (suc place) t bytes)

-- the word of a text with powers, or why it is refused
abbrev pub powers_of : List ℕ → Bool → List ℕ → Result Word PowerFault
powers_of alphabet allow_empty text =
    if is_empty_text text
    then (if allow_empty then Ok [] else Err EmptyWord)
    else powers_from alphabet 0 outset text
