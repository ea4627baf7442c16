-- The words of lines.
use Rattle.std.specs.Prelude.{ℕ, Bool, List, [], ◌∷◌, Result, Ok, Err}
use Rattle.std.specs.Option.{ok_or}
use Rattle.theory.specs.declared.Relation.{Relation}
use Rattle.theory.specs.Word.{Word}
use Rattle.words.specs.WordText.{word_of}
use Rattle.words.specs.declared.fault.WordFault.{WordFault}
use Rattle.words.specs.declared.fault.WordFault.TheVariants as fault
use Rattle.word_powers.specs.declared.fault.PowerFault.{PowerFault}
use Rattle.word_powers.specs.declared.fault.PowerFault.TheVariants as power
use Rattle.line_parts.specs.declared.version.Version.{Version}
use Rattle.line_parts.specs.declared.version.Version.TheVariants.{One, Two}
use Rattle.line_parts.specs.declared.cause.Cause.{Cause}
use Rattle.line_parts.specs.declared.cause.Cause.TheVariants.{WrongNumberOfWords, NotInAlphabet, WordTooLong, EmptyWord, BadPower, UnknownRelation}
use Rattle.line_parts.specs.Outcome.{and_then}
use Rattle.line_parts.specs.PowerWords.{powers_of}
use Rattle.line_parts.specs.Token.{Token, relation_of}

-- why a word is refused; `word_of` never tells want of memory
abbrev pub cause_of_word : WordFault → Cause
cause_of_word fault.EmptyWord = EmptyWord
cause_of_word (fault.NotInAlphabet place) = NotInAlphabet
cause_of_word fault.TooLong = WordTooLong
cause_of_word fault.NoMemory = WordTooLong

abbrev pub with_cause : Result Word WordFault → Result Word Cause
with_cause (Ok u) = Ok u
with_cause (Err fault) = Err (cause_of_word fault)

-- why a word with powers is refused; `powers_of` never tells want of memory
abbrev pub cause_of_powers : PowerFault → Cause
cause_of_powers power.EmptyWord = EmptyWord
cause_of_powers (power.NotInAlphabet place) = NotInAlphabet
cause_of_powers (power.BadPower place) = BadPower
cause_of_powers power.TooLong = WordTooLong
cause_of_powers power.NoMemory = WordTooLong

abbrev pub with_power_cause : Result Word PowerFault → Result Word Cause
with_power_cause (Ok u) = Ok u
with_power_cause (Err fault) = Err (cause_of_powers fault)

-- a word over the letters in a script of this version, with powers in the second one, which is
-- empty only where that is allowed
abbrev pub element_of : Version → List ℕ → Bool → Token → Result Word Cause
element_of One letters allow_empty t = with_cause (word_of letters allow_empty t)
element_of Two letters allow_empty t = with_power_cause (powers_of letters allow_empty t)

-- two words, of which the first is read first
abbrev pub both_elements : Version → List ℕ → Bool → Token → Token → Result (Word × Word) Cause
both_elements version letters allow_empty s t =
    and_then (λ u. and_then (λ v. Ok (u, v)) (element_of version letters allow_empty t))
    (element_of version letters allow_empty s)

-- one token
abbrev pub one_token : List Token → Result Token Cause
one_token (t ∷ []) = Ok t
one_token tokens = Err WrongNumberOfWords

-- two tokens
abbrev pub two_tokens : List Token → Result (Token × Token) Cause
two_tokens (s ∷ t ∷ []) = Ok (s, t)
two_tokens tokens = Err WrongNumberOfWords

-- one word
abbrev pub one_word : Version → List ℕ → Bool → List Token → Result Word Cause
one_word version letters allow_empty tokens =
    and_then (element_of version letters allow_empty) (one_token tokens)

-- two words
abbrev pub two_words : Version → List ℕ → Bool → List Token → Result (Word × Word) Cause
two_words version letters allow_empty tokens =
    and_then (λ p. both_elements version letters allow_empty p.0 p.1) (two_tokens tokens)

-- one of Green's relations
abbrev pub one_relation : List Token → Result Relation Cause
one_relation tokens =
    and_then (λ t. ok_or (relation_of t) UnknownRelation) (one_token tokens)
