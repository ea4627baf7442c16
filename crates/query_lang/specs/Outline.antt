-- The letters of a presentation, and the relations that lines add to it.
use Rattle.std.specs.Prelude.{ℕ, Bool, List, Option, Some, None, Result, Ok, Err}
use Rattle.theory.specs.Word.{Word}
use Rattle.presentation.specs.Presented.{Posed}
use Rattle.words.specs.Alphabet.{alphabet_fault}
use Rattle.words.specs.declared.fault.AlphabetFault.{AlphabetFault}
use Rattle.words.specs.declared.fault.AlphabetFault.TheVariants as fault
use Rattle.line_parts.specs.declared.cause.Cause.{Cause}
use Rattle.line_parts.specs.declared.cause.Cause.TheVariants as cause
use Rattle.line_parts.specs.Outcome.{and_then}
use Rattle.line_parts.specs.Token.{Token}
use Rattle.query_lang.specs.Relations.{add_relations}

-- why letters are refused; a token is never empty, and `alphabet_fault` never tells want of memory
abbrev pub cause_of_alphabet : AlphabetFault → Cause
cause_of_alphabet fault.Empty = cause.NotALetter
cause_of_alphabet (fault.NotALetter place) = cause.NotALetter
cause_of_alphabet (fault.Repeated place) = cause.RepeatedLetter
cause_of_alphabet fault.NoMemory = cause.NotALetter

abbrev pub unless_fault : Option AlphabetFault → Token → Result (List ℕ) Cause
unless_fault None t = Ok t
unless_fault (Some fault) t = Err (cause_of_alphabet fault)

-- letters, no two alike; of both cases where they are wide
abbrev pub alphabet_of : (wide : Bool) → Token → Result (List ℕ) Cause
alphabet_of wide t = unless_fault (alphabet_fault wide t) t

-- the presentation with the relations of a line
abbrev pub related : Posed → Result (List (Word × Word)) Cause → Result Posed Cause
related o relations = and_then (λ rs. Ok (add_relations o rs)) relations
