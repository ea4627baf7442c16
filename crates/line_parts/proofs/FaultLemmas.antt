-- Faults of lines that are handed on, and of words.
use Rattle.std.proofs.Common.{ℕ, Bool, List, Option, Some, None, Result, Ok, Err, IfErr, IsErrAnd, sym, ap, subst, ◌≡◌}
use Rattle.words.specs.WordText.{IsWordFault, word_of}
use Rattle.words.specs.declared.fault.WordFault.{WordFault}
use Rattle.words.specs.declared.fault.WordFault.TheVariants as word_fault
use Rattle.line_parts.specs.declared.cause.Cause.{Cause}
use Rattle.line_parts.specs.Faults.{IsLineFault, fault_of_word}
use Rattle.line_parts.specs.LineWords.{with_cause}
use Rattle.line_parts.specs.Outcome.{and_then}

-- a fault that is handed on
pub handed_on : {A B : Type 0} (r : Result B (Option Cause)) (fault : Option Cause) (outcome : Result A Cause) → IsErrAnd r (λ e. e ≡ fault) → IsLineFault outcome fault → IfErr r (IsLineFault outcome)
handed_on (Ok x) fault outcome h p = tt
handed_on (Err e) fault outcome h p = subst (IsLineFault outcome) (sym h) p

-- what comes after a refusal is refused too
pub refused_then : {A B : Type 0} (f : A → Result B Cause) (outcome : Result A Cause) (fault : Option Cause) → IsLineFault outcome fault → IsLineFault (and_then f outcome) fault
refused_then f outcome (Some cause) h = ap (and_then f) h
refused_then f outcome None h = tt

-- a word that is refused
pub word_refused : (letters : List ℕ) (allow_empty : Bool) (text : List ℕ) (fault : WordFault) → IsWordFault (word_of letters allow_empty text) fault → IsLineFault (with_cause (word_of letters allow_empty text)) (fault_of_word fault)
word_refused letters allow_empty text word_fault.NoMemory h = tt
word_refused letters allow_empty text word_fault.EmptyWord h = ap with_cause h
word_refused letters allow_empty text word_fault.TooLong h = ap with_cause h
word_refused letters allow_empty text (word_fault.NotInAlphabet place) h = ap with_cause h
