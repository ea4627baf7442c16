-- What the faults of lines mean.
use Rattle.std.specs.Prelude.{◌≡◌, Option, Some, None, Result, Err}
use Rattle.elements.specs.declared.field.ElementFault.{ElementFault}
use Rattle.elements.specs.declared.field.ElementFault.TheVariants as element
use Rattle.words.specs.declared.fault.AlphabetFault.{AlphabetFault}
use Rattle.words.specs.declared.fault.AlphabetFault.TheVariants as alphabet
use Rattle.words.specs.declared.fault.WordFault.{WordFault}
use Rattle.words.specs.declared.fault.WordFault.TheVariants as word
use Rattle.word_powers.specs.declared.fault.PowerFault.{PowerFault}
use Rattle.word_powers.specs.declared.fault.PowerFault.TheVariants as power
use Rattle.table_texts.specs.declared.fault.TableFault.{TableFault}
use Rattle.table_texts.specs.declared.fault.TableFault.TheVariants as table
use Rattle.line_parts.specs.declared.cause.Cause.{Cause}
use Rattle.line_parts.specs.declared.cause.Cause.TheVariants.{NotALetter, RepeatedLetter, WrongNumberOfEntries, BadEntry, NotInjective, NotInAlphabet, WordTooLong, EmptyWord, BadPower, BadTable}

-- a line is refused for its cause; want of memory says nothing of it
abbrev pub IsLineFault : {A : Type 0} → Result A Cause → Option Cause → Type 0
IsLineFault outcome (Some cause) = outcome ≡ Err cause
IsLineFault outcome None = Unit {0}

-- the fault of a line whose entries are refused
abbrev pub fault_of_element : ElementFault → Option Cause
fault_of_element element.BadCount = Some WrongNumberOfEntries
fault_of_element (element.BadEntry place) = Some BadEntry
fault_of_element (element.NotInjective place) = Some NotInjective
fault_of_element element.NoMemory = None

-- the fault of a line with letters that are refused
abbrev pub fault_of_alphabet : AlphabetFault → Option Cause
fault_of_alphabet alphabet.Empty = Some NotALetter
fault_of_alphabet (alphabet.NotALetter place) = Some NotALetter
fault_of_alphabet (alphabet.Repeated place) = Some RepeatedLetter
fault_of_alphabet alphabet.NoMemory = None

-- the fault of a line with a word that is refused
abbrev pub fault_of_word : WordFault → Option Cause
fault_of_word word.EmptyWord = Some EmptyWord
fault_of_word (word.NotInAlphabet place) = Some NotInAlphabet
fault_of_word word.TooLong = Some WordTooLong
fault_of_word word.NoMemory = None

-- the fault of a line with a word with powers that is refused
abbrev pub fault_of_powers : PowerFault → Option Cause
fault_of_powers power.EmptyWord = Some EmptyWord
fault_of_powers (power.NotInAlphabet place) = Some NotInAlphabet
fault_of_powers (power.BadPower place) = Some BadPower
fault_of_powers power.TooLong = Some WordTooLong
fault_of_powers power.NoMemory = None

-- the fault of a line with a table that is refused
abbrev pub fault_of_table : TableFault → Option Cause
fault_of_table (table.BadTable place) = Some BadTable
fault_of_table table.NoMemory = None
