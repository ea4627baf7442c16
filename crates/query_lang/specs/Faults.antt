-- What the faults of the reader mean.
use Rattle.std.specs.Prelude.{◌≡◌, ℕ, List, Option, Some, None}
use Rattle.line_parts.specs.declared.cause.Cause.{Cause}
use Rattle.line_parts.specs.Causes.{number_of_cause}
use Rattle.query_lang.specs.declared.fault.ScriptFault.{ScriptFault}
use Rattle.query_lang.specs.declared.fault.ScriptFault.TheVariants as script
use Rattle.query_lang.specs.Grammar.{lines_of}
use Rattle.query_lang.specs.LineCauses.{IsFirstFault}

-- a line is refused for the first of its causes; want of memory says nothing of it
abbrev pub IsFaultFor : Option Cause → Option Cause → Type 0
IsFaultFor first (Some cause) = first ≡ Some cause
IsFaultFor first None = Unit {0}

-- the fault of a line, with its number
abbrev pub fault_at_line : ℕ → Option Cause → ScriptFault
fault_at_line n (Some cause) = script.Bad n (number_of_cause cause)
fault_at_line n None = script.NoMemory

-- the first fault of the bytes, by its cause's number; want of memory says nothing of them
abbrev pub IsScriptFault : List ℕ → ScriptFault → Type 0
IsScriptFault bytes (script.Bad line number) = (cause : Cause)
    × IsFirstFault (lines_of bytes) line cause × (number ≡ number_of_cause cause)
IsScriptFault bytes script.NoMemory = Unit {0}
