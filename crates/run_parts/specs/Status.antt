-- The status and the line of each fault.
use Rattle.ports.specs.declared.sink.Sink.{Ghosts}
use Rattle.std.specs.Prelude.{ℕ, List, ◌++◌, codes, decimal}
use Rattle.ports.specs.Bytes.{Rose, TakesAll, TakesPrefix}
use Rattle.ports.specs.declared.fault.ReadFault.{ReadFault}
use Rattle.ports.specs.declared.fault.ReadFault.TheVariants as read
use Rattle.ports.specs.declared.fault.WriteFault.{WriteFault}
use Rattle.ports.specs.declared.fault.WriteFault.TheVariants as write
use Rattle.line_parts.specs.Causes.{cause_text}
use Rattle.query_lang.specs.declared.fault.ScriptFault.{ScriptFault}
use Rattle.query_lang.specs.declared.fault.ScriptFault.TheVariants as script
use Rattle.settings.specs.declared.SettingsFault.{SettingsFault}
use Rattle.settings.specs.declared.SettingsFault.TheVariants as settings
use Rattle.run_parts.specs.declared.fault.Fault.{Fault}
use Rattle.run_parts.specs.declared.fault.Fault.TheVariants.{TooLong, Script, Arguments, Read, Write, NoMemory}

abbrev pub status_of : Fault → ℕ
status_of TooLong = 2
status_of (Script line cause) = 2
status_of Arguments = 3
status_of Read = 4
status_of Write = 5
status_of NoMemory = 6

-- what a fault says, between the program's name and the line feed
abbrev pub text_of : Fault → List ℕ
text_of TooLong = codes "script too long"
text_of (Script line cause) = codes "line " ++ (decimal line ++ (codes ": " ++ cause_text cause))
text_of Arguments = codes "arguments refused"
text_of Read = codes "cannot read input"
text_of Write = codes "cannot write output"
text_of NoMemory = codes "out of memory"

-- the line of a fault
abbrev pub line_of_fault : Fault → List ℕ
line_of_fault fault = codes "semi: " ++ (text_of fault ++ codes "\n")

-- a source that fails, gives too much or finds no memory
abbrev pub of_read : ReadFault → Fault
of_read read.Failed = Read
of_read read.TooLong = TooLong
of_read read.NoMemory = NoMemory

abbrev pub of_write : WriteFault → Fault
of_write write.Failed = Write
of_write write.NoMemory = NoMemory

abbrev pub of_script : ScriptFault → Fault
of_script (script.Bad line cause) = Script line cause
of_script script.NoMemory = NoMemory

abbrev pub of_settings : SettingsFault → Fault
of_settings settings.Refused = Arguments
of_settings settings.NoMemory = NoMemory

-- the sink gained the line of this fault, or a prefix of it where one of its two counts rose
pub record GainsLineOf {A : Type 0} (sink : Ghosts A) (fault : Fault) (old new : A) : Type 0 where
  pub whole : (Rose (sink.faults old) (sink.faults new) → ⊥)
      → (Rose (sink.refusals old) (sink.refusals new) → ⊥)
      → TakesAll (sink.taken old) (sink.taken new) (line_of_fault fault)
  pub prefix : TakesPrefix (sink.taken old) (sink.taken new) (line_of_fault fault)
