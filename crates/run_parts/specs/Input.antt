-- Which script an input is, and why it is refused.
use Rattle.std.specs.Prelude.{ℕ, ◌<◌, ◌≤◌, List, length}
use Rattle.query_lang.specs.declared.fault.ScriptFault.TheVariants.{Bad}
use Rattle.query_lang.specs.Asked.{ScriptOf}
use Rattle.query_lang.specs.Faults.{IsScriptFault}
use Rattle.query_lang.specs.Grammar.{lines_of as lines_in}
use Rattle.query_lang.specs.LineCauses.{AreScript}
use Rattle.run_parts.specs.declared.fault.Fault.{Fault}
use Rattle.run_parts.specs.declared.fault.Fault.TheVariants.{TooLong, Script, Arguments, Read, Write, NoMemory}
use Rattle.run_parts.specs.Limits.{most_bytes}

-- the input is this script
pub record IsScript (input : List ℕ) (script : ScriptOf) : Type 0 where
  pub short : length input ≤ most_bytes
  pub reads : AreScript (lines_in input) script

-- the input is refused for this fault: it is too long, or else this is its first fault
abbrev pub IsRefusal : List ℕ → Fault → Type 0
IsRefusal input TooLong = most_bytes < length input
IsRefusal input (Script line cause) =
    (length input ≤ most_bytes) × IsScriptFault input (Bad line cause)
IsRefusal input Arguments = ⊥
IsRefusal input Read = ⊥
IsRefusal input Write = ⊥
IsRefusal input NoMemory = ⊥

-- the input is refused
abbrev pub IsRefused : List ℕ → Type 0
IsRefused input = (fault : Fault) × IsRefusal input fault
