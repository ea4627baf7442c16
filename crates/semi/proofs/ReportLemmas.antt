-- What a sink gains with the lines of a script.
use Rattle.ports.specs.declared.sink.Sink.{Ghosts}
use Rattle.std.proofs.Common.{ℕ, Bool, List, Option, Some, None, IfSome, Ok, Err}
use Rattle.ports.specs.declared.fault.WriteFault.{WriteFault}
use Rattle.query_lang.specs.Asked.{ScriptOf}
use Rattle.report.specs.Answers.{WritesLines}
use Rattle.settings.specs.declared.Settings.{Settings}
use Rattle.run_parts.specs.Input.{IsScript}
use Rattle.semi.specs.Report.{GainsBeginning, GainsReport, bounds_of}

-- what the sink gained with the lines of a script, where the source tells its bytes
module _ {K : Type 0} (sink : Ghosts K) (settings : Settings) (script : ScriptOf) (old new : K) where
  pub report_gained : (input : Option (List ℕ)) (u : Bool) → IfSome input (λ bytes. IsScript bytes script) → WritesLines sink (bounds_of settings) script.problem script.queries old new (Ok u) → IfSome input (λ bytes. GainsReport settings bytes u (sink.taken old) (sink.taken new))
  report_gained (Some bytes) u is_script h = record { report = h.all.0; is_report = record { script = script; is_script = is_script; are_lines = h.all.1 }; gained = h.all.2 }
  report_gained None u is_script h = tt

  pub beginning_gained : (input : Option (List ℕ)) (fault : WriteFault) → IfSome input (λ bytes. IsScript bytes script) → WritesLines sink (bounds_of settings) script.problem script.queries old new (Err fault) → IfSome input (λ bytes. GainsBeginning settings bytes (sink.taken old) (sink.taken new))
  beginning_gained (Some bytes) fault is_script h = record { script = script; is_script = is_script; beginning = h.part.0; are_first = h.part.1; gained = h.part.2 }
  beginning_gained None fault is_script h = tt
