use Rattle.std.proofs.Common.{◌++◌, codes}
use Rattle.ports.proofs.WriteLemmas.{handed_on, bytes_then, bytes_broken_off}
use Rattle.run_parts.specs.Status.{text_of}
use Rattle.run_parts.proofs.FaultLemmas.{refusals_handed, refusals_then}
use Rattle.run_parts.proofs.fault.Fault.write_line.Goals as goal

pub returns-in_err-write_all-clause-bytes : goal.returns-in_err-write_all-clause-bytes
returns-in_err-write_all-clause-bytes g c =
    handed_on g.E.Sink _ _ _ _ c.from_residual.ensures.1 (bytes_broken_off g.E.Sink (codes "semi: ") (text_of c.args.self ++ codes "\n") _ _ _ c.in_err-write_all.ensures.bytes)

pub returns-in_err-write_text-clause-bytes : goal.returns-in_err-write_text-clause-bytes
returns-in_err-write_text-clause-bytes g c =
    handed_on g.E.Sink _ _ _ _ c.from_residual-in_err-write_text.ensures.1
    (bytes_then g.E.Sink (codes "semi: ") _ _ c.write_all.new.sink _ _ _ c.in_ok-write_all.ensures.bytes
    (bytes_broken_off g.E.Sink (text_of c.args.self) (codes "\n") _ _ _ c.in_err-write_text.ensures.bytes))

pub returns-clause-bytes : goal.returns-clause-bytes
returns-clause-bytes g c =
    bytes_then g.E.Sink (codes "semi: ") _ _ c.write_all.new.sink _ _ _ c.in_ok-write_all.ensures.bytes
    (bytes_then g.E.Sink (text_of c.args.self) _ _ c.write_text.new.err _ _ _ c.in_ok-write_text.ensures.bytes c.write_all-2.ensures.bytes)

pub returns-in_err-write_all-clause-refusals : goal.returns-in_err-write_all-clause-refusals
returns-in_err-write_all-clause-refusals g c = refusals_handed g.E.Sink _ _ _ _ c.from_residual.ensures.1 c.in_err-write_all.ensures.refusals

pub returns-in_err-write_text-clause-refusals : goal.returns-in_err-write_text-clause-refusals
returns-in_err-write_text-clause-refusals g c =
    refusals_handed g.E.Sink _ _ _ _ c.from_residual-in_err-write_text.ensures.1
    (refusals_then g.E.Sink _ c.write_all.new.sink _ _ _ c.in_ok-write_all.ensures.refusals c.in_err-write_text.ensures.refusals)

pub returns-clause-refusals : goal.returns-clause-refusals
returns-clause-refusals g c =
    refusals_then g.E.Sink _ c.write_all.new.sink _ _ _ c.in_ok-write_all.ensures.refusals
    (refusals_then g.E.Sink _ c.write_text.new.err _ _ _ c.in_ok-write_text.ensures.refusals c.write_all-2.ensures.refusals)
