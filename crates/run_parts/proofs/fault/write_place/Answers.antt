use Rattle.std.proofs.Common.{◌≡◌, List, ℕ, ◌++◌, codes, decimal, ◌∙◌}
use Rattle.ports.proofs.WriteLemmas.{handed_on, same_bytes, bytes_then, bytes_broken_off}
use Rattle.line_parts.specs.Causes.{cause_text}
use Rattle.run_parts.proofs.FaultLemmas.{refusals_handed, refusals_then}
use Rattle.run_parts.proofs.fault.write_place.Goals as goal

pub returns-in_err-write_all-clause-bytes : goal.returns-in_err-write_all-clause-bytes
returns-in_err-write_all-clause-bytes g c =
    let rest : List ℕ = decimal c.args.line ++ (codes ": " ++ cause_text c.args.cause) in
    handed_on g.E.Sink _ _ _ _ c.from_residual.ensures.1 (bytes_broken_off g.E.Sink (codes "line ") rest _ _ _ c.in_err-write_all.ensures.bytes)

pub returns-in_err-write_all-2-clause-bytes : goal.returns-in_err-write_all-2-clause-bytes
returns-in_err-write_all-2-clause-bytes g c =
    let number : c.as_bytes.result.now ≡ decimal c.args.line = c.as_bytes.ensures.value ∙ c.format.ensures.text in
    handed_on g.E.Sink _ _ _ _ c.from_residual-in_err-write_all-2.ensures.1
    (bytes_then g.E.Sink (codes "line ") _ _ c.write_all.new.sink _ _ _ c.in_ok-write_all.ensures.bytes
    (bytes_broken_off g.E.Sink (decimal c.args.line) (codes ": " ++ cause_text c.args.cause) _ _ _ (same_bytes g.E.Sink _ _ _ _ _ number c.in_err-write_all-2.ensures.bytes)))

pub returns-in_err-write_all-3-clause-bytes : goal.returns-in_err-write_all-3-clause-bytes
returns-in_err-write_all-3-clause-bytes g c =
    let number : c.as_bytes.result.now ≡ decimal c.args.line = c.as_bytes.ensures.value ∙ c.format.ensures.text in
    handed_on g.E.Sink _ _ _ _ c.from_residual-in_err-write_all-3.ensures.1
    (bytes_then g.E.Sink (codes "line ") _ _ c.write_all.new.sink _ _ _ c.in_ok-write_all.ensures.bytes
    (bytes_then g.E.Sink (decimal c.args.line) _ _ c.write_all-2.new.sink _ _ _ (same_bytes g.E.Sink _ _ _ _ _ number c.in_ok-write_all-2.ensures.bytes)
    (bytes_broken_off g.E.Sink (codes ": ") (cause_text c.args.cause) _ _ _ c.in_err-write_all-3.ensures.bytes)))

pub returns-clause-bytes : goal.returns-clause-bytes
returns-clause-bytes g c =
    let number : c.as_bytes.result.now ≡ decimal c.args.line = c.as_bytes.ensures.value ∙ c.format.ensures.text in
    bytes_then g.E.Sink (codes "line ") _ _ c.write_all.new.sink _ _ _ c.in_ok-write_all.ensures.bytes
    (bytes_then g.E.Sink (decimal c.args.line) _ _ c.write_all-2.new.sink _ _ _ (same_bytes g.E.Sink _ _ _ _ _ number c.in_ok-write_all-2.ensures.bytes)
    (bytes_then g.E.Sink (codes ": ") _ _ c.write_all-3.new.sink _ _ _ c.in_ok-write_all-3.ensures.bytes
    (same_bytes g.E.Sink _ _ _ _ _ c.cause_text.ensures c.write_all-4.ensures.bytes)))

pub returns-in_err-write_all-clause-refusals : goal.returns-in_err-write_all-clause-refusals
returns-in_err-write_all-clause-refusals g c = refusals_handed g.E.Sink _ _ _ _ c.from_residual.ensures.1 c.in_err-write_all.ensures.refusals

pub returns-in_err-write_all-2-clause-refusals : goal.returns-in_err-write_all-2-clause-refusals
returns-in_err-write_all-2-clause-refusals g c =
    refusals_handed g.E.Sink _ _ _ _ c.from_residual-in_err-write_all-2.ensures.1
    (refusals_then g.E.Sink _ c.write_all.new.sink _ _ _ c.in_ok-write_all.ensures.refusals c.in_err-write_all-2.ensures.refusals)

pub returns-in_err-write_all-3-clause-refusals : goal.returns-in_err-write_all-3-clause-refusals
returns-in_err-write_all-3-clause-refusals g c =
    refusals_handed g.E.Sink _ _ _ _ c.from_residual-in_err-write_all-3.ensures.1
    (refusals_then g.E.Sink _ c.write_all.new.sink _ _ _ c.in_ok-write_all.ensures.refusals
    (refusals_then g.E.Sink _ c.write_all-2.new.sink _ _ _ c.in_ok-write_all-2.ensures.refusals c.in_err-write_all-3.ensures.refusals))

pub returns-clause-refusals : goal.returns-clause-refusals
returns-clause-refusals g c =
    refusals_then g.E.Sink _ c.write_all.new.sink _ _ _ c.in_ok-write_all.ensures.refusals
    (refusals_then g.E.Sink _ c.write_all-2.new.sink _ _ _ c.in_ok-write_all-2.ensures.refusals
    (refusals_then g.E.Sink _ c.write_all-3.new.sink _ _ _ c.in_ok-write_all-3.ensures.refusals c.write_all-4.ensures.refusals))
