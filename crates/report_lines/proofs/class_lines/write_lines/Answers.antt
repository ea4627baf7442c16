use Rattle.std.proofs.Common.{◌++◌, [], ℕ, List, codes, ap, arith}
use Rattle.ports.proofs.WriteLemmas.{handed_on, same_bytes}
use Rattle.report_lines.proofs.ListingLemmas.{line_begun, lines_done}
use Rattle.report_lines.proofs.class_lines.write_lines.Goals as goal

pub returns-in_err-write_line : goal.returns-in_err-write_line
returns-in_err-write_line g c =
    let f : List ℕ → List ℕ = λ line. line ++ codes "\n" in
    handed_on g.O.Sink _ _ _ _ c.from_residual.ensures.1
    (line_begun f c.args.lines.now.items g.O.Sink c.loop-place.place _ c.loop-place.sink c.loop-place.invariant.written [] _ _
    (omega (arith, c.loop-place-test.true, c.len-place-end.ensures))
    (same_bytes g.O.Sink _ _ _ _ _ (ap f (c.loop-place.invariant.rest c.loop-place.place (omega arith))) c.in_err-write_line.ensures.written))

pub returns : goal.returns
returns g c =
    lines_done (λ (line : List ℕ). line ++ codes "\n") c.args.lines.now.items g.O.Sink c.loop-place.place _ _ c.loop-place.invariant.written
    (omega (arith, c.loop-place-test.false, c.len-place-end.ensures))
