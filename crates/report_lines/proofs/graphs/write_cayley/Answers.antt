use Rattle.std.proofs.Common.{ℕ, List, length, false, arith}
use Rattle.std.specs.List.{range_with_len}
use Rattle.std.proofs.lemmas.List.FromFn.{length-range_with_len}
use Rattle.ports.proofs.WriteLemmas.{handed_on, same_bytes}
use Rattle.report_lines.specs.Lines.{end_line}
use Rattle.report_lines.proofs.GraphLemmas.{row_line, more_rows, row_begun}
use Rattle.report_lines.proofs.ListingLemmas.{lines_begun, lines_done, listing_begun, listing_ended}
use Rattle.report_lines.proofs.graphs.write_cayley.Goals as goal

pub loop-number-preserved : goal.loop-number-preserved
loop-number-preserved g c =
    let n : ℕ = length c.args.tables.now.words in
    more_rows (row_line c.args.problem.now c.args.tables.now) n c.loop-number.number (omega (arith, c.len-number-end.ensures, c.loop-number-test.true)) g.O.Sink _ c.loop-number.sink c.loop-number.invariant _
    (same_bytes g.O.Sink _ _ _ _ _ c.in_ok-row_of.ensures c.in_ok-write.ensures)

pub returns-in_err-row_of : goal.returns-in_err-row_of
returns-in_err-row_of g c =
    let rows : List ℕ = range_with_len 0 (length c.args.tables.now.words) in
    let f : ℕ → List ℕ = row_line c.args.problem.now c.args.tables.now in
    handed_on g.O.Sink _ _ _ _ c.from_residual.ensures.1
    (listing_begun g.O.Sink f rows (end_line false) _ _ _ (lines_begun f rows g.O.Sink c.loop-number.number _ _ c.loop-number.invariant))

pub returns-in_err-write : goal.returns-in_err-write
returns-in_err-write g c =
    let n : ℕ = length c.args.tables.now.words in
    let f : ℕ → List ℕ = row_line c.args.problem.now c.args.tables.now in
    handed_on g.O.Sink _ _ _ _ c.from_residual-in_err-write.ensures.1
    (listing_begun g.O.Sink f (range_with_len 0 n) (end_line false) _ _ _
    (row_begun f n c.loop-number.number (omega (arith, c.len-number-end.ensures, c.loop-number-test.true)) g.O.Sink _ c.loop-number.sink c.loop-number.invariant _ _
    (same_bytes g.O.Sink _ _ _ _ _ c.in_ok-row_of.ensures c.in_err-write.ensures)))

pub returns : goal.returns
returns g c =
    let rows : List ℕ = range_with_len 0 (length c.args.tables.now.words) in
    let f : ℕ → List ℕ = row_line c.args.problem.now c.args.tables.now in
    listing_ended g.O.Sink f rows (end_line false) _ c.loop-number.sink _ _
    (lines_done f rows g.O.Sink c.loop-number.number _ _ c.loop-number.invariant (omega (arith, c.len-number-end.ensures, c.loop-number-test.false, length-range_with_len 0 (length c.args.tables.now.words))))
    c.write_end.ensures.bytes
