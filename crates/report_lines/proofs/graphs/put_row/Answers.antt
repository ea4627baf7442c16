use Rattle.std.proofs.Common.{◌≡◌, ◌∙◌, ◌++◌, [], ap, arith, get_or, length}
use Rattle.cayley.specs.Tables.{edge}
use Rattle.report_lines.specs.Lines.{numbers_text}
use Rattle.report_lines.proofs.ListingLemmas.{numbers_more}
use Rattle.report_lines.proofs.graphs.put_row.Goals as goal

pub loop-letter-preserved : goal.loop-letter-preserved
loop-letter-preserved c =
    numbers_more (edge c.args.rows.now c.args.row) c.loop-letter.letter c.loop-letter.line c.text.new.self c.number.new.self c.at.result c.at.ensures
    c.in_ok-text.ensures c.in_ok-number.ensures c.args.line.now c.loop-letter.invariant

pub returns : goal.returns
returns c =
    let all : c.loop-letter.letter ≡ length (get_or c.args.rows.now c.args.row []) = omega (arith, c.loop-letter-test.false, c.loop-letter.auto.letter-end, c.width-letter-end.ensures c.args.row c.requires) in
    c.loop-letter.invariant ∙ ap (λ k. c.args.line.now ++ numbers_text k (edge c.args.rows.now c.args.row)) all
