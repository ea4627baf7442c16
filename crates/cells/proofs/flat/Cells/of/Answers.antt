-- cells/proofs/flat/Cells/of/Answers.antt
use Rattle.std.proofs.Common.{◌≡◌, ◌*◌, ◌++◌, None, replicate, ◌∙◌, ap, arith}
use Rattle.cells.specs.Rows.{rows_of}
use Rattle.cells.proofs.CellLaws.{bare_rows}
use Rattle.cells.proofs.flat.Cells.of.Goals as goal

pub returns : goal.returns
returns c =
    let size : c.in-Some.count ≡ c.args.nodes * c.args.letters = omega (arith, c.in-Some.ensures) in
    let items : c.push_empty.new.entries.items ≡ replicate c.in-Some.count None = c.in_ok-push_empty.ensures.ok ∙ ap (λ xs. xs ++ replicate c.in-Some.count None) c.in_ok-entries.ensures.items in
    ap (rows_of c.args.letters c.args.nodes) items ∙ bare_rows c.args.letters c.args.nodes c.in-Some.count size
