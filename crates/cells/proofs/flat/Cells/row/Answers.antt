use Rattle.std.proofs.Common.{◌≡◌, ◌+◌, ◌-◌, ◌<◌, [], take, drop, length, get_or, sym, ap, ap₂, ◌∙◌, arith}
use Rattle.cells.proofs.CellLaws.{length_rows, row_is}
use Rattle.cells.proofs.flat.Cells.row.Goals as goal

pub row_start-start-requires-clause-node : goal.row_start-start-requires-clause-node
row_start-start-requires-clause-node c = omega (arith, c.requires, length_rows c.self.inside.letters c.self.inside.nodes c.self.inside.entries.items, ap length c.self.view_is)

pub returns : goal.returns
returns c =
    let k = c.self.inside.letters in
    let n = c.self.inside.nodes in
    let xs = c.self.inside.entries.items in
    let node : c.args.node < n = omega (arith, c.requires, length_rows k n xs, ap length c.self.view_is) in
    let count : (c.row_start-start.result + k) - c.row_start-start.result ≡ k = omega arith in
    ap₂ (λ j ys. take j (drop c.row_start-start.result ys)) count c.as_slice.ensures.value ∙ ap (λ j. take k (drop j xs)) c.row_start-start.ensures.start
    ∙ sym (row_is k n xs c.args.node node) ∙ ap (λ g. get_or g c.args.node []) c.self.view_is
