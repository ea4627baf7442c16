use Rattle.std.proofs.Common.{◌≡◌, ◌+◌, ◌*◌, ap, sym, ◌∙◌, subst, ◌<◌}
use Rattle.cells.specs.Rows.{with_entry}
use Rattle.cells.proofs.CellLaws.{within_rows, write_rows}
use Rattle.cells.proofs.flat.Cells.put_number.Goals as goal

pub place-place-requires-clause-node : goal.place-place-requires-clause-node
place-place-requires-clause-node c = (within_rows c.self.inside.letters c.self.inside.nodes c.args.node c.args.letter c.args.self.now c.self.inside.entries.items c.self.invariant.entries c.self.view_is c.requires.node c.requires.letter).0

pub place-place-requires-clause-letter : goal.place-place-requires-clause-letter
place-place-requires-clause-letter c = subst (λ z. z < c.self.inside.letters) (sym c.number.ensures) (within_rows c.self.inside.letters c.self.inside.nodes c.args.node c.args.letter c.args.self.now c.self.inside.entries.items c.self.invariant.entries c.self.view_is c.requires.node c.requires.letter).1

pub returns : goal.returns
returns c =
    let k = c.self.inside.letters in
    let n = c.self.inside.nodes in
    let xs = c.self.inside.entries.items in
    let here = within_rows k n c.args.node c.args.letter c.args.self.now xs c.self.invariant.entries c.self.view_is c.requires.node c.requires.letter in
    let at : c.place-place.result ≡ c.args.node * k + c.args.letter = c.place-place.ensures.place ∙ ap (λ z. c.args.node * k + z) c.number.ensures in
    rw (c.new.ensures, at)
    (write_rows k n xs c.args.node c.args.letter c.args.entry here.0 here.1 ∙ ap (λ z. with_entry z c.args.node c.args.letter c.args.entry) c.self.view_is)
