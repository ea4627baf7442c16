use Rattle.std.proofs.Common.{◌<◌, ◌∙◌, length, slice_index, ap, arith}
use Rattle.froidure_pin.proofs.RowLists.{first_row_read, in_first_row}
use Rattle.froidure_pin.proofs.table.Table.generator.Goals as goal

pub index-requires : goal.index-requires
index-requires g c =
    let letter : c.number.result < c.self.inside.letters = omega (arith, c.number.ensures, c.requires, ap (λ t. t.letters) c.self.view_is) in
    omega (arith, in_first_row c.self.inside.letters (length c.self.inside.elements.keys) c.self.inside.right.items c.number.result c.self.invariant.on_right letter, c.self.inside.right.ok.0)

pub returns-clause-within : goal.returns-clause-within
returns-clause-within g c =
    let letter : c.number.result < c.self.inside.letters = omega (arith, c.number.ensures, c.requires, ap (λ t. t.letters) c.self.view_is) in
    let read = first_row_read c.self.inside.letters (length c.self.inside.elements.keys) c.self.inside.right.items c.number.result c.index.result.now c.self.invariant.on_right letter c.index.ensures in
    omega (arith, read.0, ap (λ t. length t.elements) c.self.view_is)

pub returns-clause-number : goal.returns-clause-number
returns-clause-number g c =
    let letter : c.number.result < c.self.inside.letters = omega (arith, c.number.ensures, c.requires, ap (λ t. t.letters) c.self.view_is) in
    let read = first_row_read c.self.inside.letters (length c.self.inside.elements.keys) c.self.inside.right.items c.number.result c.index.result.now c.self.invariant.on_right letter c.index.ensures in
    read.1 ∙ (λ i. slice_index (ap (λ t. t.right) c.self.view_is i) (c.number.ensures i))
