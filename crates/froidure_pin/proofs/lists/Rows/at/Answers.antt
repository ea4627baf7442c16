use Rattle.std.proofs.Common.{◌∙◌, arith}
use Rattle.froidure_pin.proofs.RowLists.{seen_at, seen_in, seen_small}
use Rattle.froidure_pin.proofs.lists.Rows.at.Goals as goal

pub overflow_add-row : goal.overflow_add-row
overflow_add-row c =
    let small = seen_small c.self.inside.letters c.self.inside.count c.self.inside.numbers.items c.self.invariant c.args.self.now c.self.view_is c.args.row c.args.letter c.requires.row c.requires.letter in
    omega (arith, small, c.self.inside.numbers.small)

pub entry-requires : goal.entry-requires
entry-requires c = seen_in c.self.inside.letters c.self.inside.count c.self.inside.numbers.items c.self.invariant c.args.self.now c.self.view_is c.args.row c.args.letter c.requires.row c.requires.letter

pub returns : goal.returns
returns c = c.entry.ensures ∙ seen_at c.self.inside.letters c.self.inside.count c.self.inside.numbers.items c.self.invariant c.args.self.now c.self.view_is c.args.row c.args.letter c.requires.row c.requires.letter
