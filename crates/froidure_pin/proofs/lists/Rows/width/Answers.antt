use Rattle.froidure_pin.proofs.RowLists.{seen_width}
use Rattle.froidure_pin.proofs.lists.Rows.width.Goals as goal

pub returns : goal.returns
returns c = seen_width c.self.inside.letters c.self.inside.count c.self.inside.numbers.items c.self.invariant c.args.self.now c.self.view_is
