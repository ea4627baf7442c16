use Rattle.froidure_pin.proofs.RowLists.{seen_count}
use Rattle.froidure_pin.proofs.lists.Rows.len.Goals as goal

pub returns : goal.returns
returns c = seen_count c.self.inside.letters c.self.inside.count c.self.inside.numbers.items c.self.invariant c.args.self.now c.self.view_is
