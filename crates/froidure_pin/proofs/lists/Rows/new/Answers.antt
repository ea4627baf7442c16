use Rattle.froidure_pin.proofs.RowLists.{rows_by}
use Rattle.froidure_pin.proofs.lists.Rows.new.Goals as goal

pub returns : goal.returns
returns c = rows_by c.args.letters c.args.count c.args.numbers.items c.requires
