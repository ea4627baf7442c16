-- cells/proofs/flat/Cells/put/Answers.antt
use Rattle.std.proofs.Common.{length, ap, sym, ◌∙◌}
use Rattle.cells.proofs.CellLaws.{length_rows, within_code}
use Rattle.cells.proofs.flat.Cells.put.Goals as goal

pub put_number-requires-clause-entry : goal.put_number-requires-clause-entry
put_number-requires-clause-entry c = within_code c.args.entry _ _ (ap length (sym c.self.view_is) ∙ length_rows c.self.inside.letters c.self.inside.nodes c.self.inside.entries.items) c.self.invariant.few c.requires.entry
