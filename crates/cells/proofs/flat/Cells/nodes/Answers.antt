use Rattle.std.proofs.Common.{length, sym, ◌∙◌, ap}
use Rattle.cells.proofs.CellLaws.{length_rows}
use Rattle.cells.proofs.flat.Cells.nodes.Goals as goal

pub returns : goal.returns
returns c = sym (length_rows c.self.inside.letters c.self.inside.nodes c.self.inside.entries.items) ∙ ap length c.self.view_is
