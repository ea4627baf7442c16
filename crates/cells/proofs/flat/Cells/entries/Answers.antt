use Rattle.std.proofs.Common.{sym, ap, ◌∙◌}
use Rattle.cells.specs.Rows.{flat}
use Rattle.cells.proofs.CellLaws.{flat_rows}
use Rattle.cells.proofs.flat.Cells.entries.Goals as goal

pub returns : goal.returns
returns c =
    c.as_slice.ensures.value ∙ sym (flat_rows c.self.inside.letters c.self.inside.nodes c.self.inside.entries.items c.self.invariant.entries) ∙ ap flat c.self.view_is
