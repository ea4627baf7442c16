use Rattle.std.proofs.Common.{length, ap, arith}
use Rattle.report_lines.proofs.texts.Texts.text.Goals as goal

pub slice_bounds-result-count : goal.slice_bounds-result-count
slice_bounds-result-count c =
    omega (arith, ap length (c.behind_space.ensures c.requires.texts.0 c.requires.texts.1 c.requires.texts.2))

pub slice_bounds-result-start : goal.slice_bounds-result-start
slice_bounds-result-start c =
    omega (arith, ap length (c.behind_space.ensures c.requires.texts.0 c.requires.texts.1 c.requires.texts.2))
