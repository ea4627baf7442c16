use Rattle.std.proofs.Common.{◌≡◌, take}
use Rattle.cells.specs.Rows.{flat}
use Rattle.word_graph.specs.Standard.{renumbered}
use Rattle.word_graph.proofs.graphs.WordGraph.standardise.Given as goal

abbrev pub invariant-loop-step : goal.invariant-loop-step
invariant-loop-step l = l.entries.items ≡ flat (renumbered (take l.step-index l.step-items) l.places.items l.self)
