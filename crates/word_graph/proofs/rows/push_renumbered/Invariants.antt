use Rattle.std.proofs.Common.{◌≡◌, ◌++◌, map, take}
use Rattle.word_graph.specs.Renumber.{renumber}
use Rattle.word_graph.proofs.rows.push_renumbered.Given as goal

abbrev pub invariant-loop-entry : goal.invariant-loop-entry
invariant-loop-entry l = l.entries.items ≡ l.initial.entries.items ++ map (renumber l.places) (take l.entry-index l.row)
