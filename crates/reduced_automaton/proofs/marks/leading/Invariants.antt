use Rattle.std.proofs.Common.{◌+◌, ◌-◌, length, if◌then◌else◌}
use Rattle.rewriting.specs.Tables.{edges}
use Rattle.reduced_automaton.specs.Framings.{count_marked, frame_paths}
use Rattle.reduced_automaton.proofs.MarkLaws.{AreGrowing}
use Rattle.reduced_automaton.proofs.marks.leading.Given as goal

abbrev pub invariant-loop-growing : goal.invariant-loop-growing
invariant-loop-growing l = AreGrowing (frame_paths (edges l.graph) l.frame) l.ends l.marks.items l.spread l.growing

abbrev pub decreases-loop-growing : goal.decreases-loop-growing
decreases-loop-growing l = length (edges l.graph) - count_marked l.marks.items + (if l.growing then 1 else 0)
