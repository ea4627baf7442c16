use Rattle.coincidence.specs.Marks.{IsLeastUnmarked}
use Rattle.coincidence.proofs.marks.least_unmarked.Given as goal

abbrev pub invariant-loop-place : goal.invariant-loop-place
invariant-loop-place l = IsLeastUnmarked l.least.items l.marked.items l.place l.first
