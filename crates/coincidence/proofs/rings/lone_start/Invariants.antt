use Rattle.std.proofs.Common.{◌≤◌, ◌-◌, take, drop}
use Rattle.coincidence.specs.Rings.{IsLoneWalk}
use Rattle.coincidence.proofs.rings.lone_start.Given as goal

abbrev pub invariant-loop-place : goal.invariant-loop-place
invariant-loop-place l = record {
  above : l.from ≤ l.place;
  below : l.place ≤ l.to;
  walk : IsLoneWalk l.edges.graph l.at (take (l.to - l.place) (drop l.place l.word)) l.node;
}

abbrev pub decreases-loop-place : goal.decreases-loop-place
decreases-loop-place l = l.place
