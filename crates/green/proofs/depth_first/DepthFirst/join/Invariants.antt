use Rattle.std.proofs.Common.{◌≡◌, length}
use Rattle.green.proofs.TourLaws.{AreJoining}
use Rattle.green.proofs.depth_first.DepthFirst.join.Given as goal

abbrev pub invariant-loop-self : goal.invariant-loop-self
invariant-loop-self l = record {
  joining : AreJoining l.place l.fn.self.starts l.self.starts;
  states : l.self.states ≡ l.fn.self.states;
  path : l.self.path ≡ l.fn.self.path;
  ahead : l.self.ahead ≡ l.fn.self.ahead;
}

abbrev pub decreases-loop-self : goal.decreases-loop-self
decreases-loop-self l = length l.self.starts
