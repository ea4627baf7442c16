use Rattle.std.proofs.Common.{◌≡◌, length, take, drop}
use Rattle.sims_one.specs.Edges.{without}
use Rattle.sims_one.proofs.known.Known.forget_edges.Given as goal

abbrev pub invariant-loop-self : goal.invariant-loop-self
invariant-loop-self l = record {
  nodes : l.self.nodes ≡ l.initial.self.nodes;
  targets : without l.self.targets (drop l.count l.self.trail) ≡ without l.initial.self.targets (drop l.count l.initial.self.trail);
  trail : take l.count l.self.trail ≡ take l.count l.initial.self.trail;
}

abbrev pub decreases-loop-self : goal.decreases-loop-self
decreases-loop-self l = length l.self.trail
