use Rattle.std.proofs.Common.{length}
use Rattle.sims_one.specs.Asked.{asked}
use Rattle.sims_one.specs.Fronts.{lists_in, AreJoined}
use Rattle.sims_one.proofs.batches.Sweep.run.Given as goal

abbrev pub invariant-loop-self : goal.invariant-loop-self
invariant-loop-self g l = AreJoined (asked l.request) (lists_in l.self.fronts.items) (lists_in l.self.tables.items)

abbrev pub decreases-loop-self : goal.decreases-loop-self
decreases-loop-self g l = length l.self.fronts.items
