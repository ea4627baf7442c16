use Rattle.sims_one.specs.Asked.{asked}
use Rattle.sims_one.specs.Fronts.{lists_in, AreJoined}
use Rattle.sims_one.proofs.batches.Sweep.run_wide.Given as goal

abbrev pub invariant-loop : goal.invariant-loop
invariant-loop g l = AreJoined (asked l.request) (lists_in l.self.fronts.items) (lists_in l.self.tables.items)
