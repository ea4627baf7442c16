use Rattle.std.proofs.Common.{take}
use Rattle.chains.specs.Derivations.{all_of}
use Rattle.knuth_bendix.specs.Logs.{AreFor}
use Rattle.knuth_bendix.proofs.logs.Facts.steps_of.Given as goal

abbrev pub invariant-loop-at : goal.invariant-loop-at
invariant-loop-at l = AreFor l.rules (all_of l.self.derivations).relations (take l.at-index l.trace) l.steps.items
