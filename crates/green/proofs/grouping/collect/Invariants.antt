use Rattle.std.proofs.Common.{◌≡◌}
use Rattle.green.specs.Grouping.{AreCollected}
use Rattle.green.proofs.grouping.collect.Given as goal

abbrev pub invariant-loop-number : goal.invariant-loop-number
invariant-loop-number g l = record {
  source : g.C.Collector.source l.collector ≡ g.C.Collector.source l.fn.collector;
  collected : AreCollected l.names l.number l.places.items l.count (g.C.Collector.holds l.collector);
}
