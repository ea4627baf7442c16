use Rattle.std.proofs.Common.{refl, rules}
use Rattle.green.proofs.GroupLaws.{collected_none}
use Rattle.green.proofs.grouping.collect.Goals as goal

pub loop-number-init : goal.loop-number-init
loop-number-init g c = record {
  source = refl;
  collected = collected_none c.args.names.now c.in_ok-places.places.items (g.C.Collector.holds c.args.collector.now) (c.in_ok-places.ensures.items_if_clones_equal (search rules)) c.requires.empty;
}
