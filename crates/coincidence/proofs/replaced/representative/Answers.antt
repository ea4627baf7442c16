use Rattle.coincidence.proofs.ReplacedLaws.{replaced_stays, stays_more}
use Rattle.coincidence.proofs.replaced.representative.Goals as goal

pub loop-replaced_by-preserved : goal.loop-replaced_by-preserved
loop-replaced_by-preserved c = record {
  replaced = replaced_stays c.args.live.now.items c.loop-replaced_by.replaced_by.items c.follow-at.new.replaced_by.items c.loop-replaced_by.at c.follow-at.result c.loop-replaced_by.invariant.replaced c.follow-at.ensures.stays;
  stays = stays_more c.args.live.now.items c.args.replaced_by.now.items c.loop-replaced_by.replaced_by.items c.follow-at.new.replaced_by.items c.args.node c.loop-replaced_by.at c.follow-at.result c.loop-replaced_by.invariant.stays c.follow-at.ensures.stays;
}
