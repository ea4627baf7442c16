use Rattle.std.proofs.Common.{ap}
use Rattle.knuth_bendix.specs.Overlaps.{rule_at}
use Rattle.knuth_bendix.proofs.confluence.pair_is_joined.Goals as goal

pub returns-then-not-may_share : goal.returns-then-not-may_share
returns-then-not-may_share c = λ shared o.
    absurd
    (c.may_share.ensures c.if-not-may_share.true (rule_at c.args.rules.now c.args.first).0 (rule_at c.args.rules.now c.args.second).0 shared
    c.requires.ahead (ap (λ m. m.first) c.marks-marks.ensures) (ap (λ m. m.letters) c.marks-marks.ensures) o.some o.first o.second o.overlaps o.within)
