use Rattle.std.proofs.Common.{length, ap}
use Rattle.knuth_bendix.proofs.LogLaws.{keeps_none}
use Rattle.knuth_bendix.proofs.OverlapSteps.{gains_none}
use Rattle.knuth_bendix.specs.Overlaps.{rule_at}
use Rattle.knuth_bendix.proofs.overlaps.Pending.join_ahead.Goals as goal

pub returns-then-not-may_share : goal.returns-then-not-may_share
returns-then-not-may_share c = record {
  gains = gains_none c.args.ahead.now.lengths c.args.rules.now c.args.self.now.equations (length (rule_at c.args.rules.now c.args.first).0);
  joined = λ shared o.
      absurd
      (c.may_share.ensures c.if-not-may_share.true (rule_at c.args.rules.now c.args.first).0 (rule_at c.args.rules.now c.args.second).0 shared
      c.requires.ahead (ap (λ m. m.first) c.marks-marks.ensures) (ap (λ m. m.letters) c.marks-marks.ensures) o.some o.first o.second o.overlaps o.within);
  logged = keeps_none c.args.self.now.log c.args.rules.now c.args.self.now.equations c.requires.held;
}
