use Rattle.std.proofs.Common.{◌≡◌, length, arith, subst}
use Rattle.knuth_bendix.specs.declared.lengths.Lengths.{Lengths}
use Rattle.knuth_bendix.specs.Joining.{JoinsRules}
use Rattle.knuth_bendix.specs.Overlaps.{rule_at}
use Rattle.knuth_bendix.proofs.LogLaws.{grows_after, keeps_after}
use Rattle.knuth_bendix.proofs.OverlapSteps.{with_end, with_step}
use Rattle.knuth_bendix.proofs.overlaps.Pending.join_all.Goals as goal

pub loop-other-preserved : goal.loop-other-preserved
loop-other-preserved c =
    let first : JoinsRules c.args.lengths c.args.rules.now (rule_at c.args.rules.now c.args.newest) (rule_at c.args.rules.now c.loop-other.other) c.loop-other.self c.join_ahead.new.self =
    subst (λ (n : Lengths). JoinsRules n c.args.rules.now (rule_at c.args.rules.now c.args.newest) (rule_at c.args.rules.now c.loop-other.other) c.loop-other.self c.join_ahead.new.self)
    c.shares_ahead-ahead.ensures.lengths c.in_ok-join_ahead.ensures in
    let second : JoinsRules c.args.lengths c.args.rules.now (rule_at c.args.rules.now c.loop-other.other) (rule_at c.args.rules.now c.args.newest) c.join_ahead.new.self c.join_behind.new.self =
    subst (λ (n : Lengths). JoinsRules n c.args.rules.now (rule_at c.args.rules.now c.loop-other.other) (rule_at c.args.rules.now c.args.newest) c.join_ahead.new.self c.join_behind.new.self)
    c.in_ok-behind.ensures.lengths c.in_ok-join_behind.ensures in
    record {
      logged =
          keeps_after c.args.self.now.log c.join_ahead.new.self.log c.join_behind.new.self.log c.args.rules.now c.join_behind.new.self.equations
          (grows_after c.args.self.now.log c.loop-other.self.log c.join_ahead.new.self.log c.loop-other.invariant.logged.grows first.logged.grows)
          second.logged;
      joined =
          with_step c.args.lengths c.args.rules.now c.args.self.now.equations c.loop-other.self.equations c.join_ahead.new.self.equations c.join_behind.new.self.equations
          c.args.newest c.loop-other.other c.requires.newest (omega arith) c.loop-other.invariant.joined
          first.gains first.joined second.gains second.joined;
    }

pub returns-clause-gains : goal.returns-clause-gains
returns-clause-gains c =
    let all : c.loop-other.other ≡ length c.args.rules.now = omega arith in
    (with_end c.args.lengths c.args.rules.now c.args.self.now.equations c.loop-other.self.equations c.args.newest c.loop-other.other all c.loop-other.invariant.joined).gains

pub returns-clause-joined : goal.returns-clause-joined
returns-clause-joined c =
    let all : c.loop-other.other ≡ length c.args.rules.now = omega arith in
    (with_end c.args.lengths c.args.rules.now c.args.self.now.equations c.loop-other.self.equations c.args.newest c.loop-other.other all c.loop-other.invariant.joined).joined
