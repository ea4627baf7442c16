use Rattle.knuth_bendix.proofs.LogLaws.{all_still_logged}
use Rattle.knuth_bendix.proofs.OverlapSteps.{overlap_gains, overlap_joined}
use Rattle.knuth_bendix.proofs.overlaps.Pending.join_overlap.Goals as goal

pub returns-clause-gains : goal.returns-clause-gains
returns-clause-gains c =
    overlap_gains c.args.rules.now c.args.self.now.equations c.push_different.new.self.equations c.args.overlap c.in_ok-left.left c.in_ok-left.right
    c.requires.first c.requires.second c.in_ok-left.ensures.reduces
    (record { same = c.in_ok-push_different.ensures.same; different = c.in_ok-push_different.ensures.different })

pub returns-clause-joined : goal.returns-clause-joined
returns-clause-joined c =
    overlap_joined c.args.rules.now c.args.self.now.equations c.push_different.new.self.equations c.args.overlap c.in_ok-left.left c.in_ok-left.right
    c.in_ok-left.ensures.reduces
    (record { same = c.in_ok-push_different.ensures.same; different = c.in_ok-push_different.ensures.different })

pub returns-clause-logged : goal.returns-clause-logged
returns-clause-logged c =
    record {
      grows = c.in_ok-push_different.ensures.grows;
      held = record {
        each_rule = all_still_logged c.args.self.now.log c.push_different.new.self.log c.args.rules.now c.in_ok-push_different.ensures.grows c.requires.held.each_rule;
        each_equation = c.in_ok-push_different.ensures.logged;
      };
    }
