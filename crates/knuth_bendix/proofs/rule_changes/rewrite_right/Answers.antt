use Rattle.knuth_bendix.specs.Overlaps.{rule_at}
use Rattle.knuth_bendix.proofs.rule_changes.rewrite_right.Goals as goal

pub returns-in_ok-reduce_right_at-clause-done : goal.returns-in_ok-reduce_right_at-clause-done
returns-in_ok-reduce_right_at-clause-done c = c.in_ok-reduce_right_at.ensures.done (rule_at c.args.rules.now c.args.newest).0
