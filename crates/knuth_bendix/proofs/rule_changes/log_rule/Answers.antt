use Rattle.std.proofs.Common.{sym}
use Rattle.std.proofs.lemmas.Result.{on_ok_weaker}
use Rattle.knuth_bendix.proofs.LogLaws.{equal_rule_logged, greater_rule_logged, less_rule_logged}
use Rattle.knuth_bendix.proofs.RuleChanges.{greater_first}
use Rattle.knuth_bendix.proofs.rule_changes.log_rule.Goals as goal

pub returns-in-Equal-clause-rule : goal.returns-in-Equal-clause-rule
returns-in-Equal-clause-rule c = equal_rule_logged c.args.log.now c.args.left.now.0 c.args.right.now.0 c.in-Equal.ensures

pub returns-in_ok-steps-in-Less-clause-rule : goal.returns-in_ok-steps-in-Less-clause-rule
returns-in_ok-steps-in-Less-clause-rule c =
    on_ok_weaker c.push.result (less_rule_logged c.push.new.self c.args.left.now.0 c.args.right.now.0 (sym c.in-Less.ensures)) c.push.ensures.logged

pub returns-in_ok-steps-in-Greater-clause-rule : goal.returns-in_ok-steps-in-Greater-clause-rule
returns-in_ok-steps-in-Greater-clause-rule c =
    on_ok_weaker c.push-in-Greater.result
    (greater_rule_logged c.push-in-Greater.new.self c.args.left.now.0 c.args.right.now.0 (greater_first c.args.left.now.0 c.args.right.now.0 c.in-Greater.ensures))
    c.push-in-Greater.ensures.logged
