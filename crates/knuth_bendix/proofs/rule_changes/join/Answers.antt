use Rattle.std.proofs.Common.{sym}
use Rattle.std.proofs.lemmas.Result.{on_ok_weaker}
use Rattle.knuth_bendix.proofs.LogLaws.{keeps_after, keeps_none, still_held}
use Rattle.knuth_bendix.proofs.RuleChanges.{greater_first, joins_equal, joins_greater}
use Rattle.knuth_bendix.proofs.rule_changes.join.Goals as goal

pub add_rule-requires-in-Greater-clause-falls : goal.add_rule-requires-in-Greater-clause-falls
add_rule-requires-in-Greater-clause-falls c = greater_first c.in_ok-left.left c.in_ok-left.right c.in-Greater.ensures

pub returns-in-Equal-clause-joins : goal.returns-in-Equal-clause-joins
returns-in-Equal-clause-joins c =
    joins_equal c.args.length c.args.pair.now.0 c.args.pair.now.1 c.in_ok-left.left c.in_ok-left.right c.args.rules.now c.args.pending.now.equations
    (record {
      down_left = c.in_ok-left.ensures.down_left;
      down_right = c.in_ok-left.ensures.down_right;
      end_left = c.in_ok-left.ensures.end_left;
      end_right = c.in_ok-left.ensures.end_right;
    })
    c.in-Equal.ensures

pub returns-in-Greater-clause-joins : goal.returns-in-Greater-clause-joins
returns-in-Greater-clause-joins c =
    on_ok_weaker c.add_rule-in-Greater.result
    (λ adds. joins_greater c.args.length c.args.pair.now.0 c.args.pair.now.1 c.in_ok-left.left c.in_ok-left.right c.args.rules.now c.args.pending.now.equations
    (record {
      down_left = c.in_ok-left.ensures.down_left;
      down_right = c.in_ok-left.ensures.down_right;
      end_left = c.in_ok-left.ensures.end_left;
      end_right = c.in_ok-left.ensures.end_right;
    })
    c.add_rule-in-Greater.new.rules c.add_rule-in-Greater.new.pending.equations c.in-Greater.ensures adds)
    c.add_rule-in-Greater.ensures.adds

pub add_rule-requires-clause-rule : goal.add_rule-requires-clause-rule
add_rule-requires-clause-rule c = c.in_ok-left.ensures.rule.less (sym c.in-Less.ensures)

pub add_rule-requires-in-Greater-clause-rule : goal.add_rule-requires-in-Greater-clause-rule
add_rule-requires-in-Greater-clause-rule c = c.in_ok-left.ensures.rule.greater (greater_first c.in_ok-left.left c.in_ok-left.right c.in-Greater.ensures)

pub add_rule-requires-clause-held : goal.add_rule-requires-clause-held
add_rule-requires-clause-held c =
    still_held c.args.pending.now.log c.reduce_both.new.log c.args.rules.now c.args.pending.now.equations c.in_ok-left.ensures.grows c.requires.held

pub add_rule-requires-in-Greater-clause-held : goal.add_rule-requires-in-Greater-clause-held
add_rule-requires-in-Greater-clause-held c =
    still_held c.args.pending.now.log c.reduce_both.new.log c.args.rules.now c.args.pending.now.equations c.in_ok-left.ensures.grows c.requires.held

pub returns-in-Equal-clause-logged : goal.returns-in-Equal-clause-logged
returns-in-Equal-clause-logged c =
    keeps_after c.args.pending.now.log c.reduce_both.new.log c.reduce_both.new.log c.args.rules.now c.args.pending.now.equations c.in_ok-left.ensures.grows
    (keeps_none c.reduce_both.new.log c.args.rules.now c.args.pending.now.equations
    (still_held c.args.pending.now.log c.reduce_both.new.log c.args.rules.now c.args.pending.now.equations c.in_ok-left.ensures.grows c.requires.held))

pub returns-in-Less-clause-logged : goal.returns-in-Less-clause-logged
returns-in-Less-clause-logged c =
    on_ok_weaker c.add_rule.result (keeps_after c.args.pending.now.log c.reduce_both.new.log c.add_rule.new.pending.log c.add_rule.new.rules c.add_rule.new.pending.equations c.in_ok-left.ensures.grows)
    c.add_rule.ensures.logged

pub returns-in-Greater-clause-logged : goal.returns-in-Greater-clause-logged
returns-in-Greater-clause-logged c =
    on_ok_weaker c.add_rule-in-Greater.result (keeps_after c.args.pending.now.log c.reduce_both.new.log c.add_rule-in-Greater.new.pending.log c.add_rule-in-Greater.new.rules c.add_rule-in-Greater.new.pending.equations c.in_ok-left.ensures.grows)
    c.add_rule-in-Greater.ensures.logged
