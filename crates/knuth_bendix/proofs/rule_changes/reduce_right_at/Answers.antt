use Rattle.std.proofs.Common.{[], ◌∙◌, subst}
use Rattle.std.proofs.lemmas.List.{get_or_default}
use Rattle.theory.specs.Word.{Word}
use Rattle.theory.specs.Completion.{Listed, Reduces}
use Rattle.knuth_bendix.proofs.LogLaws.{all_still_logged, right_logged, rule_logged}
use Rattle.knuth_bendix.proofs.RuleChanges.{IsRewritten, rewritten_falls, rewrites_one, rewritten_done}
use Rattle.knuth_bendix.proofs.rule_changes.reduce_right_at.Goals as goal

pub set_right-requires-clause-falls : goal.set_right-requires-clause-falls
set_right-requires-clause-falls c =
    rewritten_falls c.args.rules.now c.args.place c.rule.result.now c.in_ok-right.right c.rule.ensures.falling c.requires.place
    c.rule.ensures.rule c.in_ok-right.ensures.reached

rewritten : (c : goal.After-set_right) → IsRewritten c.args.rules.now c.set_right.new.self c.args.place c.in_ok-right.right
rewritten c =
    record {
      within = c.requires.place;
      falling = c.rule.ensures.falling;
      is = c.set_right.ensures;
      down =
          subst (λ (r : Word × Word). Reduces (Listed c.args.rules.now) r.1 c.in_ok-right.right)
          (c.rule.ensures.rule
          ∙ get_or_default c.args.rules.now c.args.place c.rule.result.now ([], []) c.requires.place)
          c.in_ok-right.ensures.reached;
      end = c.in_ok-right.ensures.reduced;
    }

pub returns-clause-rewrites : goal.returns-clause-rewrites
returns-clause-rewrites c =
    rewrites_one c.args.rules.now c.set_right.new.self c.args.place c.in_ok-right.right (rewritten c)

pub returns-clause-done : goal.returns-clause-done
returns-clause-done c =
    rewritten_done c.args.rules.now c.set_right.new.self c.args.place c.in_ok-right.right (rewritten c)

pub reduce_right-requires-clause-rule : goal.reduce_right-requires-clause-rule
reduce_right-requires-clause-rule c =
    rule_logged c.args.log.now c.args.rules.now c.args.place c.rule.result.now c.requires.logged c.requires.place
    c.rule.ensures.rule

pub returns-clause-logged : goal.returns-clause-logged
returns-clause-logged c =
    right_logged c.reduce_right.new.log c.args.rules.now c.set_right.new.self c.args.place c.rule.result.now c.in_ok-right.right
    (all_still_logged c.args.log.now c.reduce_right.new.log c.args.rules.now c.in_ok-right.ensures.grows c.requires.logged) c.requires.place
    c.rule.ensures.rule c.in_ok-right.ensures.logged c.set_right.ensures
