use Rattle.std.proofs.Common.{arith}
use Rattle.knuth_bendix.specs.Overlaps.{rule_at}
use Rattle.knuth_bendix.proofs.LogLaws.{grows_after, grows_none}
use Rattle.knuth_bendix.proofs.RuleChanges.{rewritten_start, rewritten_length, rewritten_step, rewritten_end}
use Rattle.knuth_bendix.proofs.rule_changes.rewrite_rights.Goals as goal

pub loop-place-init : goal.loop-place-init
loop-place-init c = record {
  rewritten = rewritten_start (rule_at c.args.rules.now c.args.newest).0 c.args.rules.now;
  grows = grows_none c.args.log.now;
  logged = c.requires.logged;
}

pub rewrite_right-requires-clause-place : goal.rewrite_right-requires-clause-place
rewrite_right-requires-clause-place c =
    omega (arith, rewritten_length (rule_at c.args.rules.now c.args.newest).0 c.args.rules.now c.loop-place.rules c.loop-place.place c.loop-place.invariant.rewritten)

pub rewrite_right-requires-clause-newest : goal.rewrite_right-requires-clause-newest
rewrite_right-requires-clause-newest c =
    omega (arith, rewritten_length (rule_at c.args.rules.now c.args.newest).0 c.args.rules.now c.loop-place.rules c.loop-place.place c.loop-place.invariant.rewritten)

pub loop-place-preserved : goal.loop-place-preserved
loop-place-preserved c = record {
  grows = grows_after c.args.log.now c.loop-place.log c.rewrite_right.new.log c.loop-place.invariant.grows c.in_ok-rewrite_right.ensures.grows;
  logged = c.in_ok-rewrite_right.ensures.logged;
  rewritten =
      rewritten_step c.args.rules.now c.loop-place.rules c.rewrite_right.new.rules c.args.newest c.loop-place.place c.requires.newest (omega arith)
      c.loop-place.invariant.rewritten c.in_ok-rewrite_right.ensures.rewrites c.in_ok-rewrite_right.ensures.others c.in_ok-rewrite_right.ensures.done;
}

pub returns-clause-rewrites : goal.returns-clause-rewrites
returns-clause-rewrites c =
    (rewritten_end (rule_at c.args.rules.now c.args.newest).0 c.args.rules.now c.loop-place.rules c.loop-place.place (omega arith) (omega arith)
    c.loop-place.invariant.rewritten).0

pub returns-clause-done : goal.returns-clause-done
returns-clause-done c =
    (rewritten_end (rule_at c.args.rules.now c.args.newest).0 c.args.rules.now c.loop-place.rules c.loop-place.place (omega arith) (omega arith)
    c.loop-place.invariant.rewritten).1
