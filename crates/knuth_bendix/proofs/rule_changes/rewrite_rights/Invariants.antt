use Rattle.knuth_bendix.specs.Overlaps.{rule_at}
use Rattle.knuth_bendix.specs.Logs.{AreLogged, Grows}
use Rattle.knuth_bendix.proofs.RuleChanges.{AreRewritten}
use Rattle.knuth_bendix.proofs.rule_changes.rewrite_rights.Given as goal

abbrev pub invariant-loop-place : goal.invariant-loop-place
invariant-loop-place l = record {
  rewritten : AreRewritten (rule_at l.fn.rules l.newest).0 l.fn.rules l.rules l.place;
  grows : Grows l.fn.log l.log;
  logged : AreLogged l.log l.rules;
}
