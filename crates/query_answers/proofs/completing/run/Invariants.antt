use Rattle.std.proofs.Common.{◌≡◌}
use Rattle.query_answers.proofs.completing.run.Given as goal

abbrev pub decreases-loop : goal.decreases-loop
decreases-loop l = l.completion.left

abbrev pub invariant-loop : goal.invariant-loop
invariant-loop l = record {
  presentation : l.completion.presentation ≡ l.fn.completion.presentation;
  length : l.completion.length ≡ l.fn.completion.length;
  logged : l.completion.logged ≡ l.fn.completion.logged;
}
