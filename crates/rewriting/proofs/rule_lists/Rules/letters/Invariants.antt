use Rattle.std.proofs.Common.{◌≤◌, take}
use Rattle.rewriting.specs.Rules.{AreOver}
use Rattle.rewriting.proofs.rule_lists.Rules.letters.Given as goal

abbrev pub invariant-loop-rule : goal.invariant-loop-rule
invariant-loop-rule l = record {
  few : l.letters ≤ 256;
  over : AreOver l.letters (take l.rule-index l.self);
}
