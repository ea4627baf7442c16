use Rattle.std.proofs.Common.{◌≤◌, take}
use Rattle.theory.specs.Word.{IsOver}
use Rattle.rewriting.proofs.rule_lists.letters_in.Given as goal

abbrev pub invariant-loop-place : goal.invariant-loop-place
invariant-loop-place l = record {
  few : l.letters ≤ 256;
  least : l.fn.most ≤ l.letters;
  over : IsOver l.letters (take l.place l.word);
}
