use Rattle.std.proofs.Common.{ℕ, ◌<◌, ◌≤◌, length}
use Rattle.rewriting.specs.Tries.{IsLeftLengthTo, left_at}
use Rattle.rewriting.proofs.rule_lists.Rules.longest_left.Given as goal

abbrev pub invariant-loop-place : goal.invariant-loop-place
invariant-loop-place l = record {
  most : (n : ℕ) → n < l.place → length (left_at l.self n) ≤ l.longest;
  reached : IsLeftLengthTo l.self l.place l.longest;
}
