use Rattle.std.proofs.Common.{◌≡◌, ◌<◌, ℕ, false}
use Rattle.rewriting.specs.Rules.{stands_in}
use Rattle.rewriting.specs.Tries.{left_at}
use Rattle.rewriting.proofs.rule_lists.Rules.has_in_left.Given as goal

abbrev pub invariant-loop-place : goal.invariant-loop-place
invariant-loop-place l = (place : ℕ) → place < l.place → stands_in l.word (left_at l.self place) ≡ false
