use Rattle.std.proofs.Common.{◌≡◌, ◌≤◌, ◌++◌, length}
use Rattle.theory.specs.Word.{Word}
use Rattle.rewriting.proofs.factors.has_factor.Given as goal

abbrev pub invariant-loop-place : goal.invariant-loop-place
invariant-loop-place l = (x y : Word) → l.word ≡ x ++ (l.factor ++ y) → l.place ≤ length x
