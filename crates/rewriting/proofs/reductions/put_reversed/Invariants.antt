use Rattle.std.proofs.Common.{◌≡◌, ◌++◌, drop, reverse}
use Rattle.rewriting.proofs.reductions.put_reversed.Given as goal

abbrev pub invariant-loop-place : goal.invariant-loop-place
invariant-loop-place l = l.rest.items ≡ l.initial.rest.items ++ reverse (drop l.place l.letters)
