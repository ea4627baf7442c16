use Rattle.std.proofs.Common.{◌≡◌, length, take, All}
use Rattle.congruence_closure.specs.Maps.{AreIn}
use Rattle.cayley.specs.Sides.{numbers_of}
use Rattle.cayley.proofs.sides.numbered.Given as goal

abbrev pub invariant-loop-place : goal.invariant-loop-place
invariant-loop-place l = record {
  numbers : l.waiting.items ≡ numbers_of l.tables (take l.place l.pairs);
  within : All (AreIn (length l.tables.words)) l.waiting.items;
}
