use Rattle.std.proofs.Common.{◌≡◌, ◌<◌, length, take}
use Rattle.cayley.specs.Tables.{number_in}
use Rattle.cayley.proofs.sides.number_of.Given as goal

-- the number of the letters so far
abbrev pub invariant-loop-place : goal.invariant-loop-place
invariant-loop-place l = record {
  within : l.number < length l.tables.words;
  so_far : l.number ≡ number_in l.tables (take l.place l.word);
}
