use Rattle.std.proofs.Common.{◌≡◌, ◌<◌, length, take}
use Rattle.froidure_pin.specs.Numbering.{number_of}
use Rattle.froidure_pin.proofs.table.Table.index_of.Given as goal

-- the number of the letters so far
abbrev pub invariant-loop-place : goal.invariant-loop-place
invariant-loop-place g l = record {
  within : l.number < length l.self.elements;
  so_far : l.number ≡ number_of l.self (take l.place l.word);
}
