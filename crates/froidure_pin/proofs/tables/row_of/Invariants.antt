use Rattle.froidure_pin.specs.Found.{entry}
use Rattle.froidure_pin.specs.Numbering.{IsRowBy}
use Rattle.froidure_pin.proofs.tables.row_of.Given as goal

abbrev pub invariant-loop-letter : goal.invariant-loop-letter
invariant-loop-letter l = IsRowBy l.letter (entry l.letters l.numbers.items l.parent) l.row.items
