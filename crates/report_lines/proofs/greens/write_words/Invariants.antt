use Rattle.std.proofs.Common.{[], take, Ok, slice_index_or}
use Rattle.std.specs.List.{flat_map}
use Rattle.ports.specs.Writes.{WritesBytes}
use Rattle.problem.specs.Problem.{letters_of}
use Rattle.report_lines.specs.Lines.{word_line}
use Rattle.report_lines.proofs.greens.write_words.Given as goal

abbrev pub invariant-loop-number : goal.invariant-loop-number
invariant-loop-number g l =
    WritesBytes g.O.Sink (flat_map (λ i. word_line (letters_of l.problem) (slice_index_or l.tables.words i [])) (take l.number-index l.numbers)) l.fn.sink l.sink (Ok (tt {0}))
