use Rattle.std.proofs.Common.{take, Ok}
use Rattle.std.specs.List.{flat_map}
use Rattle.ports.specs.Writes.{WritesBytes}
use Rattle.report_lines.specs.Lines.{word_line}
use Rattle.report_lines.proofs.listings.write_words.Given as goal

abbrev pub invariant-loop-word : goal.invariant-loop-word
invariant-loop-word g l = WritesBytes g.O.Sink (flat_map (word_line l.alphabet) (take l.word-index l.word-items)) l.fn.sink l.sink (Ok (tt {0}))
