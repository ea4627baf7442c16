use Rattle.std.proofs.Common.{take, Ok}
use Rattle.std.specs.List.{flat_map}
use Rattle.ports.specs.Writes.{WritesBytes}
use Rattle.report_lines.specs.Lines.{rule_line}
use Rattle.report_lines.proofs.listings.write_rules.Given as goal

abbrev pub invariant-loop-rule : goal.invariant-loop-rule
invariant-loop-rule g l = WritesBytes g.O.Sink (flat_map (rule_line l.alphabet) (take l.rule-index l.rule-items)) l.fn.sink l.sink (Ok (tt {0}))
