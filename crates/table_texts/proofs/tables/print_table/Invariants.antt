use Rattle.std.proofs.Common.{◌≡◌, take}
use Rattle.table_texts.specs.TableText.{table_text}
use Rattle.table_texts.proofs.tables.print_table.Given as goal

abbrev pub invariant-loop-node : goal.invariant-loop-node
invariant-loop-node l = l.text.items ≡ table_text (take l.node l.graph)
