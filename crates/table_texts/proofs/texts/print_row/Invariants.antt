use Rattle.std.proofs.Common.{◌≡◌, take, codes}
use Rattle.std.specs.List.{join_by}
use Rattle.table_texts.specs.TableText.{target_text}
use Rattle.table_texts.proofs.texts.print_row.Given as goal

-- the entries so far
abbrev pub invariant-loop-i : goal.invariant-loop-i
invariant-loop-i l = l.text.items ≡ join_by target_text (codes ",") (take l.i l.entries)
