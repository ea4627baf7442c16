use Rattle.std.proofs.Common.{◌≡◌, take, codes}
use Rattle.std.specs.List.{join_by}
use Rattle.elements.specs.Fields.{decimal_or_dash}
use Rattle.elements.proofs.entries.print_optional.Given as goal

-- the entries so far
abbrev pub invariant-loop-i : goal.invariant-loop-i
invariant-loop-i l = l.text.items ≡ join_by decimal_or_dash (codes " ") (take l.i l.entries)
