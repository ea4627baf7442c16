use Rattle.std.proofs.Common.{◌≡◌, take, codes}
use Rattle.std.specs.List.{join_by}
use Rattle.elements.specs.BMat.{bit_text}
use Rattle.elements.proofs.bmat.print_bits.Given as goal

-- the entries so far
abbrev pub invariant-loop-i : goal.invariant-loop-i
invariant-loop-i l = l.text.items ≡ join_by bit_text (codes " ") (take l.i l.entries)
