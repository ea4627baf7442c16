use Rattle.std.proofs.Common.{◌≡◌, take, codes}
use Rattle.std.specs.List.{join_by}
use Rattle.std.specs.Fmt.{decimal}
use Rattle.elements.proofs.transf.Transf.print.Given as goal

-- the images so far
abbrev pub invariant-loop-point : goal.invariant-loop-point
invariant-loop-point l = l.text.items ≡ join_by decimal (codes " ") (take l.point l.self)
