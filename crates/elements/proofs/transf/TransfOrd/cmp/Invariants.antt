use Rattle.std.proofs.Common.{◌≡◌, drop}
use Rattle.std.specs.Ordering.{nat_cmp}
use Rattle.std.specs.Cmp.Lexicographic.{slice_cmp}
use Rattle.elements.proofs.transf.TransfOrd.cmp.Given as goal

-- the images so far are alike
abbrev pub invariant-loop-point : goal.invariant-loop-point
invariant-loop-point l = slice_cmp nat_cmp l.self l.other ≡ slice_cmp nat_cmp (drop l.point l.self) (drop l.point l.other)
