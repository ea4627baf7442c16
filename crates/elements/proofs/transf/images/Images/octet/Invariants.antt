use Rattle.std.proofs.Common.{◌≡◌, ◌*◌, ◌%◌, ◌^◌, fold}
use Rattle.std.specs.Prelude.{bit_or}
use Rattle.std.specs.List.{between}
use Rattle.elements.proofs.transf.images.Images.octet.Given as goal

-- the images so far
abbrev pub invariant-loop-point : goal.invariant-loop-point
invariant-loop-point l = l.number ≡ fold (λ n y. bit_or (n * 2 ^ 8 % 2 ^ 64) y) 0 (between l.start l.point l.self)
