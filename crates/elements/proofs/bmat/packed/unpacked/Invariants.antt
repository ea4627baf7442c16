use Rattle.std.proofs.Common.{◌≡◌, ◌-◌, ◌++◌}
use Rattle.elements.specs.Bits.{bits}
use Rattle.elements.proofs.bmat.packed.unpacked.Given as goal

-- the digits so far, and those that follow
abbrev pub invariant-loop-i : goal.invariant-loop-i
invariant-loop-i l = l.entries.items ++ bits (l.count - l.i) l.x ≡ bits l.count l.x
