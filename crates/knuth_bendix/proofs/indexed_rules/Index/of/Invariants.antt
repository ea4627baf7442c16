use Rattle.std.proofs.Common.{take}
use Rattle.knuth_bendix.specs.Marks.{IsIndexOf}
use Rattle.knuth_bendix.proofs.indexed_rules.Index.of.Given as goal

abbrev pub invariant-loop-place : goal.invariant-loop-place
invariant-loop-place l = IsIndexOf (take l.place l.rules) l.index
