use Rattle.std.proofs.Common.{map}
use Rattle.coincidence.proofs.UsesLaws.{AreUsesTo}
use Rattle.coincidence.proofs.uses.Uses.new.Given as goal

abbrev pub invariant-loop-number : goal.invariant-loop-number
invariant-loop-number l = AreUsesTo l.second l.pairs (map (λ v. v.items) l.letters.items) l.number
