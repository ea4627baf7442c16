use Rattle.std.proofs.Common.{map}
use Rattle.coincidence.proofs.StartLaws.{AreStartsTo}
use Rattle.coincidence.proofs.starts.Starts.new.Given as goal

abbrev pub invariant-loop-number : goal.invariant-loop-number
invariant-loop-number l = AreStartsTo l.pairs (map (λ v. v.items) l.lists.items) l.number
