use Rattle.green.proofs.PairLaws.{AreNumbered}
use Rattle.green.proofs.pairing.names_of_pairs.Given as goal

abbrev pub invariant-loop-number : goal.invariant-loop-number
invariant-loop-number l = AreNumbered l.first l.second l.number l.pairs.keys l.names.items
