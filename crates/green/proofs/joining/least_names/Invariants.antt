use Rattle.green.proofs.JoinLaws.{AreLeastBefore}
use Rattle.green.proofs.joining.least_names.Given as goal

abbrev pub invariant-loop-number : goal.invariant-loop-number
invariant-loop-number l = AreLeastBefore l.first l.second l.number l.least.items
