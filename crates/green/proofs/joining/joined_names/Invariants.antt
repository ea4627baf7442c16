use Rattle.green.proofs.JoinLaws.{AreReadBefore}
use Rattle.green.proofs.joining.joined_names.Given as goal

abbrev pub invariant-loop-name : goal.invariant-loop-name
invariant-loop-name l = AreReadBefore l.second l.least.items l.name-index l.names.items
