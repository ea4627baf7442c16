use Rattle.std.proofs.Common.{◌≡◌}
use Rattle.presentation.specs.Added.{zero_relations}
use Rattle.presentation.proofs.added.zero_relations.Given as goal

abbrev pub invariant-loop-number : goal.invariant-loop-number
invariant-loop-number l = l.pairs ≡ zero_relations l.number l.z
