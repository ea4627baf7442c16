use Rattle.std.proofs.Common.{◌≡◌}
use Rattle.presentation.specs.Added.{identity_relations}
use Rattle.presentation.proofs.added.identity_relations.Given as goal

abbrev pub invariant-loop-number : goal.invariant-loop-number
invariant-loop-number l = l.pairs ≡ identity_relations l.number l.e
