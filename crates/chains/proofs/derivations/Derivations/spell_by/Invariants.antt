use Rattle.chains.specs.Derivations.{weight_of}
use Rattle.chains.proofs.SpellLaws.{IsSpelled}
use Rattle.chains.proofs.derivations.Derivations.spell_by.Given as goal

abbrev pub invariant-loop-pending : goal.invariant-loop-pending
invariant-loop-pending l = IsSpelled l.self l.from l.steps l.pending.items l.walk

abbrev pub decreases-loop-pending : goal.decreases-loop-pending
decreases-loop-pending l = weight_of l.self l.pending.items
