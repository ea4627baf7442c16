use Rattle.std.proofs.Common.{ℕ, ◌<◌, Contains}
use Rattle.theory.specs.Word.{Word}
use Rattle.sims_one.specs.Targets.{Agree}
use Rattle.sims_one.proofs.paths.is_sound.Given as goal

abbrev pub invariant-loop-node : goal.invariant-loop-node
invariant-loop-node l = (node : ℕ) (r s : Word) → node < l.node → Contains l.presentation.presentation.relations (r, s) → Agree l.letters l.targets node r s
