use Rattle.std.proofs.Common.{◌≡◌, ℕ, ◌<◌, get_or}
use Rattle.theory.specs.Word.{Word}
use Rattle.sims_one.specs.Targets.{Agree}
use Rattle.sims_one.proofs.paths.agree_at.Given as goal

abbrev pub invariant-loop-i : goal.invariant-loop-i
invariant-loop-i l = (j : ℕ) (r s : Word) → j < l.i → get_or l.pairs j (r, s) ≡ (r, s) → Agree l.letters l.targets l.node r s
