-- What a verdict says.
use Rattle.std.specs.Prelude.{◌≡◌, ℕ}
use Rattle.problem.specs.declared.budgets.Budgets.{Budgets}
use Rattle.problem.specs.declared.kinds.Problem.{Problem}
use Rattle.problem.specs.Problem.{IsDecided, IsUndecided}
use Rattle.race.specs.declared.playing.Outcome.TheVariants.{Won, AllSpent}
use Rattle.congruence.specs.Engines.{IsEndOf}
use Rattle.congruence.specs.declared.solving.Verdict.{Verdict}
use Rattle.congruence.specs.declared.solving.Verdict.TheVariants.{Known, Undecided}

-- a known verdict is of the problem, which some engine decides within its budget, and keeps the
-- lanes of a race that one of them won; else each is spent
abbrev pub IsVerdictOf : Problem → Budgets → Verdict → Type 0
IsVerdictOf p b (Known solved) =
    IsDecided p b × (solved.problem ≡ p)
    × ((winner : ℕ) × IsEndOf p b (Won winner) solved.lanes)
IsVerdictOf p b (Undecided lanes) = IsUndecided p b × IsEndOf p b AllSpent lanes
