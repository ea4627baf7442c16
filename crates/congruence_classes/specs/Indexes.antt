-- The number of classes, up to a bound.
use Rattle.std.specs.Prelude.{ℕ, ◌<◌, ◌≤◌}
use Rattle.theory.specs.Word.{Word}
use Rattle.theory.specs.Class.{HasIndex, IsInfinite}
use Rattle.congruence_classes.specs.declared.indexes.Index.{Index}
use Rattle.congruence_classes.specs.declared.indexes.Index.TheVariants.{Finite, Infinite, Over}

-- so many classes, which is at most the bound, infinitely many, or finitely many and more than the
-- bound
abbrev pub IsIndexWithin : (Word → Word → Type 0) → ℕ → Index → Type 0
IsIndexWithin R bound (Finite n) = HasIndex R n × (n ≤ bound)
IsIndexWithin R bound Infinite = IsInfinite R
IsIndexWithin R bound Over = (n : ℕ) × HasIndex R n × (bound < n)
