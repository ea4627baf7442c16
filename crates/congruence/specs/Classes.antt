-- How the classes of a problem are known.
use Rattle.problem.specs.declared.kinds.Problem.{Problem}
use Rattle.problem.specs.declared.kinds.Problem.TheVariants.{Presented}
use Rattle.congruence.specs.declared.answers.Classes.{Classes}
use Rattle.congruence.specs.declared.answers.Classes.TheVariants.{Cosets, Reduced, Elements}

-- the problem whose classes they are
abbrev pub problem_of : Classes → Problem
problem_of (Cosets p) = p
problem_of (Reduced c) = Presented c
problem_of (Elements p) = p
