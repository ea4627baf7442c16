-- What is known of a problem that was decided.
use Rattle.std.specs.Prelude.{List}
use Rattle.problem.specs.declared.kinds.Problem.{Problem}
use Rattle.race.specs.declared.lanes.Lane.{Lane}
use Rattle.congruence.specs.declared.engine.Engine.{Engine}

-- the problem, and the lanes that raced for it
pub record Solution : Type 0 where
  pub problem : Problem
  pub lanes : List (Lane Engine)
