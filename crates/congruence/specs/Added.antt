-- Lanes that are put behind others.
use Rattle.std.specs.Prelude.{◌≡◌, List, [], ◌∷◌, ◌++◌, length}
use Rattle.race.specs.Lanes.{fresh}
use Rattle.race.specs.declared.lanes.Lane.{Lane}
use Rattle.congruence.specs.Engines.{EngineTask, task_of}
use Rattle.congruence.specs.declared.engine.Engine.{Engine}

-- a lane that has had no turn stands behind the others, with an engine for this task
pub record IsAdded (old new : List (Lane Engine)) (task : EngineTask) : Type 0 where
  pub engine : Engine
  pub task_is : task_of engine ≡ task
  pub added : new ≡ old ++ fresh (length old) engine ∷ []
