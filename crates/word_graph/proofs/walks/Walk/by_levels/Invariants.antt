use Rattle.std.proofs.Common.{◌≡◌, ℕ, ◌-◌, ◌≤◌, length}
use Rattle.theory.specs.Graph.{IsGraph}
use Rattle.word_graph.specs.Levels.{IsLevelledBefore}
use Rattle.word_graph.proofs.walks.Walk.by_levels.Given as goal

abbrev pub invariant-loop-from : goal.invariant-loop-from
invariant-loop-from l =
    record {
      walk : (k : ℕ) → IsGraph k l.graph → IsLevelledBefore k l.graph l.walk.steps.items l.walk.places.items l.from;
      places : length l.walk.places.items ≡ length l.graph;
      within : l.from ≤ length l.walk.steps.items;
    }

abbrev pub decreases-loop-from : goal.decreases-loop-from
decreases-loop-from l = length l.graph - l.from
