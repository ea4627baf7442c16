use Rattle.std.proofs.Common.{◌≡◌, ℕ, ◌≤◌, length}
use Rattle.theory.specs.Graph.{IsGraph}
use Rattle.word_graph.specs.Levels.{frontier_at, IsLevelledTo, IsLevelledBefore}
use Rattle.word_graph.proofs.walks.Walk.follow_level.Given as goal

abbrev pub invariant-loop-number : goal.invariant-loop-number
invariant-loop-number l =
    record {
      walk : (k : ℕ) → IsGraph k l.graph → IsLevelledBefore k l.graph l.initial.self.steps.items l.initial.self.places.items l.from
          → IsLevelledTo k l.graph l.self.steps.items l.self.places.items (frontier_at l.from l.to l.number l.from);
      steps : length l.initial.self.steps.items ≤ length l.self.steps.items;
      places : length l.self.places.items ≡ length l.initial.self.places.items;
    }
