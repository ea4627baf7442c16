use Rattle.std.proofs.Common.{◌≡◌, ℕ, ◌<◌, ◌≤◌, length}
use Rattle.theory.specs.Graph.{IsGraph}
use Rattle.word_graph.specs.Levels.{frontier_at, IsLevelledTo}
use Rattle.word_graph.proofs.walks.Walk.follow_letter.Given as goal

abbrev pub invariant-loop-place : goal.invariant-loop-place
invariant-loop-place l =
    record {
      walk : (k : ℕ) → IsGraph k l.graph → l.letter < k → IsLevelledTo k l.graph l.initial.self.steps.items l.initial.self.places.items (frontier_at l.from l.to l.letter l.from)
          → IsLevelledTo k l.graph l.self.steps.items l.self.places.items (frontier_at l.from l.to l.letter l.place);
      steps : length l.initial.self.steps.items ≤ length l.self.steps.items;
      places : length l.self.places.items ≡ length l.initial.self.places.items;
    }
