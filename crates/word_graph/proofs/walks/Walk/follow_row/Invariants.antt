use Rattle.std.proofs.Common.{◌≡◌, ℕ, ◌≤◌, length}
use Rattle.theory.specs.Graph.{IsGraph}
use Rattle.word_graph.specs.Steps.{IsWalkedTo}
use Rattle.word_graph.proofs.walks.Walk.follow_row.Given as goal

abbrev pub invariant-loop-number : goal.invariant-loop-number
invariant-loop-number l =
    record {
      walk : (k : ℕ) → IsGraph k l.graph → IsWalkedTo k l.graph l.initial.self.steps.items l.initial.self.places.items l.place 0 → IsWalkedTo k l.graph l.self.steps.items l.self.places.items l.place l.number;
      steps : length l.initial.self.steps.items ≤ length l.self.steps.items;
      places : length l.self.places.items ≡ length l.initial.self.places.items;
    }
