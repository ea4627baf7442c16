use Rattle.std.proofs.Common.{◌≡◌, ℕ, ◌-◌, ◌≤◌, length}
use Rattle.theory.specs.Graph.{IsGraph}
use Rattle.word_graph.specs.Steps.{IsWalkedTo}
use Rattle.word_graph.proofs.walks.Walk.over.Given as goal

abbrev pub invariant-loop-place : goal.invariant-loop-place
invariant-loop-place l =
    record {
      walk : (k : ℕ) → IsGraph k l.graph → IsWalkedTo k l.graph l.walk.steps.items l.walk.places.items l.place 0;
      places : length l.walk.places.items ≡ length l.graph;
      within : l.place ≤ length l.walk.steps.items;
    }

abbrev pub decreases-loop-place : goal.decreases-loop-place
decreases-loop-place l = length l.graph - l.place
