use Rattle.std.proofs.Common.{◌≡◌, ℕ, ◌<◌, length}
use Rattle.word_graph.specs.Steps.{IsWalkedTo}
use Rattle.word_graph.specs.TwoSided.{AreImagesTo}
use Rattle.word_graph.proofs.walks.Walk.images.Given as goal

abbrev pub invariant-loop-place : goal.invariant-loop-place
invariant-loop-place l =
    record {
      images : (k : ℕ) (walk : IsWalkedTo k l.graph l.self.steps.items l.self.places.items (length l.self.steps.items) 0)
          → AreImagesTo l.graph l.self.steps.items walk.word l.fn.first l.images.items l.place;
      shape : length l.images.items ≡ length l.graph;
      begun : 0 < l.place;
    }
