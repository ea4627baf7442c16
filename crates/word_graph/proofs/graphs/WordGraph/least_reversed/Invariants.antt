use Rattle.word_graph.specs.Steps.{words_of}
use Rattle.word_graph.proofs.LevelSteps.{IsTurnedTo}
use Rattle.word_graph.proofs.graphs.WordGraph.least_reversed.Given as goal

abbrev pub invariant-loop-node : goal.invariant-loop-node
invariant-loop-node l = IsTurnedTo l.walk.places.items (words_of l.walk.steps.items) l.least.items l.node
