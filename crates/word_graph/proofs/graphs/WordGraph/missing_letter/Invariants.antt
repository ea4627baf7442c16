use Rattle.std.proofs.Common.{◌≢◌, ℕ, ◌<◌, None}
use Rattle.theory.specs.Graph.{target}
use Rattle.word_graph.proofs.graphs.WordGraph.missing_letter.Given as goal

abbrev pub invariant-loop-number : goal.invariant-loop-number
invariant-loop-number l = (b : ℕ) → b < l.number → target l.self l.node b ≢ None
