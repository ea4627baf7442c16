use Rattle.std.proofs.Common.{ℕ, ◌<◌, ◌≢◌, None}
use Rattle.theory.specs.Graph.{target, IsGraph}
use Rattle.word_graph.specs.Steps.{step_at}
use Rattle.word_graph.proofs.graphs.WordGraph.first_missing.Given as goal

abbrev pub invariant-loop-step : goal.invariant-loop-step
invariant-loop-step l = (k p b : ℕ) → IsGraph k l.self → p < l.step-index → b < k → target l.self (step_at l.step-items p).node b ≢ None
