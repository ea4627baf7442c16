use Rattle.std.proofs.Common.{Bool, List, subst, arith}
use Rattle.theory.specs.Graph.{IsGraph}
use Rattle.reduced_automaton.specs.Paths.{narrowed}
use Rattle.rewriting.specs.Tables.{Moves, edges}
use Rattle.reduced_automaton.specs.declared.frames.Frame.{Frame}
use Rattle.reduced_automaton.proofs.MarkLaws.{narrowed_graph}
use Rattle.reduced_automaton.proofs.paths.FramePathsKnownPaths.letters.Goals as goal

pub returns-clause-graph : goal.returns-clause-graph
returns-clause-graph c =
    let P : Moves × Frame × List (List Bool) → Type 0 = λ v. IsGraph v.1.letters (narrowed v.1.letters (edges v.0)) in
    subst P c.self.view_is
    (narrowed_graph c.self.inside.frame.now.letters (edges c.self.inside.graph.now) c.letters-letters.result
    (omega (arith, c.self.invariant.0, c.letters-letters.ensures.letters)) c.letters-letters.ensures.graph)
