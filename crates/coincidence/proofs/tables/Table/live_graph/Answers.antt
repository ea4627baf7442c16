use Rattle.std.proofs.Common.{sym, subst}
use Rattle.theory.specs.Facts.{AllDefined}
use Rattle.theory.specs.Graph.{Graph, SameEnd, IsGraph, Shows}
use Rattle.word_graph.specs.Standard.{IsStandardGraph}
use Rattle.coincidence.specs.Table.{CosetTable}
use Rattle.coincidence.proofs.HeldLaws.{seen}
use Rattle.coincidence.proofs.tables.Table.live_graph.Goals as goal

pub returns-clause-shows : goal.returns-clause-shows
returns-clause-shows c =
    subst (λ (t : CosetTable). Shows c.in_ok-standard.standard (SameEnd t.graph)) (seen c.self.inside.congruence.congruence c.self.inside.cosets c.self.inside.failed c.args.self.now c.if-self.false c.self.view_is)
    (subst (λ (g : Graph). Shows c.in_ok-standard.standard (SameEnd g)) c.in_ok-graph.ensures c.in_ok-standard.ensures.shows)

pub returns-clause-graph : goal.returns-clause-graph
returns-clause-graph c =
    subst (λ (t : CosetTable). IsGraph t.congruence.presentation.letters c.in_ok-standard.standard) c.self.view_is
    (c.in_ok-standard.ensures.graph c.self.inside.congruence.congruence.presentation.letters (subst (λ (g : Graph). IsGraph c.self.inside.congruence.congruence.presentation.letters g) (sym c.in_ok-graph.ensures) (c.self.invariant.whole c.if-self.false).graph))

pub returns-clause-standard : goal.returns-clause-standard
returns-clause-standard c =
    subst (λ (t : CosetTable). AllDefined t.congruence.presentation.letters (SameEnd t.graph) → IsStandardGraph t.congruence.presentation.letters c.in_ok-standard.standard) (seen c.self.inside.congruence.congruence c.self.inside.cosets c.self.inside.failed c.args.self.now c.if-self.false c.self.view_is)
    (subst (λ (g : Graph). AllDefined c.self.inside.congruence.congruence.presentation.letters (SameEnd g) → IsStandardGraph c.self.inside.congruence.congruence.presentation.letters c.in_ok-standard.standard) c.in_ok-graph.ensures
    (c.in_ok-standard.ensures.standard c.self.inside.congruence.congruence.presentation.letters (subst (λ (g : Graph). IsGraph c.self.inside.congruence.congruence.presentation.letters g) (sym c.in_ok-graph.ensures) (c.self.invariant.whole c.if-self.false).graph)))
