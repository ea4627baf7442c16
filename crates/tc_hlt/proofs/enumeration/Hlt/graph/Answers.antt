use Rattle.std.proofs.Common.{◌≡◌, subst, ◌∙◌, ap}
use Rattle.race.specs.declared.engines.Progress.TheVariants.{Decided}
use Rattle.theory.specs.Facts.{AllDefined}
use Rattle.theory.specs.Graph.{SameEnd, Shows, IsGraph}
use Rattle.word_graph.specs.Standard.{IsStandardGraph}
use Rattle.coset_enumeration.specs.Enumeration.{EnumerationRun}
use Rattle.coset_enumeration.proofs.TurnLaws.{same_stage}
use Rattle.tc_hlt.specs.Stage.{IsAtEnd}
use Rattle.tc_hlt.proofs.TurnLaws.{end_defines}
use Rattle.tc_hlt.proofs.enumeration.Hlt.graph.Goals as goal

pub returns-clause-standard : goal.returns-clause-standard
returns-clause-standard c =
    let said : c.self.inside.said ≡ Decided = ap (λ (f : EnumerationRun). f.said) c.self.view_is ∙ c.requires in
    subst (λ (f : EnumerationRun). IsStandardGraph f.congruence.presentation.letters c.in_ok-graph.graph) c.self.view_is
    (c.in_ok-graph.ensures.standard (end_defines c.self.inside.table.congruence c.self.inside.made c.self.inside.table.graph (c.self.invariant.told.found said)))

pub returns-clause-shows : goal.returns-clause-shows
returns-clause-shows c =
    subst (λ (f : EnumerationRun). Shows c.in_ok-graph.graph (SameEnd f.graph)) c.self.view_is c.in_ok-graph.ensures.shows

pub returns-clause-end : goal.returns-clause-end
returns-clause-end c =
    let said : c.self.inside.said ≡ Decided = ap (λ (f : EnumerationRun). f.said) c.self.view_is ∙ c.requires in
    subst (λ (f : EnumerationRun). IsAtEnd f.congruence f.made c.in_ok-graph.graph) c.self.view_is
    (same_stage _ _ c.self.inside.table.graph c.in_ok-graph.graph c.in_ok-graph.ensures.shows.paths (c.self.invariant.told.found said))

pub returns-clause-graph : goal.returns-clause-graph
returns-clause-graph c =
    subst (λ (f : EnumerationRun). IsGraph f.congruence.presentation.letters c.in_ok-graph.graph) c.self.view_is c.in_ok-graph.ensures.graph

pub returns-clause-complete : goal.returns-clause-complete
returns-clause-complete c =
    let said : c.self.inside.said ≡ Decided = ap (λ (f : EnumerationRun). f.said) c.self.view_is ∙ c.requires in
    subst (λ (f : EnumerationRun). AllDefined f.congruence.presentation.letters (SameEnd c.in_ok-graph.graph)) c.self.view_is
    (end_defines c.self.inside.table.congruence c.self.inside.made c.in_ok-graph.graph
    (same_stage _ _ c.self.inside.table.graph c.in_ok-graph.graph c.in_ok-graph.ensures.shows.paths (c.self.invariant.told.found said)))
