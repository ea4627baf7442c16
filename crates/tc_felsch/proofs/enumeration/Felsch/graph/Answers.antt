use Rattle.std.proofs.Common.{◌≡◌, ◌≢◌, ◌≤◌, suc, length, arith, subst, sym, ◌∙◌, ap}
use Rattle.race.specs.declared.engines.Progress.{Progress}
use Rattle.race.specs.declared.engines.Progress.TheVariants.{Decided, More, NoMemory}
use Rattle.theory.specs.Facts.{AllDefined}
use Rattle.theory.specs.Graph.{SameEnd, Shows, IsGraph}
use Rattle.theory.specs.Felsch.{FelschFacts, FelschStage}
use Rattle.word_graph.specs.Standard.{IsStandardGraph}
use Rattle.coset_enumeration.specs.Enumeration.{EnumerationRun}
use Rattle.coset_enumeration.proofs.TurnLaws.{same_stage}
use Rattle.tc_felsch.specs.Stage.{IsAtStage}
use Rattle.word_graph.proofs.NodeCounts.{no_more_nodes}
use Rattle.tc_felsch.proofs.TurnLaws.{same_defined}
use Rattle.tc_felsch.proofs.enumeration.Felsch.graph.Goals as goal

different : (p : Progress) → p ≡ Decided → p ≢ NoMemory
different p e d = let bad : Decided ≡ NoMemory = sym e ∙ d in let no : ⊥ = cc in no

not_more : (p : Progress) → p ≡ Decided → p ≢ More
not_more p e d = let bad : Decided ≡ More = sym e ∙ d in let no : ⊥ = cc in no

pub returns-clause-standard : goal.returns-clause-standard
returns-clause-standard c =
    let said : c.self.inside.said ≡ Decided = ap (λ (f : EnumerationRun). f.said) c.self.view_is ∙ c.requires in
    subst (λ (f : EnumerationRun). IsStandardGraph f.congruence.presentation.letters c.in_ok-graph.graph) c.self.view_is
    (c.in_ok-graph.ensures.standard (c.self.invariant.told.found said))

pub returns-clause-shows : goal.returns-clause-shows
returns-clause-shows c =
    subst (λ (f : EnumerationRun). Shows c.in_ok-graph.graph (SameEnd f.graph)) c.self.view_is c.in_ok-graph.ensures.shows

pub returns-clause-stage : goal.returns-clause-stage
returns-clause-stage c =
    let said : c.self.inside.said ≡ Decided = ap (λ (f : EnumerationRun). f.said) c.self.view_is ∙ c.requires in
    subst (λ (f : EnumerationRun). IsAtStage f.congruence f.made c.in_ok-graph.graph) c.self.view_is
    (same_stage (FelschStage c.self.inside.table.congruence c.self.inside.made) (FelschFacts c.self.inside.table.congruence) c.self.inside.table.graph c.in_ok-graph.graph c.in_ok-graph.ensures.shows.paths
    (c.self.invariant.told.stage (different c.self.inside.said said) (c.self.invariant.told.ended (not_more c.self.inside.said said))))

pub returns-clause-nodes : goal.returns-clause-nodes
returns-clause-nodes c =
    let said : c.self.inside.said ≡ Decided = ap (λ (f : EnumerationRun). f.said) c.self.view_is ∙ c.requires in
    let few = no_more_nodes c.self.inside.table.congruence.presentation.letters c.in_ok-graph.graph c.self.inside.table.graph c.self.invariant.table.graph c.in_ok-graph.ensures.shows in
    let most = c.self.invariant.nodes (different c.self.inside.said said) in
    subst (λ (f : EnumerationRun). length c.in_ok-graph.graph ≤ suc f.made) c.self.view_is (omega (arith, few, most))

pub returns-clause-graph : goal.returns-clause-graph
returns-clause-graph c =
    subst (λ (f : EnumerationRun). IsGraph f.congruence.presentation.letters c.in_ok-graph.graph) c.self.view_is c.in_ok-graph.ensures.graph

pub returns-clause-complete : goal.returns-clause-complete
returns-clause-complete c =
    let said : c.self.inside.said ≡ Decided = ap (λ (f : EnumerationRun). f.said) c.self.view_is ∙ c.requires in
    subst (λ (f : EnumerationRun). AllDefined f.congruence.presentation.letters (SameEnd c.in_ok-graph.graph)) c.self.view_is
    (same_defined c.self.inside.table.congruence.presentation.letters c.self.inside.table.graph c.in_ok-graph.graph c.in_ok-graph.ensures.shows.paths (c.self.invariant.told.found said))
