-- The graphs that the strategies of coset enumeration end with decide the problem whose task they have.
use Rattle.std.proofs.Common.{◌≡◌, ◌↔◌, ℕ, sym, subst}
use Rattle.theory.specs.Word.{Word, IsOver}
use Rattle.theory.specs.Congruence.{Congruence, IsWellFormed, IsRightSided, as_right}
use Rattle.theory.specs.Chain.{Related}
use Rattle.theory.specs.Facts.{AllDefined}
use Rattle.theory.specs.Graph.{Graph, SameEnd, Shows, IsGraph}
use Rattle.theory.proofs.FelschLaws.{felsch_related}
use Rattle.theory.proofs.HltLaws.{hlt_related}
use Rattle.theory.proofs.KindLaws.{as_right_sided, as_right_well_formed}
use Rattle.presentation.specs.Presented.{Posed}
use Rattle.problem.specs.declared.kinds.Problem.{Problem}
use Rattle.problem.specs.declared.kinds.Problem.TheVariants.{Presented, Transf, PPerm, BMat, MaxPlus}
use Rattle.problem.specs.Problem.{IsWellPosed}
use Rattle.word_graph.specs.Standard.{IsStandardGraph}
use Rattle.coset_enumeration.specs.Enumeration.{EnumerationTask}
use Rattle.tc_felsch.specs.Stage as felsch
use Rattle.tc_hlt.specs.Stage as hlt
use Rattle.congruence_classes.specs.ClassLists.{IsStandardGraphFor}
use Rattle.congruence_classes.proofs.GraphLaws.{IsRightGraph, graph_for}
use Rattle.congruence.specs.Engines.{Definitions, Rows, IsTaskFor}

-- the strategies' graphs for the right congruence that stands for a congruence
module _ (p : Posed) (k : Congruence) (well : IsWellFormed p.congruence) (task : k ≡ as_right p.congruence) (made : ℕ) (g h : Graph)
    (standard : IsStandardGraph k.presentation.letters g) (shows : Shows g (SameEnd h)) (graph : IsGraph k.presentation.letters g) where
  is_well_formed : IsWellFormed k
  is_well_formed = subst IsWellFormed (sym task) (as_right_well_formed p.congruence well)

  is_right_sided : IsRightSided k
  is_right_sided = subst IsRightSided (sym task) (as_right_sided p.congruence)

  by_right_graph : ((u v : Word) → IsOver k.presentation.letters u → Related k u v ↔ SameEnd g u v) → IsStandardGraphFor (Presented p) g
  by_right_graph decides =
      graph_for p g well
      (subst (λ r. IsRightGraph r g) task
      (record { graph = graph; reached = shows.reached; standard = standard; decides = decides }))

  by_definitions : felsch.IsAtStage k made g → AllDefined k.presentation.letters (SameEnd g) → IsStandardGraphFor (Presented p) g
  by_definitions at all = by_right_graph (λ u v over.
      let facts = felsch_related k at.words is_well_formed is_right_sided (λ w o. (at.shows w w).0 (all w o)) u v over in
      (λ r. (at.shows u v).1 (facts.1 r), λ e. facts.0 ((at.shows u v).0 e)))

  by_rows : hlt.IsAtEnd k made g → IsStandardGraphFor (Presented p) g
  by_rows at = by_right_graph (λ u v over.
      let facts = hlt_related k at.words is_well_formed is_right_sided at.stage.1 u v over in
      (λ r. (at.shows u v).1 (facts.1 r), λ e. facts.0 ((at.shows u v).0 e)))

-- and for a problem whose task they have
pub definitions_graph : (p : Problem) (t : EnumerationTask) (made : ℕ) (g h : Graph) → IsWellPosed p → IsTaskFor p (Definitions t)
    → IsStandardGraph t.congruence.presentation.letters g → Shows g (SameEnd h) → IsGraph t.congruence.presentation.letters g
    → felsch.IsAtStage t.congruence made g → AllDefined t.congruence.presentation.letters (SameEnd g) → IsStandardGraphFor p g
definitions_graph (Presented p) t made g h posed task standard shows graph at all = by_definitions p t.congruence posed.well_formed task made g h standard shows graph at all
definitions_graph (Transf p) t made g h posed task standard shows graph at all = absurd task
definitions_graph (PPerm p) t made g h posed task standard shows graph at all = absurd task
definitions_graph (BMat p) t made g h posed task standard shows graph at all = absurd task
definitions_graph (MaxPlus p) t made g h posed task standard shows graph at all = absurd task

pub rows_graph : (p : Problem) (t : EnumerationTask) (made : ℕ) (g h : Graph) → IsWellPosed p → IsTaskFor p (Rows t)
    → IsStandardGraph t.congruence.presentation.letters g → Shows g (SameEnd h) → IsGraph t.congruence.presentation.letters g
    → hlt.IsAtEnd t.congruence made g → IsStandardGraphFor p g
rows_graph (Presented p) t made g h posed task standard shows graph at = by_rows p t.congruence posed.well_formed task made g h standard shows graph at
rows_graph (Transf p) t made g h posed task standard shows graph at = absurd task
rows_graph (PPerm p) t made g h posed task standard shows graph at = absurd task
rows_graph (BMat p) t made g h posed task standard shows graph at = absurd task
rows_graph (MaxPlus p) t made g h posed task standard shows graph at = absurd task
