use Rattle.std.proofs.Common.{◌≡◌, ℕ, suc, sym, ap, subst, subst₂, Option, Some, None, Result, Ok, Err, ◌∷◌, [], replicate, length, ◌∙◌}
use Rattle.std.specs.Result.{OnOk}
use Rattle.std.specs.Option.{IfSome, IsSome}
use Rattle.theory.specs.Congruence.{Congruence}
use Rattle.theory.specs.Facts.{ClosedAll}
use Rattle.theory.specs.Graph.{Graph, SameEnd, PathsRelate}
use Rattle.word_graph.specs.Walk.{IsFirstMissing}
use Rattle.coincidence.specs.Table.{CosetTable, IsTable, IsDefined}
use Rattle.tc_felsch.specs.Stage.{IsAtStage}
use Rattle.tc_felsch.proofs.NodeLaws.{due_nodes}
use Rattle.tc_felsch.proofs.TurnLaws.{first_stage, next_stage}
use Rattle.tc_felsch.proofs.enumeration.go_on.Goals as goal

-- what holds of a success where another fact does
on_ok : {T E : Type 0} (r : Result T E) (P Q : Type 0) → OnOk r P → (P → Q) → OnOk r Q
on_ok (Ok v) P Q p f = f p
on_ok (Err e) P Q p f = tt

pub returns-clause-start : goal.returns-clause-start
returns-clause-start c =
    on_ok c.first_missing.result _ _ c.first_missing.ensures.same
    (λ (same : c.first_missing.new.self ≡ c.close_all.new.self) none root.
    let mid : c.define_due.new.table ≡ c.args.table.now = c.in_ok-define_due.ensures.none none in
    let graph : c.define_due.new.table.graph ≡ replicate c.args.table.now.congruence.presentation.letters None ∷ [] = ap (λ (t : CosetTable). t.graph) mid ∙ root in
    let shows : PathsRelate c.close_all.new.self.graph (ClosedAll c.args.table.now.congruence (SameEnd (replicate c.args.table.now.congruence.presentation.letters None ∷ []))) =
    subst₂ (λ (k : Congruence) (g : Graph). PathsRelate c.close_all.new.self.graph (ClosedAll k (SameEnd g))) c.define_due.ensures.congruence graph c.in_ok-close_all.ensures.relates in
    let at : IsAtStage c.args.table.now.congruence 0 c.close_all.new.self.graph = first_stage c.args.table.now.congruence c.close_all.new.self.graph shows in
    let congruence : c.close_all.new.self.congruence ≡ c.args.table.now.congruence = c.close_all.ensures.congruence ∙ c.define_due.ensures.congruence in
    subst (λ (t : CosetTable). IsAtStage t.congruence 0 t.graph) (sym same) (subst (λ (k : Congruence). IsAtStage k 0 c.close_all.new.self.graph) (sym congruence) at))

pub returns-clause-nodes : goal.returns-clause-nodes
returns-clause-nodes c =
    on_ok c.first_missing.result _ _ c.first_missing.ensures.same
    (λ (same : c.first_missing.new.self ≡ c.close_all.new.self).
    ap (λ (t : CosetTable). length t.graph) same ∙ c.in_ok-close_all.ensures.nodes
    ∙ due_nodes c.args.table.now c.define_due.new.table c.args.due c.in_ok-define_due.ensures.none c.in_ok-define_due.ensures.some)

pub returns-clause-stage : goal.returns-clause-stage
returns-clause-stage c =
    on_ok c.first_missing.result _ _ c.first_missing.ensures.same
    (λ (same : c.first_missing.new.self ≡ c.close_all.new.self) some i at.
    let shows : PathsRelate c.close_all.new.self.graph (ClosedAll c.args.table.now.congruence (SameEnd c.define_due.new.table.graph)) =
    subst (λ (k : Congruence). PathsRelate c.close_all.new.self.graph (ClosedAll k (SameEnd c.define_due.new.table.graph))) c.define_due.ensures.congruence c.in_ok-close_all.ensures.relates in
    let next : IsAtStage c.args.table.now.congruence (suc i) c.close_all.new.self.graph =
    by_due c.args.table.now c.define_due.new.table c.close_all.new.self.graph i c.args.due some c.requires.table c.requires.due c.in_ok-define_due.ensures.some shows at in
    let congruence : c.close_all.new.self.congruence ≡ c.args.table.now.congruence = c.close_all.ensures.congruence ∙ c.define_due.ensures.congruence in
    subst (λ (t : CosetTable). IsAtStage t.congruence (suc i) t.graph) (sym same) (subst (λ (k : Congruence). IsAtStage k (suc i) c.close_all.new.self.graph) (sym congruence) next))
  where
    by_due : (old mid : CosetTable) (g : Graph) (i : ℕ) (due : Option (ℕ × ℕ)) → IsSome due → IsTable old
        → IfSome due (λ p. IsFirstMissing old.congruence.presentation.letters old.graph p.0 p.1)
        → IfSome due (λ p. IsDefined old mid p.0 p.1 (length old.graph))
        → PathsRelate g (ClosedAll old.congruence (SameEnd mid.graph)) → IsAtStage old.congruence i old.graph
        → IsAtStage old.congruence (suc i) g
    by_due old mid g i None some is first made shows at = cc
    by_due old mid g i (Some p) some is first made shows at = next_stage old mid p.0 p.1 (length old.graph) i g is first made shows at
