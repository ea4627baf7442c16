use Rattle.std.proofs.Common.{◌≡◌, true, arith, sym, ◌∙◌, subst, true≢false}
use Rattle.line_parts.proofs.TableLemmas.{LeadAlike, all_meet, one_breaks}
use Rattle.line_parts.proofs.tables.meets_relations.Goals as goal

pub returns-then-not-meets_relation : goal.returns-then-not-meets_relation
returns-then-not-meets_relation c =
    one_breaks c.args.relations.now c.args.table.now c.loop-relation.relation-index c.relation-item.result c.loop-relation-test.true (λ alike.
    let is : c.meets_relation.result ≡ true = c.meets_relation.ensures.1 (subst (LeadAlike c.args.table.now) (sym c.relation-item.is) alike) in
    true≢false (sym is ∙ c.if-not-meets_relation.true))

pub returns : goal.returns
returns c =
    all_meet c.args.relations.now c.args.table.now (λ i d l.
    c.loop-relation.invariant.met i d (omega (arith, l, c.loop-relation-test.false)))
