use Rattle.std.proofs.Common.{◌≤◌, length, subst}
use Rattle.coincidence.specs.Kept.{IsAhead}
use Rattle.coincidence.specs.declared.order.Ahead.{Ahead}
use Rattle.coincidence.specs.declared.order.Order.{Order}
use Rattle.coincidence.proofs.KeptLaws.{kept_all_marked, kept_unmarked}
use Rattle.coincidence.proofs.order.Order.first_unmarked.Goals as goal

pub returns-in-Some-clause-first : goal.returns-in-Some-clause-first
returns-in-Some-clause-first c =
    kept_unmarked c.args.letters c.args.edges.now.graph c.args.marked.now.items c.unmarked.new.self c.in-Some.node c.requires.graph (c.unmarked.ensures.kept c.args.letters c.args.edges.now.graph c.loop-node.invariant)
    c.in-Some.ensures.some.0 c.in-Some.ensures.some.1 c.in-Some.ensures.some.2

pub returns-in-Whole-clause-first : goal.returns-in-Whole-clause-first
returns-in-Whole-clause-first c =
    let past = subst (λ (a : Ahead). IsAhead c.args.letters c.args.edges.now.graph c.unmarked.new.self c.step.new.self a) c.in-Whole.is c.in_ok-step.ensures.ahead in
    kept_all_marked c.args.letters c.args.edges.now.graph c.args.marked.now.items c.unmarked.new.self c.requires.graph (c.unmarked.ensures.kept c.args.letters c.args.edges.now.graph c.loop-node.invariant)
    (subst (λ (o : Order). length o.steps.items ≤ o.row) (c.in_ok-step.ensures.same c.in-Whole.is) past) c.in_default.ensures.none
