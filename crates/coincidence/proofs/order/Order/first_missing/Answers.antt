use Rattle.std.proofs.Common.{subst}
use Rattle.coincidence.specs.Kept.{IsAhead}
use Rattle.coincidence.specs.declared.order.Ahead.{Ahead}
use Rattle.coincidence.proofs.KeptLaws.{kept_whole}
use Rattle.coincidence.proofs.order.Order.first_missing.Goals as goal

pub loop-node-preserved : goal.loop-node-preserved
loop-node-preserved c = record {
  some = (c.loop-node.invariant.some.0, c.in_ok-step.ensures.kept c.loop-node.invariant.some.0 c.loop-node.invariant.some.1);
  kept = λ marked h. c.in_ok-step.ensures.kept marked (c.loop-node.invariant.kept marked h);
}

pub returns-in-Whole-clause-first : goal.returns-in-Whole-clause-first
returns-in-Whole-clause-first c =
    kept_whole c.args.letters c.args.edges.now.graph c.loop-node.invariant.some.0 c.step.new.self (c.in_ok-step.ensures.kept c.loop-node.invariant.some.0 c.loop-node.invariant.some.1)
    (subst (λ (a : Ahead). IsAhead c.args.letters c.args.edges.now.graph c.loop-node.self c.step.new.self a) c.in-Whole.is c.in_ok-step.ensures.ahead)
