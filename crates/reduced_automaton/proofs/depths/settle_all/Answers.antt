use Rattle.std.proofs.Common.{arith, ◌∙◌, subst, Bool}
use Rattle.rewriting.specs.Tables.{edges}
use Rattle.reduced_automaton.specs.Automaton.{IsChange}
use Rattle.reduced_automaton.proofs.DepthLaws.{change_more, change_same, round_end}
use Rattle.reduced_automaton.proofs.depths.settle_all.Goals as goal
use Rattle.reduced_automaton.proofs.depths.settle_all.Goals.{then-settle, else-settle}

pub loop-node-preserved : goal.loop-node-preserved
loop-node-preserved c =
    record {
      settled = λ k graph is. c.settle.ensures.settled k graph (c.loop-node.invariant.settled k graph is);
      count = c.settle.ensures.count ∙ c.loop-node.invariant.count;
      change = elim c.if-settle.branch [
        | then-settle w ↦
            rw (w.changed-is)
            (change_more c.loop-node.changed c.args.depths.now.items c.loop-node.depths.items c.settle.new.depths.items c.loop-node.invariant.change
            (subst (λ (b : Bool). IsChange b c.loop-node.depths.items c.settle.new.depths.items) w.if-settle.true c.settle.ensures.change))
        | else-settle w ↦
            rw (w.changed-is)
            (change_same c.loop-node.changed c.args.depths.now.items c.loop-node.depths.items c.settle.new.depths.items c.loop-node.invariant.change
            (subst (λ (b : Bool). IsChange b c.loop-node.depths.items c.settle.new.depths.items) w.if-settle.false c.settle.ensures.change))
      ];
    }

pub returns-clause-settled : goal.returns-clause-settled
returns-clause-settled c = λ k graph is.
    round_end k (edges c.args.graph.now) graph c.args.round c.loop-node.node c.loop-node.depths.items (omega arith) (c.loop-node.invariant.settled k graph is)
