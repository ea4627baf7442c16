use Rattle.std.proofs.Common.{◌≡◌, ◌∙◌, ℕ, None, ◌<◌, ◌≤◌, length, replicate, subst, sym, ap, arith}
use Rattle.theory.specs.Graph.{Graph, IsGraph}
use Rattle.coincidence.proofs.FoldLaws.{width_is}
use Rattle.lattice.specs.Quotients.{IsQuotientTo}
use Rattle.lattice.proofs.JoinLaws.{quotient_bare, quotient_end}
use Rattle.lattice.proofs.joins.quotient.Goals as goal

pub loop-node-init : goal.loop-node-init
loop-node-init c = λ k is.
    quotient_bare k c.letters.result c.nodes.result c.args.s.now c.args.classes.now c.in_ok-graph.graph is c.letters.ensures.graph c.nodes.ensures.nodes c.in_ok-graph.ensures

pub returns : goal.returns
returns c = λ k is.
    quotient_end k c.args.s.now c.args.classes.now c.loop-node.graph c.loop-node.node is (omega (arith, c.loop-node-test.false, c.nodes-node-end.ensures.nodes, c.loop-node.auto.node-end)) (c.loop-node.invariant k is)
