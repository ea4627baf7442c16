use Rattle.std.proofs.Common.{◌≡◌, ◌∙◌, ◌+◌, ℕ, [], get_or, None, Some, ◌<◌, ◌≤◌, length, slice_index, subst, sym, ap, arith}
use Rattle.theory.specs.Graph.{Graph, target, IsGraph}
use Rattle.word_graph.specs.Edges.{with_edge}
use Rattle.lattice.specs.Quotients.{IsQuotientTo}
use Rattle.lattice.proofs.JoinLaws.{put_letter, put_node, put_to, quotient_none, quotient_put, quotient_row}
use Rattle.coincidence.proofs.FoldLaws.{width_is}
use Rattle.lattice.proofs.joins.add_edges.Goals as goal
use Rattle.lattice.proofs.joins.add_edges.Goals.{in-Some, in_default}

-- the edge of the letter, and the quotient so far
edge : (c : goal.After-shared_slice_known-in-Some-1) → target c.args.s.now c.args.node c.loop-number.number ≡ Some c.in-Some.next
edge c = subst (λ a. target c.args.s.now c.args.node a ≡ Some c.in-Some.next) c.new-letter.ensures (sym c.in-Some.ensures)

begun : (c : goal.After-shared_slice_known-in-Some-1) → IsQuotientTo c.letters-number-end.result c.args.s.now c.args.classes.now c.loop-number.graph c.args.node c.loop-number.number
begun c = c.loop-number.invariant c.letters-number-end.result c.letters-number-end.ensures.graph

pub set_target-requires-clause-node : goal.set_target-requires-clause-node
set_target-requires-clause-node c =
    put_node c.letters-number-end.result c.args.s.now c.args.classes.now c.loop-number.graph c.args.node c.loop-number.number c.in-Some.next c.letters-number-end.ensures.graph (edge c) c.requires.below (begun c)

pub set_target-requires-clause-letter : goal.set_target-requires-clause-letter
set_target-requires-clause-letter c =
    subst (λ a. a < length (get_or c.loop-number.graph c.args.node [])) (sym c.new-letter.ensures)
    (put_letter c.letters-number-end.result c.args.s.now c.args.classes.now c.loop-number.graph c.args.node c.loop-number.number c.in-Some.next c.letters-number-end.ensures.graph (edge c) c.requires.below (begun c))

pub set_target-requires-clause-to : goal.set_target-requires-clause-to
set_target-requires-clause-to c =
    put_to c.letters-number-end.result c.args.s.now c.args.classes.now c.loop-number.graph c.args.node c.loop-number.number c.in-Some.next c.letters-number-end.ensures.graph (edge c) c.requires.below (begun c)

pub loop-number-preserved : goal.loop-number-preserved
loop-number-preserved c = λ k is.
    elim c.match-target.branch [
      | in-Some w ↦
          let there : target c.args.s.now c.args.node c.loop-number.number ≡ Some w.in-Some.next =
          subst (λ a. target c.args.s.now c.args.node a ≡ Some w.in-Some.next) c.new-letter.ensures (sym w.in-Some.ensures) in
          let put : with_edge c.loop-number.graph c.args.node c.loop-number.number (slice_index c.args.classes.now w.in-Some.next) ≡ c.match-target.graph =
          ap (λ a. with_edge c.loop-number.graph c.args.node a (slice_index c.args.classes.now w.in-Some.next)) (sym c.new-letter.ensures) ∙ sym w.set_target.ensures ∙ sym w.graph-is in
          subst (λ (g : Graph). IsQuotientTo k c.args.s.now c.args.classes.now g c.args.node (c.loop-number.number + 1)) put
          (quotient_put k c.args.s.now c.args.classes.now c.loop-number.graph c.args.node c.loop-number.number w.in-Some.next is there c.requires.below (c.loop-number.invariant k is))
      | in_default w ↦
          let none : target c.args.s.now c.args.node c.loop-number.number ≡ None = ap (λ z. target c.args.s.now c.args.node z) (sym c.new-letter.ensures) ∙ sym c.target.ensures ∙ w.in_default.is in
          subst (λ (g : Graph). IsQuotientTo k c.args.s.now c.args.classes.now g c.args.node (c.loop-number.number + 1)) (sym w.graph-is)
          (quotient_none k c.args.s.now c.args.classes.now c.loop-number.graph c.args.node c.loop-number.number none (c.loop-number.invariant k is))
    ]

pub returns : goal.returns
returns c = λ k is.
    let end : c.loop-number.number ≡ k = (let all : c.loop-number.number ≡ c.letters-number-end.result = omega (arith, c.loop-number-test.false, c.loop-number.auto.number-end) in all) ∙ width_is c.letters-number-end.result k c.args.s.now c.letters-number-end.ensures.graph is in
    quotient_row k c.args.s.now c.args.classes.now c.loop-number.graph c.args.node is
    (subst (λ n. IsQuotientTo k c.args.s.now c.args.classes.now c.loop-number.graph c.args.node n) end (c.loop-number.invariant k is))
