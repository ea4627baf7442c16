use Rattle.std.proofs.Common.{◌≡◌, ◌+◌, ◌≤◌, ℕ, List, Option, None, length, replicate, sym, ◌∙◌, ap, subst, arith}
use Rattle.std.proofs.lemmas.List.{length-replicate}
use Rattle.word_graph.specs.Gaps.{count_none}
use Rattle.rewriting.specs.Tables.{edges}
use Rattle.reduced_automaton.specs.Automaton.{AreSettled}
use Rattle.reduced_automaton.proofs.DepthLaws.{rounds_start, rounds_end, none_all}
use Rattle.reduced_automaton.proofs.depths.depths_of.Goals as goal

pub loop-round-init : goal.loop-round-init
loop-round-init c =
    let start : c.in_ok-depths.depths.items ≡ replicate (length (edges c.args.graph.now)) None = c.in_ok-depths.ensures ∙ ap (λ n. replicate n None) c.nodes.ensures.nodes in
    record {
      settled = λ k graph. subst (λ (ds : List (Option ℕ)). AreSettled k (edges c.args.graph.now) 0 ds) (sym start) (rounds_start k (edges c.args.graph.now) graph);
      count = ap (λ (ds : List (Option ℕ)). length ds) start ∙ length-replicate (length (edges c.args.graph.now)) None;
      few = omega (arith, ap (λ (ds : List (Option ℕ)). count_none ds) start, none_all (length (edges c.args.graph.now)));
    }

pub loop-round-preserved : goal.loop-round-preserved
loop-round-preserved c =
    record {
      settled = λ k graph. c.settle_all.ensures.settled k graph (c.loop-round.invariant.settled k graph);
      count = c.settle_all.ensures.count ∙ c.loop-round.invariant.count;
      few = let fewer : count_none c.settle_all.new.depths.items + 1 ≤ count_none c.loop-round.depths.items = omega (arith, c.loop-round-test.ensures.change) in omega (arith, fewer, c.loop-round.invariant.few);
    }

pub returns : goal.returns
returns c = λ k graph.
    let same : c.settle_all.new.depths.items ≡ c.loop-round.depths.items = c.loop-round-test.ensures.change in
    rounds_end k (edges c.args.graph.now) graph c.loop-round.round c.settle_all.new.depths.items
    (subst (λ (ds : List (Option ℕ)). AreSettled k (edges c.args.graph.now) c.loop-round.round ds) (sym same) (c.loop-round.invariant.settled k graph))
    (c.settle_all.ensures.settled k graph (c.loop-round.invariant.settled k graph))
