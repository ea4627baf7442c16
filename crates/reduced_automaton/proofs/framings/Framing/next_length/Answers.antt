use Rattle.std.proofs.Common.{◌≡◌, ◌<◌, length, get_or, false, refl, sym, ◌∙◌, subst, arith}
use Rattle.std.proofs.lemmas.List.{get_or_read}
use Rattle.theory.specs.Graph.{IsGraph}
use Rattle.reduced_automaton.specs.Paths.{GoesOn}
use Rattle.reduced_automaton.specs.Framings.{AreMarks, paths_in}
use Rattle.rewriting.specs.Tables.{edges}
use Rattle.reduced_automaton.proofs.PathLaws.{not_then}
use Rattle.reduced_automaton.proofs.FrameLaws.{no_longer, none_more, paths_of, spread_ends, start_inside}
use Rattle.reduced_automaton.proofs.MarkLaws.{layer_at, marked_not}
use Rattle.reduced_automaton.proofs.framings.Framing.next_length.Goals as goal
use Rattle.reduced_automaton.proofs.framings.Framing.next_length.Goals.{After-index}

pub returns-then-not-is_under-clause-next : goal.returns-then-not-is_under-clause-next
returns-then-not-is_under-clause-next c =
    no_longer c.args.self.now.limit (paths_in c.args.scope.now) c.args.start c.args.from
    (c.requires.framing.limit c.args.start c.requires.start)
    (not_then c.is_under.result _ c.is_under.ensures c.if-not-is_under.true)

-- where the frame starts
inside : (c : After-index) → c.args.start < length (paths_in c.args.scope.now).graph
inside c =
    start_inside c.letters-letters.result (edges c.args.scope.now.graph.now) c.args.scope.now.frame.now c.letters-letters.ensures.graph c.args.start
    (sym c.requires.framing.start ∙ c.requires.start)

-- the layer of this length
layer : (c : After-index) → AreMarks (λ node. GoesOn (paths_in c.args.scope.now) node c.loop-more.count)
    (length (paths_in c.args.scope.now).graph) c.index.result.now.items
layer c =
    layer_at (paths_in c.args.scope.now) c.grow.new.self.layers.items c.loop-more.count c.index.result.now c.index.result.now.items
    c.in_ok-grow.ensures.framing.layers c.in_ok-grow.ensures.known c.index.ensures refl

pub index-requires-in-loop-more : goal.index-requires-in-loop-more
index-requires-in-loop-more c = omega (arith, inside c, (layer c).long)

pub returns-then-index-clause-next : goal.returns-then-index-clause-next
returns-then-index-clause-next c =
    let there : c.args.start < length c.index.result.now.items = omega (arith, inside c.before.before, (layer c.before.before).long) in
    let read : c.index-in-loop-more.result.now ≡ get_or c.index.result.now.items c.args.start false = get_or_read _ _ _ there c.index-in-loop-more.ensures false in
    record {
      from = omega (arith, c.loop-more.invariant.count);
      goes = ((layer c.before.before).at c.args.start (inside c.before.before)).0 (sym read ∙ c.if-index.true);
      least = c.loop-more.invariant.none;
    }

pub loop-more-preserved : goal.loop-more-preserved
loop-more-preserved c =
    let p = paths_in c.args.scope.now in
    let there : c.args.start < length c.index.result.now.items = omega (arith, inside c.before.before, (layer c.before.before).long) in
    let read : c.index-in-loop-more.result.now ≡ get_or c.index.result.now.items c.args.start false = get_or_read _ _ _ there c.index-in-loop-more.ensures false in
    record {
      framing = c.in_ok-grow.ensures.framing;
      count = omega (arith, c.loop-more.invariant.count);
      none =
          none_more p c.args.start c.args.from c.loop-more.count c.loop-more.invariant.none
          (λ goes. marked_not (get_or c.index.result.now.items c.args.start false) (sym read ∙ c.if-index.false) (((layer c.before.before).at c.args.start (inside c.before.before)).1 goes));
    }

pub returns-clause-next : goal.returns-clause-next
returns-clause-next c =
    let g = edges c.args.scope.now.graph.now in
    let p = paths_in c.args.scope.now in
    let graph = subst (λ k. IsGraph k g) c.letters-letters.ensures.letters c.letters-letters.ensures.graph in
    let starts = start_inside c.args.scope.now.graph.now.letters g c.args.scope.now.frame.now graph c.args.start (sym c.requires.framing.start ∙ c.requires.start) in
    spread_ends p (paths_of c.args.scope.now.graph.now.letters g c.args.scope.now.frame.now graph c.requires.framing.few) c.args.self.now.spread c.requires.framing.spread
    c.args.from c.args.start c.loop-more.count starts (omega (arith, c.loop-more-test.false, c.loop-more.invariant.count)) c.loop-more.invariant.none
