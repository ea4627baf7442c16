use Rattle.std.proofs.Common.{sym, ◌∙◌, arith}
use Rattle.word_graph.proofs.Paths.{path_take_more}
use Rattle.reduced_automaton.proofs.NextPaths.{nodes_more, nodes_stop}
use Rattle.reduced_automaton.proofs.readers.nodes_along.Goals as goal

pub returns-in-None : goal.returns-in-None
returns-in-None g c =
    nodes_stop (g.P.KnownPaths.paths c.args.paths.now).graph c.args.root c.args.word.now c.loop-place.nodes.items c.loop-place.place c.loop-place.node c.letter.result c.loop-place.invariant.count
    c.loop-place.invariant.here c.loop-place.invariant.at c.letter.ensures (sym c.in-None.ensures) c.push.new.self.items c.in_ok-push.ensures.items

pub loop-place-preserved : goal.loop-place-preserved
loop-place-preserved g c =
    record {
      count = omega (arith, c.loop-place.invariant.count, c.in_ok-push.ensures.len);
      here = path_take_more (g.P.KnownPaths.paths c.args.paths.now).graph c.args.root c.loop-place.node c.letter.result c.loop-place.place c.args.word.now c.loop-place.invariant.here c.letter.ensures ∙ sym c.in-Some.ensures;
      at =
          nodes_more (g.P.KnownPaths.paths c.args.paths.now).graph c.args.root c.args.word.now c.loop-place.nodes.items c.loop-place.place c.loop-place.node c.loop-place.invariant.count
          c.loop-place.invariant.here c.loop-place.invariant.at c.push.new.self.items c.in_ok-push.ensures.items;
    }
