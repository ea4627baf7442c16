use Rattle.std.proofs.Common.{◌≡◌, ◌-◌, length, get_or, refl, ◌∙◌, ap, subst, arith}
use Rattle.theory.specs.Graph.{IsGraph}
use Rattle.rewriting.specs.Tables.{edges}
use Rattle.reduced_automaton.proofs.FrameLaws.{framing_push}
use Rattle.reduced_automaton.proofs.framings.Framing.grow.Goals as goal

pub loop-self-preserved : goal.loop-self-preserved
loop-self-preserved c =
    let g = edges c.args.scope.now.graph.now in
    let graph = subst (λ k. IsGraph k g) c.letters-letters.ensures.letters c.letters-letters.ensures.graph in
    let size : c.len-in-loop-self.result ≡ length c.loop-self.self.layers.items = omega (arith, c.len-in-loop-self.ensures) in
    let at : c.index.result.now ≡ get_or c.loop-self.self.layers.items (length c.loop-self.self.layers.items - 1) c.index.result.now =
    c.index.ensures ∙ ap (λ n. get_or c.loop-self.self.layers.items (n - 1) c.index.result.now) size in
    framing_push c.args.scope.now.graph.now.letters g c.args.scope.now.frame.now graph c.loop-self.self
    (record { start = c.loop-self.self.start; limit = c.loop-self.self.limit; spread = c.loop-self.self.spread; layers = c.push.new.self })
    c.in_ok-layer.layer c.index.result.now c.as_slice-last.result.now
    c.loop-self.invariant at c.as_slice-last.ensures.value c.in_ok-layer.ensures refl refl refl c.in_ok-push.ensures.items
