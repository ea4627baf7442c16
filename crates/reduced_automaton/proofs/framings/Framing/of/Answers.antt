use Rattle.std.proofs.Common.{◌++◌, ◌∷◌, [], ℕ, Bool, Global, List, Option, Vec, sym, ◌∙◌, ap, subst, subst₂, arith}
use Rattle.std.proofs.lemmas.Option.{same_Some}
use Rattle.theory.specs.Graph.{IsGraph}
use Rattle.reduced_automaton.specs.Framings.{IsLimit, frame_paths}
use Rattle.reduced_automaton.specs.declared.framings.Framing.{Framing}
use Rattle.rewriting.specs.Tables.{edges}
use Rattle.reduced_automaton.proofs.FrameLaws.{framing_made, none_then, start_inside}
use Rattle.reduced_automaton.proofs.MarkLaws.{narrowed_count}
use Rattle.reduced_automaton.proofs.framings.Framing.of.Goals as goal
use Rattle.reduced_automaton.proofs.framings.Framing.of.Goals.{in-None, in-Some+in_ok-limit-in-Some}

pub limit_of-requires-clause-start : goal.limit_of-requires-clause-start
limit_of-requires-clause-start c =
    let g = edges c.args.graph.now in
    let inside = start_inside c.letters-letters.result g c.args.frame.now c.letters-letters.ensures.graph c.in-Some.node (sym c.path-start.ensures ∙ c.in-Some.is) in
    omega (arith, inside, narrowed_count c.args.frame.now.letters g)

pub returns : goal.returns
returns c =
    let g = edges c.args.graph.now in
    let p = frame_paths g c.args.frame.now in
    let graph = subst (λ k. IsGraph k g) c.letters-letters.ensures.letters c.letters-letters.ensures.graph in
    let layers = c.in_ok-push.ensures.items ∙ ap (λ (xs : List (Vec Bool Global)). xs ++ c.in_ok-ends.ends ∷ []) c.new-layers.ensures.items in
    let f : Framing = record { start = c.match-start.start; limit = c.match-start.limit; spread = c.in_ok-origins.origins.spread; layers = c.push.new.self } in
    elim c.match-start.branch [
      | in-None w ↦
          framing_made c.args.graph.now.letters g c.args.frame.now graph f c.in_ok-ends.ends c.requires (w.start-is ∙ c.path-start.ensures)
          (λ node s. none_then node (sym s ∙ w.start-is ∙ w.in-None.is) _) (λ s. w.limit-is) c.in_ok-origins.ensures.spread c.in_ok-ends.ensures layers
      | in-Some+in_ok-limit-in-Some w ↦
          framing_made c.args.graph.now.letters g c.args.frame.now graph f c.in_ok-ends.ends c.requires (w.start-is ∙ sym w.in-Some.is ∙ c.path-start.ensures)
          (λ node s. subst₂ (λ n (o : Option ℕ). IsLimit p n o) (same_Some w.in-Some.node node (sym w.start-is ∙ s)) (sym w.limit-is) w.in_ok-limit-in-Some.ensures)
          (λ s. none_then w.in-Some.node (sym w.start-is ∙ s) _) c.in_ok-origins.ensures.spread c.in_ok-ends.ensures layers
    ]
