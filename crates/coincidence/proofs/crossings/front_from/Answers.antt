use Rattle.std.proofs.Common.{◌≡◌, ◌-◌, None, sym, subst, take, ◌∙◌}
use Rattle.theory.specs.Graph.{path}
use Rattle.word_graph.proofs.Paths.{path_take_more, path_take_none}
use Rattle.coincidence.proofs.crossings.front_from.Goals as goal

pub returns-in-None : goal.returns-in-None
returns-in-None c = λ n leads. sym (subst (λ z. path c.args.edges.now.graph n (take (z - 1) c.args.side.now) ≡ None) c.len-i-end.ensures
    (path_take_none _ _ _ _ _ _ _ (c.loop-i.invariant n leads) c.letter.ensures (sym c.in-None.ensures) (c.loop-i-test.true)))

pub loop-i-preserved : goal.loop-i-preserved
loop-i-preserved c = λ n leads. path_take_more _ _ _ _ _ _ (c.loop-i.invariant n leads) c.letter.ensures ∙ sym c.in-Some.ensures
