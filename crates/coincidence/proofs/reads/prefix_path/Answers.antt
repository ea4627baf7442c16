use Rattle.std.proofs.Common.{sym, ◌∙◌}
use Rattle.word_graph.proofs.Paths.{path_take_more, path_take_none}
use Rattle.coincidence.proofs.reads.prefix_path.Goals as goal

pub returns-in-None : goal.returns-in-None
returns-in-None c = sym (path_take_none _ _ _ _ _ _ _ c.loop-i.invariant c.letter.ensures (sym c.in-None.ensures) (c.loop-i-test.true))

pub loop-i-preserved : goal.loop-i-preserved
loop-i-preserved c = path_take_more _ _ _ _ _ _ c.loop-i.invariant c.letter.ensures ∙ sym c.in-Some.ensures
