use Rattle.std.proofs.Common.{Some, [], ◌∷◌, ◌++◌, ap, ◌∙◌}
use Rattle.word_graph.proofs.EntryLaws.{pushed_more}
use Rattle.word_graph.proofs.rows.push_edges.Goals as goal

pub loop-target-preserved : goal.loop-target-preserved
loop-target-preserved c =
    pushed_more Some c.args.targets.now c.loop-target.target-index 0 c.args.entries.now.items c.loop-target.entries.items c.push.new.self.items c.loop-target-test.true
    (c.in_ok-push.ensures.items ∙ ap (λ e. c.loop-target.entries.items ++ e ∷ []) c.new.ensures) c.loop-target.invariant
