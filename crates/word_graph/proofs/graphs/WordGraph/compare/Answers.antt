use Rattle.std.proofs.Common.{ap, ◌∙◌}
use Rattle.theory.specs.LowIndex.{entries}
use Rattle.cells.specs.Rows.{flat}
use Rattle.word_graph.proofs.TableLaws.{flat_edges}
use Rattle.word_graph.proofs.graphs.WordGraph.compare.Goals as goal

pub returns : goal.returns
returns c = λ k s t some ws wt hs ht.
    c.compare.ensures (entries s) (entries t) (c.entries.ensures ∙ ap flat (c.rows.ensures ∙ hs) ∙ flat_edges s)
    (c.entries-2.ensures ∙ ap flat (c.rows-2.ensures ∙ ht) ∙ flat_edges t)
