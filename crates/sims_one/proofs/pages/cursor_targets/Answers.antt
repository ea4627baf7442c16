use Rattle.std.proofs.Common.{◌<◌, arith}
use Rattle.word_graph.specs.Standard.{IsStandardGraph}
use Rattle.sims_one.proofs.PageLaws.{if_ok, graph_cursor, graph_after}
use Rattle.sims_one.proofs.pages.cursor_targets.Goals as goal

pub returns-clause-cursor : goal.returns-clause-cursor
returns-clause-cursor c =
    let k = c.args.presentation.now.presentation.letters in
    let some : 0 < k = omega (arith, c.letters-letters.ensures.letters, c.letters-letters.ensures.some) in
    let is : IsStandardGraph k c.in-Some.table.now = rw c.in-Some.is at c.requires in
    if_ok c.targets.result _ _ c.targets.ensures (λ ts e. graph_cursor k some c.in-Some.table.now ts.items is e)

pub returns-clause-after : goal.returns-clause-after
returns-clause-after c =
    let k = c.args.presentation.now.presentation.letters in
    let some : 0 < k = omega (arith, c.letters-letters.ensures.letters, c.letters-letters.ensures.some) in
    let is : IsStandardGraph k c.in-Some.table.now = rw c.in-Some.is at c.requires in
    if_ok c.targets.result _ _ c.targets.ensures (λ ts e cursor same. graph_after k some c.in-Some.table.now ts.items is e cursor (rw c.in-Some.is at same))
