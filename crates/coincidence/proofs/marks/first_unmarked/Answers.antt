use Rattle.std.proofs.Common.{get_or, arith}
use Rattle.word_graph.proofs.StandardLaws.{path_in}
use Rattle.coincidence.proofs.MarkLaws.{all_marked, first_unmarked_is}
use Rattle.coincidence.proofs.marks.first_unmarked.Goals as goal

pub least_unmarked-requires : goal.least_unmarked-requires
least_unmarked-requires c = λ k d less.
    let own = c.in_ok-least.ensures.least k d less in
    let graph = c.letters-letters.ensures.graph in
    let within = path_in c.letters-letters.result c.args.graph.now graph 0 (get_or c.in_ok-least.least.items k d).0 (get_or c.in_ok-least.least.items k d).1 graph.rooted own.leads in
    omega (arith, c.requires)

pub returns-in-None : goal.returns-in-None
returns-in-None c = all_marked c.args.graph.now c.args.marked.now.items c.in_ok-least.least.items c.in_ok-least.ensures c.in-None.ensures

pub returns : goal.returns
returns c = first_unmarked_is c.args.graph.now c.args.marked.now.items c.in_ok-least.least.items c.in_ok-least.ensures c.in-Some.place c.index.result.now c.index.ensures c.in-Some.ensures
