use Rattle.std.proofs.Common.{◌<◌, arith}
use Rattle.sims_one.specs.Asked.{asked}
use Rattle.sims_one.proofs.EdgeLaws.{on_ok}
use Rattle.sims_one.proofs.WantedLaws.{table_complete, wanted_any, wanted_two_sided}
use Rattle.sims_one.proofs.within.is_wanted.Goals as goal

pub is_two_sided-requires : goal.is_two_sided-requires
is_two_sided-requires c =
    let p = c.args.request.now.presentation.now.presentation in
    let some : 0 < p.letters = omega (arith, c.letters-letters.ensures.letters, c.letters-letters.ensures.some) in
    table_complete p c.args.request.now.classes some c.relations-relations.ensures.presented.elements c.args.targets.now c.in_ok-graph.graph c.requires c.in_ok-graph.ensures

pub returns : goal.returns
returns c =
    on_ok c.is_two_sided.result _ _ c.is_two_sided.ensures
    (λ b h. wanted_two_sided (asked c.args.request.now) c.args.targets.now c.requires c.in_ok-graph.graph b c.if-not-request.false c.in_ok-graph.ensures h)

pub returns-then-not-request : goal.returns-then-not-request
returns-then-not-request c = wanted_any (asked c.args.request.now) c.args.targets.now c.requires c.if-not-request.true
