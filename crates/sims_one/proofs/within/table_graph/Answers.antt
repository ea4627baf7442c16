use Rattle.std.proofs.Common.{◌≡◌, ◌<◌, ◌+◌, All, subst, arith}
use Rattle.sims_one.specs.Targets.{seen}
use Rattle.sims_one.proofs.LowIndexLaws.{found_nodes}
use Rattle.sims_one.proofs.within.table_graph.Goals as goal

pub of_targets-requires-clause-nodes : goal.of_targets-requires-clause-nodes
of_targets-requires-clause-nodes c =
    let p = c.args.request.now.presentation.now.presentation in
    let some : 0 < p.letters = omega (arith, c.letters-letters.ensures.letters, c.letters-letters.ensures.some) in
    let within = found_nodes p c.args.request.now.classes some c.relations-relations.ensures.presented.elements c.args.targets.now c.requires in
    let nodes : seen c.args.targets.now ≡ c.greatest.result + 1 = omega (arith, c.greatest.ensures) in
    subst (λ n. All (λ m. m < n) c.args.targets.now) nodes within
