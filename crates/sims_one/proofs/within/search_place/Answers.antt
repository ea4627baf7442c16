use Rattle.std.proofs.Common.{◌<◌, rules, arith}
use Rattle.sims_one.specs.Asked.{asked}
use Rattle.sims_one.proofs.EdgeLaws.{on_ok}
use Rattle.sims_one.proofs.PageLaws.{if_ok_thrice}
use Rattle.sims_one.proofs.WantedLaws.{first_after, first_behind}
use Rattle.sims_one.proofs.within.search_place.Goals as goal

pub returns-then-eq-clause-found : goal.returns-then-eq-clause-found
returns-then-eq-clause-found c =
    let a = asked c.args.request.now in
    if_ok_thrice c.search_after.result _ _ _ _ c.search_after.ensures.found c.search_after.ensures.within c.search_after.ensures.branch
    (λ b found within branch yes. first_after a c.args.branch.now.targets.items a.cursor c.search_after.new.branch.targets.items c.search_after.new.branch.levels (found yes) (within yes) branch)

pub returns-then-eq-clause-none : goal.returns-then-eq-clause-none
returns-then-eq-clause-none c = c.search_after.ensures.none

pub returns-else-eq-clause-found : goal.returns-else-eq-clause-found
returns-else-eq-clause-found c =
    let a = asked c.args.request.now in
    let some : 0 < a.presentation.letters = omega (arith, c.letters-letters.ensures.letters, c.letters-letters.ensures.some) in
    if_ok_thrice c.search.result _ _ _ _ c.search.ensures.found c.search.ensures.branch c.search.ensures.branch
    (λ b found branch same yes. first_behind a c.args.branch.now.targets.items a.cursor c.search.new.branch.targets.items c.search.new.branch.levels some (found yes) (c.requires.behind (search rules)) branch)

pub returns-else-eq-clause-none : goal.returns-else-eq-clause-none
returns-else-eq-clause-none c =
    on_ok c.search.result _ _ c.search.ensures.none (λ b none no u table w after. none no u table w)
