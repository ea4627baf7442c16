use Rattle.std.proofs.Common.{ℕ, List, sym, subst}
use Rattle.sims_one.specs.Known.{IsBranch}
use Rattle.sims_one.specs.declared.branch.Levels.{Levels}
use Rattle.sims_one.proofs.BranchLaws.{branch_start}
use Rattle.sims_one.proofs.branch.Branch.new.Goals as goal

pub returns-clause-branch : goal.returns-clause-branch
returns-clause-branch c = λ p n.
    let levels : Levels = record { known = c.in_ok-known.known; marks = c.new-3.result } in
    subst (λ (ts : List ℕ). IsBranch p n ts levels) (sym c.new-2.ensures.items)
    (branch_start p n levels c.in_ok-known.ensures.nodes c.in_ok-known.ensures.edges c.new-3.ensures.items)
