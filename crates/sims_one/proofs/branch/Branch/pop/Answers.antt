use Rattle.sims_one.proofs.BranchLaws.{branch_pop}
use Rattle.sims_one.proofs.branch.Branch.pop.Goals as goal

pub returns-in-Some-pop-clause-branch : goal.returns-in-Some-pop-clause-branch
returns-in-Some-pop-clause-branch c = λ p n is.
    branch_pop p n c.args.self.now.targets.items c.args.self.now.levels is c.pop.new.self.items c.in-Some.target
    (record { known = c.forget.new.self; marks = c.pop-2.new.self }) c.in-Some-pop.mark c.in-Some.ensures.items c.in-Some-pop.ensures.items
    c.forget.ensures.nodes c.forget.ensures.targets c.forget.ensures.trail
