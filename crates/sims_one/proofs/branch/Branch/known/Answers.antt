use Rattle.sims_one.proofs.branch.Branch.known.Goals as goal

pub returns : goal.returns
returns c = λ p n is. is.last
