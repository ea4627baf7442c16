use Rattle.std.proofs.Common.{◌≡◌, subst, length, arith}
use Rattle.sims_one.specs.Asked.{asked}
use Rattle.sims_one.specs.Fronts.{lists_in, AreJoined}
use Rattle.sims_one.proofs.CutLaws.{joined_end, no_lists}
use Rattle.sims_one.proofs.batches.Sweep.run.Goals as goal

pub returns-clause-over : goal.returns-clause-over
returns-clause-over g c = λ one.
    let a = asked c.args.request.now in
    let us = lists_in c.loop-self.self.tables.items in
    let none : length c.loop-self.self.fronts.items ≡ 0 = omega (arith, one, c.loop-self-test.false, c.len.ensures, c.loop-self.self.fronts.ok.0) in
    joined_end a us (subst (λ ts. AreJoined a ts us) (no_lists c.loop-self.self.fronts.items none) c.loop-self.invariant)
