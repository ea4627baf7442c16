use Rattle.std.proofs.Common.{subst}
use Rattle.cayley.specs.Run.{PairsRun, IsRun}
use Rattle.cayley.proofs.racer.PairsRacer.is_spent.Goals as goal

pub returns-clause-more : goal.returns-clause-more
returns-clause-more g c =
    (subst (λ (r : PairsRun g.row.E.Denot). IsRun g.E.Values.shape g.E.Values.product g.E.PartialEq.eq r) c.self.view_is c.self.invariant).spent
