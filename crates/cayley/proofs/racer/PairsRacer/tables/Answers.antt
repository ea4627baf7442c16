use Rattle.std.proofs.Common.{ap, sym, subst, ◌∙◌}
use Rattle.cayley.specs.Run.{PairsRun, IsRun}
use Rattle.cayley.proofs.racer.PairsRacer.tables.Goals as goal

pub returns-clause-tables : goal.returns-clause-tables
returns-clause-tables g c =
    let is : IsRun g.E.Values.shape g.E.Values.product g.E.PartialEq.eq c.args.self.now = subst (λ (r : PairsRun g.row.E.Denot). IsRun g.E.Values.shape g.E.Values.product g.E.PartialEq.eq r) c.self.view_is c.self.invariant in
    is.tables c.in-Some.tables (ap (λ (r : PairsRun g.row.E.Denot). r.tables) (sym c.self.view_is) ∙ c.in-Some.is)
