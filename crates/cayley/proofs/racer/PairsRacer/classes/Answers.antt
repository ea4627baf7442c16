use Rattle.std.proofs.Common.{ap, sym, subst, ◌∙◌}
use Rattle.cayley.specs.Run.{PairsRun, IsRun}
use Rattle.cayley.proofs.RunLaws.{decided_classes}
use Rattle.cayley.proofs.racer.PairsRacer.classes.Goals as goal

pub returns-clause-classes : goal.returns-clause-classes
returns-clause-classes g c = λ tables there unused.
    let is : IsRun g.E.Values.shape g.E.Values.product g.E.PartialEq.eq c.args.self.now = subst (λ (r : PairsRun g.row.E.Denot). IsRun g.E.Values.shape g.E.Values.product g.E.PartialEq.eq r) c.self.view_is c.self.invariant in
    decided_classes g.E.Values.shape g.E.Values.product g.E.PartialEq.eq g.met.E.Values.products c.args.self.now is c.requires c.in-Some.classes
    (ap (λ (r : PairsRun g.row.E.Denot). r.classes) (sym c.self.view_is) ∙ c.in-Some.is) tables there unused
