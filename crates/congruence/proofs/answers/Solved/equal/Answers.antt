use Rattle.std.proofs.Common.{◌↔◌, subst, Bool, IfOk, IsTrue}
use Rattle.problem.specs.declared.kinds.Problem.{Problem}
use Rattle.problem.specs.Problem.{SameClassOf}
use Rattle.congruence.proofs.ViewLaws.{of_cosets, of_reduced}
use Rattle.congruence.proofs.answers.Solved.equal.Goals as goal

pub returns-in-Cosets : goal.returns-in-Cosets
returns-in-Cosets c =
    subst (λ (k : Problem). IfOk c.equal.result (λ (same : Bool). IsTrue same ↔ SameClassOf k c.args.u.now c.args.v.now))
    (of_cosets c.args.self.now c.self.inside.classes c.self.inside.lanes c.self.view_is c.in-Cosets.classes c.in-Cosets.is)
    c.equal.ensures

pub returns-in-Reduced : goal.returns-in-Reduced
returns-in-Reduced c =
    subst (λ (k : Problem). IfOk c.equal-in-Reduced.result (λ (same : Bool). IsTrue same ↔ SameClassOf k c.args.u.now c.args.v.now))
    (of_reduced c.args.self.now c.self.inside.classes c.self.inside.lanes c.self.view_is c.in-Reduced.classes c.in-Reduced.is)
    c.equal-in-Reduced.ensures
