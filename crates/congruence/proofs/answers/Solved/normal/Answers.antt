use Rattle.std.proofs.Common.{subst, IfOk}
use Rattle.theory.specs.Class.{IsNormal}
use Rattle.problem.specs.declared.kinds.Problem.{Problem}
use Rattle.problem.specs.Problem.{SameClassOf}
use Rattle.congruence.proofs.ViewLaws.{of_cosets, of_reduced}
use Rattle.congruence.proofs.answers.Solved.normal.Goals as goal

pub returns-in-Cosets : goal.returns-in-Cosets
returns-in-Cosets c =
    subst (λ (k : Problem). IfOk c.normal.result (IsNormal (SameClassOf k) c.args.u.now))
    (of_cosets c.args.self.now c.self.inside.classes c.self.inside.lanes c.self.view_is c.in-Cosets.classes c.in-Cosets.is)
    c.normal.ensures

pub returns-in-Reduced : goal.returns-in-Reduced
returns-in-Reduced c =
    subst (λ (k : Problem). IfOk c.normal-in-Reduced.result (IsNormal (SameClassOf k) c.args.u.now))
    (of_reduced c.args.self.now c.self.inside.classes c.self.inside.lanes c.self.view_is c.in-Reduced.classes c.in-Reduced.is)
    c.normal-in-Reduced.ensures
