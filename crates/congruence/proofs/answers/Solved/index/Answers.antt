use Rattle.std.proofs.Common.{ap, subst, IfOk}
use Rattle.problem.specs.declared.kinds.Problem.{Problem}
use Rattle.problem.specs.Problem.{SameClassOf}
use Rattle.congruence_classes.specs.Indexes.{IsIndexWithin}
use Rattle.congruence.specs.Solution.{Solution}
use Rattle.congruence.proofs.answers.Solved.index.Goals as goal

pub returns-clause-index : goal.returns-clause-index
returns-clause-index c =
    subst (λ (k : Problem). IfOk c.index.result (IsIndexWithin (SameClassOf k) c.args.bound)) (ap (λ (s : Solution). s.problem) c.self.view_is)
    c.index.ensures.index
