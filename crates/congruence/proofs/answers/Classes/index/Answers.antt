use Rattle.std.proofs.Common.{ap, sym, subst, IfOk}
use Rattle.problem.specs.declared.kinds.Problem.{Problem}
use Rattle.problem.specs.Problem.{SameClassOf}
use Rattle.congruence_classes.specs.Indexes.{IsIndexWithin}
use Rattle.congruence.specs.Classes.{problem_of}
use Rattle.congruence.proofs.answers.Classes.index.Goals as goal

pub returns-in-Cosets-clause-index : goal.returns-in-Cosets-clause-index
returns-in-Cosets-clause-index c =
    subst (λ (k : Problem). IfOk c.index.result (IsIndexWithin (SameClassOf k) c.args.bound)) (sym (ap problem_of c.in-Cosets.is)) c.index.ensures

pub returns-in-Reduced-clause-index : goal.returns-in-Reduced-clause-index
returns-in-Reduced-clause-index c =
    subst (λ (k : Problem). IfOk c.index-in-Reduced.result (IsIndexWithin (SameClassOf k) c.args.bound)) (sym (ap problem_of c.in-Reduced.is))
    c.index-in-Reduced.ensures.index

pub returns-in-Elements-clause-index : goal.returns-in-Elements-clause-index
returns-in-Elements-clause-index c =
    subst (λ (k : Problem). IsIndexWithin (SameClassOf k) c.args.bound c.index_of_elements.result) (sym (ap problem_of c.in-Elements.is)) c.index_of_elements.ensures
