use Rattle.std.proofs.Common.{subst}
use Rattle.problem.specs.declared.kinds.Problem.{Problem}
use Rattle.problem.specs.Problem.{SameClassOf}
use Rattle.congruence_classes.specs.Indexes.{IsIndexWithin}
use Rattle.congruence.proofs.answers.index_of_elements.Goals as goal

pub returns : goal.returns
returns c = subst (λ (k : Problem). IsIndexWithin (SameClassOf k) c.args.bound c.index_in.result) c.problem.ensures.is c.index_in.ensures
