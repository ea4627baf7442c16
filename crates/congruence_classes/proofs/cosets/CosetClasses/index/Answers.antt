use Rattle.std.proofs.Common.{subst}
use Rattle.problem.specs.declared.kinds.Problem.{Problem}
use Rattle.problem.specs.Problem.{SameClassOf}
use Rattle.congruence_classes.specs.Indexes.{IsIndexWithin}
use Rattle.congruence_classes.proofs.cosets.CosetClasses.index.Goals as goal

pub returns : goal.returns
returns c = subst (λ (p : Problem). IsIndexWithin (SameClassOf p) c.args.bound c.index_in.result) c.self.view_is c.index_in.ensures
