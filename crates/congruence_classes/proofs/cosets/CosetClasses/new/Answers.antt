use Rattle.std.proofs.Common.{sym, subst}
use Rattle.problem.specs.declared.kinds.Problem.{Problem}
use Rattle.congruence_classes.specs.ClassLists.{IsSolutionFor, coset_list}
use Rattle.congruence_classes.proofs.cosets.CosetClasses.new.Goals as goal

pub invariant_of-result : goal.invariant_of-result
invariant_of-result c =
    subst (λ (p : Problem). IsSolutionFor p (coset_list c.in_ok-list.list)) (sym c.in_ok-copy.ensures) c.in_ok-list.ensures
