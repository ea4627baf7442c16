use Rattle.std.proofs.Common.{sym, subst}
use Rattle.chains.specs.Derivations.{AreDerived, Derived, Proves, all_of}
use Rattle.chains.proofs.DerivationLaws.{derived_more}
use Rattle.chains.proofs.derivations.Derivations.push.Goals as goal

pub invariant_of-self-2 : goal.invariant_of-self-2
invariant_of-self-2 c =
    let p = c.self.inside.presentation.presentation in
    subst (AreDerived p) (sym c.in_ok-push.ensures.items) (derived_more p c.self.inside.facts.items c.args.fact c.self.invariant
    (subst (λ (d : Derived). Proves (all_of d) c.args.fact) (sym c.self.view_is) c.requires))
