use Rattle.std.proofs.Common.{List, subst}
use Rattle.theory.specs.PlacedStep.{LeadTo}
use Rattle.chains.specs.Chains.{steps_of}
use Rattle.chains.specs.Derivations.{all_of}
use Rattle.chains.specs.declared.steps.ChainStep.{ChainStep}
use Rattle.chains.proofs.LighterLaws.{ended, leads_alike}
use Rattle.chains.proofs.derivations.Derivations.find_lighter.Goals as goal

pub returns : goal.returns
returns c =
    let p = all_of c.args.self.now in
    let leads = ended p c.args.from.now c.args.steps.now c.in_ok-to.field-0 (c.in-Some.to, c.in-Some.letters) c.in_ok-to.ensures c.in-Some.is in
    leads_alike p c.args.from.now c.in-Some.to c.args.steps.now c.in-Some-2.found.items leads
    (subst (λ (steps : List ChainStep). LeadTo p c.args.from.now (steps_of steps) c.in-Some.to) c.as_slice.ensures.value (c.in_ok-do_lead.ensures c.if-not-branch.false))
