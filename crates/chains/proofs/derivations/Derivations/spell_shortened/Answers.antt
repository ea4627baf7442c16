use Rattle.std.proofs.Common.{◌∙◌, refl, subst}
use Rattle.std.proofs.lemmas.Result.{IfOk-weaker}
use Rattle.theory.specs.Congruence.{Presentation}
use Rattle.theory.specs.PlacedStep.{last_word}
use Rattle.chains.specs.Chains.{IsStraight}
use Rattle.chains.proofs.LighterLaws.{leads_lightest}
use Rattle.chains.proofs.derivations.Derivations.spell_shortened.Goals as goal

pub spell_as_given-requires : goal.spell_as_given-requires
spell_as_given-requires c =
    let leads = leads_lightest c.args.self.now c.in_ok-light.light c.in_ok-lightest.lightest c.args.from.now c.args.steps.now c.in_ok-light.lighter.items c.as_slice.result.now
    c.in_ok-lightest.least.items c.as_slice-2.result.now c.in_ok-light.ensures.log c.in_ok-light.ensures.steps c.as_slice.ensures.value c.in_ok-lightest.ensures.log
    c.in_ok-lightest.ensures.steps c.as_slice-2.ensures.value (last_word c.args.from.now c.requires.0) (c.requires.0, c.requires.1, refl) in
    (leads.0, leads.1)

pub returns : goal.returns
returns c =
    IfOk-weaker c.spell_as_given.result _ _
    (λ chain straight to leads.
    subst (λ (p : Presentation). IsStraight p c.args.from.now chain.items to) (c.in_ok-lightest.ensures.log.presentation ∙ c.in_ok-light.ensures.log.presentation)
    (straight to
    (leads_lightest c.args.self.now c.in_ok-light.light c.in_ok-lightest.lightest c.args.from.now c.args.steps.now c.in_ok-light.lighter.items c.as_slice.result.now
    c.in_ok-lightest.least.items c.as_slice-2.result.now c.in_ok-light.ensures.log c.in_ok-light.ensures.steps c.as_slice.ensures.value c.in_ok-lightest.ensures.log
    c.in_ok-lightest.ensures.steps c.as_slice-2.ensures.value to leads)))
    c.spell_as_given.ensures
