use Rattle.std.proofs.Common.{◌≡◌, ◌<◌, ◌∙◌, List, length, map, option_map, Option, Some, slice_get, sym, ap, ap₂, subst, subst₂}
use Rattle.std.proofs.lemmas.Option.{slice_get-get_or, slice_get-map}
use Rattle.theory.specs.Word.{Word}
use Rattle.theory.specs.PlacedStep.{LeadTo}
use Rattle.chains.specs.Chains.{steps_of}
use Rattle.chains.specs.Derivations.{Derived, IsFrontOf, LeadAlike, all_of, pair_of}
use Rattle.chains.specs.declared.derivations.Fact.{Fact}
use Rattle.chains.specs.declared.steps.ChainStep.{ChainStep}
use Rattle.chains.proofs.LighterLaws.{proves_over}
use Rattle.chains.proofs.derivations.Derivations.fact_over.Goals as goal

pub returns-clause-proves : goal.returns-clause-proves
returns-clause-proves c =
    let d : Derived = record { presentation = c.self.inside.presentation.presentation; facts = c.self.inside.facts.items } in
    let fact = c.index-fact.result.now in
    let within = subst (λ (d : Derived). c.args.number < length d.facts) (sym c.self.view_is) c.requires.within in
    let at : slice_get d.facts c.args.number ≡ Some fact = slice_get-get_or d.facts c.args.number fact within ∙ ap (λ f. Some f) (sym c.index-fact.ensures) in
    let front = subst (λ (d : Derived). IsFrontOf c.args.number d c.args.light.now) (sym c.self.view_is) c.requires.front in
    let alike = subst (λ (steps : List ChainStep). LeadAlike (all_of c.args.light.now) fact.left steps c.in_ok-steps.steps.items) c.as_slice.ensures.value c.in_ok-steps.ensures in
    subst₂ (λ (u v : Word). LeadTo (all_of c.args.light.now) u (steps_of c.in_ok-steps.steps.items) v) (sym c.in_ok-copy.ensures) (sym c.in_ok-copy-2.ensures)
    (proves_over c.args.number d c.args.light.now fact c.in_ok-steps.steps.items c.self.invariant front at alike)

pub returns-clause-words : goal.returns-clause-words
returns-clause-words c =
    let d : Derived = record { presentation = c.self.inside.presentation.presentation; facts = c.self.inside.facts.items } in
    let fact = c.index-fact.result.now in
    let within = subst (λ (d : Derived). c.args.number < length d.facts) (sym c.self.view_is) c.requires.within in
    let at : slice_get d.facts c.args.number ≡ Some fact = slice_get-get_or d.facts c.args.number fact within ∙ ap (λ f. Some f) (sym c.index-fact.ensures) in
    subst (λ (d : Derived). slice_get (map pair_of d.facts) c.args.number ≡ Some (c.in_ok-copy.field-0, c.in_ok-copy-2.field-0)) c.self.view_is
    (slice_get-map pair_of d.facts c.args.number ∙ ap (λ (o : Option Fact). option_map pair_of o) at
    ∙ ap₂ (λ (u v : Word). Some (u, v)) (sym c.in_ok-copy.ensures) (sym c.in_ok-copy-2.ensures))
