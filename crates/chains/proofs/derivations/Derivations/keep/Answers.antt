use Rattle.std.proofs.Common.{◌≡◌, ◌+◌, ◌<◌, ◌∙◌, List, length, ap, sym, subst, slice_get, Some}
use Rattle.std.proofs.lemmas.Option.{slice_get-get_or}
use Rattle.theory.specs.Word.{Word}
use Rattle.theory.specs.PlacedStep.{LeadTo}
use Rattle.chains.specs.Chains.{AllFit, IsStraight, steps_of}
use Rattle.chains.specs.Derivations.{AreKept, Derived, all_of}
use Rattle.chains.specs.declared.steps.ChainStep.{ChainStep}
use Rattle.chains.proofs.DerivationLaws.{proves_all}
use Rattle.chains.proofs.SpellLaws.{kept_more}
use Rattle.chains.proofs.derivations.Derivations.keep.Goals as goal

pub spell_by-requires-clause-fits : goal.spell_by-requires-clause-fits
spell_by-requires-clause-fits c =
    let d : Derived = record { presentation = c.self.inside.presentation.presentation; facts = c.self.inside.facts.items } in
    let within = subst (λ (d : Derived). c.args.number < length d.facts) (sym c.self.view_is) c.requires.within in
    let at : slice_get d.facts c.args.number ≡ Some c.index-fact.result.now =
    slice_get-get_or d.facts c.args.number c.index-fact.result.now within ∙ ap (λ f. Some f) (sym c.index-fact.ensures) in
    let proves = proves_all d.presentation d.facts c.args.number c.index-fact.result.now c.self.invariant at in
    subst (λ (d : Derived). AllFit (all_of d) c.index-fact.result.now.left c.as_slice.result.now) c.self.view_is
    (subst (λ (ss : List ChainStep). AllFit (all_of d) c.index-fact.result.now.left ss) (sym c.as_slice.ensures.value) (proves.0, proves.1))

pub returns : goal.returns
returns c =
    let d : Derived = record { presentation = c.self.inside.presentation.presentation; facts = c.self.inside.facts.items } in
    let fact = c.index-fact.result.now in
    let within = subst (λ (d : Derived). c.args.number < length d.facts) (sym c.self.view_is) c.requires.within in
    let at : slice_get d.facts c.args.number ≡ Some fact = slice_get-get_or d.facts c.args.number fact within ∙ ap (λ f. Some f) (sym c.index-fact.ensures) in
    let are = subst (λ (d : Derived). AreKept d c.args.kept.now) (sym c.self.view_is) c.requires.kept in
    let spelled = subst (λ (d : Derived). (to : Word) → LeadTo (all_of d) fact.left (steps_of fact.steps.items) to → IsStraight d.presentation fact.left c.in_ok-chain.chain.items to) (sym c.self.view_is)
    (subst (λ (steps : List ChainStep). (to : Word) → LeadTo (all_of c.args.self.now) fact.left (steps_of steps) to → IsStraight c.args.self.now.presentation fact.left c.in_ok-chain.chain.items to)
    c.as_slice.ensures.value c.in_ok-chain.ensures) in
    subst (λ (d : Derived). AreKept d c.insert.new.self) c.self.view_is
    (kept_more d c.self.invariant c.args.kept.now c.insert.new.self c.args.number (c.len.result + c.args.number) fact c.in_ok-chain.chain are at
    (ap (λ n. n + c.args.number) (c.len.ensures ∙ ap (λ (rs : List (Word × Word)). length rs) c.relations.ensures.relations)) spelled c.in_ok-_none.ensures.updates)
