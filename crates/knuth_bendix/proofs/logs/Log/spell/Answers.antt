use Rattle.std.proofs.Common.{◌≡◌, ◌∙◌, sym, subst, Some}
use Rattle.std.proofs.lemmas.Result.{IfOk-weaker}
use Rattle.chains.specs.Chains.{IsStraight}
use Rattle.chains.specs.Derivations.{Derived}
use Rattle.knuth_bendix.proofs.LogLaws.{log_is, spell_shows}
use Rattle.knuth_bendix.proofs.logs.Log.spell.Goals as goal

pub spell-requires : goal.spell-requires
spell-requires c =
    let shown = c.requires.shown in
    let leads = spell_shows c.args.self.now c.in-Some.facts.derivations (log_is c.args.self.now c.self.inside.facts c.in-Some.facts c.self.view_is c.in-Some.is)
    c.args.from.now shown.1 shown.0 c.args.there.items c.args.back.now c.as_slice.result.now (c.as_slice.ensures.value ∙ c.in_ok-turn_back.ensures) shown.2 shown.3 in
    (leads.0, leads.1)

pub returns : goal.returns
returns c =
    let is = log_is c.args.self.now c.self.inside.facts c.in-Some.facts c.self.view_is c.in-Some.is in
    IfOk-weaker c.spell.result _ _
    (λ chain straight d middle to same there back.
    subst (λ (e : Derived). IsStraight e.presentation c.args.from.now chain.items to) (one c.in-Some.facts.derivations d (sym is ∙ same))
    (straight to (spell_shows c.args.self.now c.in-Some.facts.derivations is c.args.from.now to middle c.args.there.items c.args.back.now c.as_slice.result.now (c.as_slice.ensures.value ∙ c.in_ok-turn_back.ensures) there back)))
    c.spell.ensures
  where
    one : (a b : Derived) → Some a ≡ Some b → a ≡ b
    one a b e = cc
