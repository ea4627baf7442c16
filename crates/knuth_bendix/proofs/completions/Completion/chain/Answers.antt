use Rattle.std.proofs.Common.{◌∙◌, sym, ap, subst, subst₂, List}
use Rattle.theory.specs.Word.{Word}
use Rattle.theory.specs.Congruence.{Presentation}
use Rattle.chains.specs.Chains.{IsStraight}
use Rattle.chains.specs.declared.steps.ChainStep.{ChainStep}
use Rattle.knuth_bendix.specs.Logs.{Shows}
use Rattle.knuth_bendix.specs.Runs.{CompletionRun}
use Rattle.knuth_bendix.proofs.OverlapSteps.{different_tested}
use Rattle.knuth_bendix.proofs.SortedRules.{decided_run}
use Rattle.knuth_bendix.proofs.SpelledChains.{logged_of, reduced_alike, some_logged}
use Rattle.knuth_bendix.proofs.completions.Completion.chain.Goals as goal

pub returns-then-ne : goal.returns-then-ne
returns-then-ne c =
    let p : Presentation = c.args.self.now.presentation in
    let run = decided_run c.self.inside.presentation.presentation p c.self.inside.length c.args.self.now.length c.self.inside.rules c.self.inside.pending.equations c.self.inside.said c.args.self.now.said
    c.self.invariant.0 (ap (λ (r : CompletionRun). r.presentation) c.self.view_is) (ap (λ (r : CompletionRun). r.length) c.self.view_is) (ap (λ (r : CompletionRun). r.said) c.self.view_is) c.requires.decided in
    λ related. (different_tested c.in_ok-left.left c.in_ok-right.right c.letters.result.now c.letters-2.result.now c.ne.result c.letters.ensures c.letters-2.ensures c.ne.ensures).0 c.if-ne.true
    (reduced_alike p c.args.self.now.length c.self.inside.rules run c.args.u.now c.args.v.now c.in_ok-left.left c.in_ok-right.right
    c.in_ok-left.ensures.reached c.in_ok-left.ensures.reduced c.in_ok-right.ensures.reached c.in_ok-right.ensures.reduced related)

pub spell-requires-clause-shown : goal.spell-requires-clause-shown
spell-requires-clause-shown c =
    let same = (different_tested c.in_ok-left.left c.in_ok-right.right c.letters.result.now c.letters-2.result.now c.ne.result c.letters.ensures c.letters-2.ensures c.ne.ensures).1 c.if-ne.false in (
      c.in_ok-left.left,
      c.args.v.now,
      c.in_ok-left.ensures.shown,
      subst₂ (λ (s : List ChainStep) (w : Word). Shows c.self.inside.pending.log c.args.v.now s w) (sym c.as_slice.ensures.value) (sym same) c.in_ok-right.ensures.shown,
    )

pub returns : goal.returns
returns c =
    let same = (different_tested c.in_ok-left.left c.in_ok-right.right c.letters.result.now c.letters-2.result.now c.ne.result c.letters.ensures c.letters-2.ensures c.ne.ensures).1 c.if-ne.false in
    let some = some_logged c.self.inside.pending.log (ap (λ (r : CompletionRun). r.logged) c.self.view_is ∙ c.requires.logged) in
    let of = logged_of c.self.inside.presentation.presentation c.self.inside.pending.log some.0 c.self.invariant.1 some.1 in
    subst (λ (q : Presentation). IsStraight q c.args.u.now c.in_ok-chain.chain.items c.args.v.now) (of ∙ ap (λ (r : CompletionRun). r.presentation) c.self.view_is)
    (c.in_ok-chain.ensures some.0 c.in_ok-left.left c.args.v.now some.1 c.in_ok-left.ensures.shown
    (subst₂ (λ (s : List ChainStep) (w : Word). Shows c.self.inside.pending.log c.args.v.now s w) (sym c.as_slice.ensures.value) (sym same) c.in_ok-right.ensures.shown))
