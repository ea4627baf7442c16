use Rattle.std.proofs.Common.{◌≡◌, ◌≢◌, ℕ, ◌<◌, None, length, sym, subst, arith, inl, inr, List}
use Rattle.std.proofs.lemmas.Bool.{cases_lt}
use Rattle.std.proofs.lemmas.List.{get_or_read}
use Rattle.theory.specs.Graph.{target}
use Rattle.word_graph.specs.Walk.{IsFirstMissing}
use Rattle.word_graph.specs.Steps.{step_at, IsWalkedTo}
use Rattle.word_graph.specs.declared.walks.Step.{Step}
use Rattle.word_graph.proofs.StepLaws.{all_there, missing_at}
use Rattle.word_graph.proofs.graphs.WordGraph.first_missing.Goals as goal

pub returns-in-Some : goal.returns-in-Some
returns-in-Some c = λ k graph.
    let items : c.deref-step-items.result.now ≡ c.in_ok-walk.walk.steps.items = c.deref-step-items.ensures.value in
    let at : c.step-item.result ≡ step_at c.deref-step-items.result.now c.loop-step.step-index = get_or_read _ _ _ c.loop-step-test.true c.step-item.is (record { node = 0; parent = 0; letter = 0 }) in
    let is : IsWalkedTo k c.args.self.now c.deref-step-items.result.now c.in_ok-walk.walk.places.items (length c.deref-step-items.result.now) 0 =
    subst (λ (xs : List Step). IsWalkedTo k c.args.self.now xs c.in_ok-walk.walk.places.items (length xs) 0) (sym items) (c.in_ok-walk.ensures k graph) in
    let some = c.in-Some.ensures.some k graph in
    let here : target c.args.self.now (step_at c.deref-step-items.result.now c.loop-step.step-index).node c.in-Some.letter ≡ None = subst (λ (s : Step). target c.args.self.now s.node c.in-Some.letter ≡ None) at some.1 in
    subst (λ (s : Step). IsFirstMissing k c.args.self.now s.node c.in-Some.letter) (sym at)
    (missing_at k c.args.self.now c.deref-step-items.result.now c.in_ok-walk.walk.places.items c.loop-step.step-index c.in-Some.letter is c.loop-step-test.true some.0 here
    (subst (λ (s : Step). (b : ℕ) → b < c.in-Some.letter → target c.args.self.now s.node b ≢ None) at c.in-Some.ensures.least)
    (λ p b hp hb. c.loop-step.invariant k p b graph hp hb))

pub loop-step-preserved : goal.loop-step-preserved
loop-step-preserved c = λ k p b graph hp hb.
    let at : c.step-item.result ≡ step_at c.deref-step-items.result.now c.loop-step.step-index = get_or_read _ _ _ c.loop-step-test.true c.step-item.is (record { node = 0; parent = 0; letter = 0 }) in
    elim (cases_lt p c.loop-step.step-index) [
      | inl old ↦ c.loop-step.invariant k p b graph old hb
      | inr new ↦
          let e : p ≡ c.loop-step.step-index = omega arith in
          subst (λ z. target c.args.self.now (step_at c.deref-step-items.result.now z).node b ≢ None) (sym e)
          (subst (λ (s : Step). target c.args.self.now s.node b ≢ None) at (c.in_default.ensures.none k b graph hb))
    ]

pub returns : goal.returns
returns c = λ k graph.
    let items : c.deref-step-items.result.now ≡ c.in_ok-walk.walk.steps.items = c.deref-step-items.ensures.value in
    let is : IsWalkedTo k c.args.self.now c.deref-step-items.result.now c.in_ok-walk.walk.places.items (length c.deref-step-items.result.now) 0 =
    subst (λ (xs : List Step). IsWalkedTo k c.args.self.now xs c.in_ok-walk.walk.places.items (length xs) 0) (sym items) (c.in_ok-walk.ensures k graph) in
    all_there k c.args.self.now c.deref-step-items.result.now c.in_ok-walk.walk.places.items is
    (λ p b hp hb. c.loop-step.invariant k p b graph (omega (arith, hp, c.loop-step-test.false)) hb)
