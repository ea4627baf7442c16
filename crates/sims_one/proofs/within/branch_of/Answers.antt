use Rattle.std.proofs.Common.{◌++◌, ◌∷◌, [], List, ℕ, get_or, sym, subst}
use Rattle.sims_one.specs.Targets.{IsFront, AreAllowed}
use Rattle.sims_one.specs.Search.{NoneWithin}
use Rattle.sims_one.specs.Asked.{asked}
use Rattle.sims_one.proofs.WantedLaws.{open_next, none_next}
use Rattle.sims_one.proofs.within.branch_of.Goals as goal

pub loop-target-init : goal.loop-target-init
loop-target-init c = record {
  same = c.in_ok-branch.ensures.targets;
  branch = c.in_ok-branch.ensures.branch c.args.request.now.presentation.now.presentation c.args.request.now.classes;
}

pub enter-requires-clause-front : goal.enter-requires-clause-front
enter-requires-clause-front c =
    let a = asked c.args.request.now in
    let t : List ℕ = c.args.front.now in
    let i : ℕ = c.loop-target.target-index in
    subst (λ (xs : List ℕ). IsFront a.presentation.letters (xs ++ get_or t i 0 ∷ [])) (sym c.loop-target.invariant.same) (open_next a t i c.loop-target-test.true c.requires.opened).front

pub enter-requires-clause-allowed : goal.enter-requires-clause-allowed
enter-requires-clause-allowed c =
    let a = asked c.args.request.now in
    let t : List ℕ = c.args.front.now in
    let i : ℕ = c.loop-target.target-index in
    subst (λ (xs : List ℕ). AreAllowed a.presentation a.classes (xs ++ get_or t i 0 ∷ [])) (sym c.loop-target.invariant.same) (open_next a t i c.loop-target-test.true c.requires.opened).allowed

pub returns-then-not-branch : goal.returns-then-not-branch
returns-then-not-branch c =
    let a = asked c.args.request.now in
    let t : List ℕ = c.args.front.now in
    let i : ℕ = c.loop-target.target-index in
    none_next a t i c.loop-target-test.true
    (subst (λ (xs : List ℕ). NoneWithin a.presentation a.classes (xs ++ get_or t i 0 ∷ [])) c.loop-target.invariant.same (c.in_ok-enter.ensures.none c.if-not-branch.true))
