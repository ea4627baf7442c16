use Rattle.std.proofs.Common.{◌≡◌, ◌≤◌, ◌+◌, ◌++◌, ◌∷◌, [], ℕ, List, sym, ◌∙◌, ap, subst, arith}
use Rattle.std.proofs.lemmas.List.{map_push}
use Rattle.sims_one.specs.Targets.{least_target}
use Rattle.sims_one.specs.Asked.{asked}
use Rattle.sims_one.specs.Fronts.{lists_in}
use Rattle.sims_one.proofs.CutLaws.{AreSplit, split_more, split_first, open_more, open_none}
use Rattle.sims_one.proofs.cut.first_fronts.Goals as goal

pub loop-target-preserved : goal.loop-target-preserved
loop-target-preserved c =
    let a = asked c.args.request.now in
    let f : ℕ = c.loop-target.target in
    let least : least_target a.presentation.is_monoid ≤ f = omega (arith, c.loop-target.auto.target, c.least_target-target.ensures) in
    let opened = open_more a [] f (open_none a) (omega (arith, c.letters-letters.ensures.letters, c.letters-letters.ensures.some)) (omega (arith, c.loop-target-test.true, c.min-limit.ensures)) least
    (omega (arith, c.loop-target-test.true, c.min-limit.ensures, c.most_nodes.ensures)) in
    let added : lists_in c.push.new.self.items ≡ lists_in c.loop-target.fronts.items ++ (f ∷ []) ∷ [] =
    ap lists_in c.in_ok-push.ensures.items ∙ map_push (λ v. v.items) c.loop-target.fronts.items c.in_ok-from_slice.field-0 ∙ ap (λ (t : List ℕ). lists_in c.loop-target.fronts.items ++ t ∷ []) c.in_ok-from_slice.ensures.items in
    subst (AreSplit a [] (f + 1)) (sym added) (split_more a [] f (lists_in c.loop-target.fronts.items) c.loop-target.invariant least opened)

pub returns : goal.returns
returns c =
    let a = asked c.args.request.now in
    split_first a c.loop-target.target (lists_in c.loop-target.fronts.items) c.loop-target.invariant (omega (arith, c.letters-letters.ensures.letters, c.letters-letters.ensures.some))
    (λ m most low. omega (arith, most, low, c.loop-target-test.false, c.min-limit.ensures, c.most_nodes.ensures))
