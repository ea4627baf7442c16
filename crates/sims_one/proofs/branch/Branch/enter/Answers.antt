use Rattle.std.proofs.Common.{◌≡◌, ◌*◌, ◌<◌, ℕ, List, [], length, Bool, subst, sym, ◌∙◌, arith, refl}
use Rattle.sims_one.specs.Known.{Extends, IsBranch}
use Rattle.sims_one.specs.declared.branch.Levels.{Levels}
use Rattle.sims_one.proofs.FrontLaws.{front_wants, allowed_next, few_seen, most_few}
use Rattle.sims_one.proofs.KnownLaws.{known_push, known_fails}
use Rattle.sims_one.proofs.TrailLaws.{forgotten}
use Rattle.sims_one.proofs.BranchLaws.{branch_same, branch_push}
use Rattle.sims_one.proofs.branch.Branch.enter.Goals as goal

pub extend-requires-clause-place : goal.extend-requires-clause-place
extend-requires-clause-place c =
    let p = c.args.presentation.now.presentation in
    let ts : List ℕ = c.args.self.now.targets.items in
    let here : c.len-place.result ≡ length ts = omega (arith, c.len-place.ensures, c.args.self.now.targets.ok.0) in
    let wants = front_wants p.letters ts c.args.target [] c.requires.front in
    subst (λ z. c.len-place.result < p.letters * z) (sym c.requires.branch.last.nodes) (omega (arith, wants, here))

pub extend-requires-clause-few : goal.extend-requires-clause-few
extend-requires-clause-few c =
    let p = c.args.presentation.now.presentation in
    omega (arith, few_seen p c.args.classes c.args.self.now.targets.items c.requires.branch.allowed c.requires.classes, c.requires.branch.last.nodes)

pub extend-requires-clause-target : goal.extend-requires-clause-target
extend-requires-clause-target c =
    let p = c.args.presentation.now.presentation in
    let next = allowed_next p c.args.classes c.args.self.now.targets.items c.args.target [] c.requires.allowed in
    omega (arith, next.1, most_few p.is_monoid c.args.classes c.requires.classes)

pub returns-then-not-branch-clause-none : goal.returns-then-not-branch-clause-none
returns-then-not-branch-clause-none c = λ _.
    let p = c.args.presentation.now.presentation in
    let ts : List ℕ = c.args.self.now.targets.items in
    let known = c.args.self.now.levels.known in
    let here : c.len-place.result ≡ length ts = omega (arith, c.len-place.ensures, c.args.self.now.targets.ok.0) in
    known_fails p c.args.classes ts known c.requires.branch.last c.args.target c.len-place.result c.extend.new.known here
    (subst (λ (b : Bool). Extends p known c.len-place.result c.args.target c.extend.new.known b) c.if-not-branch.true c.in_ok-extend.ensures.extends)

pub returns-then-not-branch-clause-branch : goal.returns-then-not-branch-clause-branch
returns-then-not-branch-clause-branch c =
    let levels = c.args.self.now.levels in
    let back = forgotten levels.known c.extend.new.known c.mark-mark.result.edges c.in_ok-extend.ensures.grows c.mark-mark.ensures.edges in
    branch_same c.args.presentation.now.presentation c.args.classes c.args.self.now.targets.items levels c.requires.branch (record levels { known = c.forget.new.self })
    (c.forget.ensures.nodes ∙ c.mark-mark.ensures.nodes) (c.forget.ensures.targets ∙ back.0) (c.forget.ensures.trail ∙ back.1) refl

pub returns-clause-branch : goal.returns-clause-branch
returns-clause-branch c =
    let p = c.args.presentation.now.presentation in
    let ts : List ℕ = c.args.self.now.targets.items in
    let levels = c.args.self.now.levels in
    let here : c.len-place.result ≡ length ts = omega (arith, c.len-place.ensures, c.args.self.now.targets.ok.0) in
    let extends = subst (λ (b : Bool). Extends p levels.known c.len-place.result c.args.target c.extend.new.known b) c.if-not-branch.false c.in_ok-extend.ensures.extends in
    let last = known_push p c.args.classes ts levels.known c.requires.branch.last c.args.target c.len-place.result c.extend.new.known here c.in_ok-extend.ensures.nodes extends in
    let new : Levels = record { known = c.extend.new.known; marks = c.push.new.self } in
    subst (λ (xs : List ℕ). IsBranch p c.args.classes xs new) (sym c.in_ok-push-2.ensures.items)
    (branch_push p c.args.classes ts levels c.requires.branch c.args.target c.mark-mark.result new c.requires.front c.requires.allowed last
    c.in_ok-extend.ensures.grows c.mark-mark.ensures.nodes c.mark-mark.ensures.edges c.in_ok-push.ensures.items)
