use Rattle.std.proofs.Common.{◌≡◌, ◌+◌, ℕ, suc, List, [], ◌∷◌, ◌++◌, length, sym, ap, subst, arith, append-nil}
use Rattle.std.proofs.lemmas.List.{length_push}
use Rattle.sims_one.specs.Targets.{IsFront, IsWithin}
use Rattle.sims_one.specs.Known.{IsBranch}
use Rattle.sims_one.specs.Search.{IsLeastBeyond, NoneBeyond, NoneFrom}
use Rattle.sims_one.proofs.FrontLaws.{front_next, front_wants, few_seen}
use Rattle.sims_one.proofs.CursorLaws.{from_start, from_more, from_found, along, kept_all, kept_within}
use Rattle.sims_one.proofs.search.search_next.Goals as goal

-- the targets before the last one
within_before : (cursor s t : List ℕ) (m : ℕ) → IsWithin s cursor → s ≡ t ++ m ∷ [] → IsWithin (t ++ m ∷ []) cursor
within_before cursor s t m w e = subst (λ (xs : List ℕ). IsWithin xs cursor) e w

front_before : (k : ℕ) (cursor t : List ℕ) (m : ℕ) → IsFront k cursor → (w : IsWithin (t ++ m ∷ []) cursor) → IsFront k (t ++ m ∷ w.rest)
front_before k cursor t m front w = subst (λ (xs : List ℕ). IsFront k xs) (along cursor t m w) front

pub loop-branch-init : goal.loop-branch-init
loop-branch-init c =
    let ts : List ℕ = c.args.branch.now.targets.items in
    record {
      within = record { rest = []; is = sym (append-nil ts) };
      none = from_start c.args.presentation.now.presentation c.args.classes ts c.requires.full;
      kept = c.requires.kept;
      branch = c.requires.branch;
    }

pub overflow_add-target : goal.overflow_add-target
overflow_add-target c =
    let p = c.args.presentation.now.presentation in
    let cursor : List ℕ = c.args.branch.now.targets.items in
    let t : List ℕ = c.pop.new.self.targets.items in
    let w = within_before cursor c.loop-branch.branch.targets.items t c.in-Some.target c.loop-branch.invariant.within c.in-Some.ensures.targets in
    let low = front_next p.letters t c.in-Some.target w.rest (front_before p.letters cursor t c.in-Some.target c.requires.branch.front w) in
    let branch : IsBranch p c.args.classes t c.pop.new.self.levels = c.in-Some.ensures.branch p c.args.classes c.loop-branch.invariant.branch in
    omega (arith, low, few_seen p c.args.classes t branch.allowed c.requires.classes)

pub search_from-requires-clause-branch : goal.search_from-requires-clause-branch
search_from-requires-clause-branch c = c.in-Some.ensures.branch c.args.presentation.now.presentation c.args.classes c.loop-branch.invariant.branch

pub search_from-requires-clause-wanting : goal.search_from-requires-clause-wanting
search_from-requires-clause-wanting c =
    let p = c.args.presentation.now.presentation in
    let cursor : List ℕ = c.args.branch.now.targets.items in
    let t : List ℕ = c.pop.new.self.targets.items in
    let w = within_before cursor c.loop-branch.branch.targets.items t c.in-Some.target c.loop-branch.invariant.within c.in-Some.ensures.targets in
    front_wants p.letters t c.in-Some.target w.rest (front_before p.letters cursor t c.in-Some.target c.requires.branch.front w)

pub returns-then-branch-clause-found : goal.returns-then-branch-clause-found
returns-then-branch-clause-found c = λ _.
    let p = c.args.presentation.now.presentation in
    let cursor : List ℕ = c.args.branch.now.targets.items in
    let t : List ℕ = c.pop.new.self.targets.items in
    let m : ℕ = c.in-Some.target in
    let w = within_before cursor c.loop-branch.branch.targets.items t m c.loop-branch.invariant.within c.in-Some.ensures.targets in
    let none = subst (λ (xs : List ℕ). NoneFrom p c.args.classes cursor xs) c.in-Some.ensures.targets c.loop-branch.invariant.none in
    let next : m + 1 ≡ suc m = omega arith in
    let found : List ℕ = c.search_from.new.branch.targets.items in
    from_found p c.args.classes cursor t m w.rest (along cursor t m w) none found
    (subst (λ z. IsLeastBeyond p c.args.classes t z found) next (c.in_ok-search_from.ensures.found c.if-branch.true))

pub loop-branch-preserved : goal.loop-branch-preserved
loop-branch-preserved c =
    let p = c.args.presentation.now.presentation in
    let cursor : List ℕ = c.args.branch.now.targets.items in
    let t : List ℕ = c.pop.new.self.targets.items in
    let m : ℕ = c.in-Some.target in
    let w = within_before cursor c.loop-branch.branch.targets.items t m c.loop-branch.invariant.within c.in-Some.ensures.targets in
    let none = subst (λ (xs : List ℕ). NoneFrom p c.args.classes cursor xs) c.in-Some.ensures.targets c.loop-branch.invariant.none in
    let next : m + 1 ≡ suc m = omega arith in
    let same : c.search_from.new.branch.targets.items ≡ t = c.in_ok-search_from.ensures.same c.if-branch.false in
    record {
      within = subst (λ (xs : List ℕ). IsWithin xs cursor) (sym same) (record { rest = m ∷ w.rest; is = along cursor t m w });
      none = subst (λ (xs : List ℕ). NoneFrom p c.args.classes cursor xs) (sym same)
          (from_more p c.args.classes cursor t m w.rest (along cursor t m w) none
          (subst (λ z. NoneBeyond p c.args.classes t z) next (c.in_ok-search_from.ensures.none c.if-branch.false)));
      kept = omega (arith, c.loop-branch-test.true, c.len.ensures, c.loop-branch.branch.targets.ok.0, ap length c.in-Some.ensures.targets, length_push t m, ap length same);
      branch = c.in_ok-search_from.ensures.branch;
    }

pub returns-then-branch-clause-within : goal.returns-then-branch-clause-within
returns-then-branch-clause-within c = λ _.
    let p = c.args.presentation.now.presentation in
    let cursor : List ℕ = c.args.branch.now.targets.items in
    let t : List ℕ = c.pop.new.self.targets.items in
    let m : ℕ = c.in-Some.target in
    let w = within_before cursor c.loop-branch.branch.targets.items t m c.loop-branch.invariant.within c.in-Some.ensures.targets in
    let b = (c.in_ok-search_from.ensures.found c.if-branch.true).beyond in
    kept_within t cursor c.search_from.new.branch.targets.items m c.args.kept w
    (omega (arith, c.loop-branch-test.true, c.len.ensures, c.loop-branch.branch.targets.ok.0, ap length c.in-Some.ensures.targets, length_push t m))
    (record { rest = b.target ∷ b.rest; is = b.is })

pub returns-in_default-clause-none : goal.returns-in_default-clause-none
returns-in_default-clause-none c = λ _.
    let p = c.args.presentation.now.presentation in
    let none : c.loop-branch.branch.targets.items ≡ [] = c.in_default.ensures.branch p c.args.classes c.loop-branch.invariant.branch in
    absurd (omega (arith, c.loop-branch-test.true, c.len.ensures, c.loop-branch.branch.targets.ok.0, ap length none))

pub returns-clause-none : goal.returns-clause-none
returns-clause-none c = λ _.
    let p = c.args.presentation.now.presentation in
    let cursor : List ℕ = c.args.branch.now.targets.items in
    let all = kept_all c.loop-branch.branch.targets.items cursor c.args.kept c.loop-branch.invariant.within c.loop-branch.invariant.kept
    (omega (arith, c.loop-branch-test.false, c.len.ensures, c.loop-branch.branch.targets.ok.0)) in
    subst (λ (xs : List ℕ). NoneFrom p c.args.classes cursor xs) all c.loop-branch.invariant.none
