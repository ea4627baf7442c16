use Rattle.std.proofs.Common.{◌≡◌, ◌<◌, ◌++◌, ◌∷◌, [], ℕ, List, length, slice_get, Some, subst, sym, ◌∙◌, arith, refl, rules}
use Rattle.sims_one.specs.Targets.{least_target, IsWithin}
use Rattle.sims_one.specs.Asked.{asked}
use Rattle.sims_one.specs.Fronts.{lists_in, IsOpen, AddsLonger}
use Rattle.sims_one.proofs.FrontLaws.{before_both, times_more, place_small, wanting_here, few_seen}
use Rattle.sims_one.proofs.KnownLaws.{target_beyond}
use Rattle.sims_one.proofs.BranchLaws.{popped}
use Rattle.sims_one.proofs.CutLaws.{adds, adds_none, has_split_from, has_split_on, split_end, open_more}
use Rattle.sims_one.proofs.cut.+grow.Goals as goal

pub grow-returns-then-eq-clause-fronts : goal.grow-returns-then-eq-clause-fronts
grow-returns-then-eq-clause-fronts t c =
    let a = asked c.args.request.now in
    let ts : List ℕ = c.args.branch.now.targets.items in
    adds_none a ts (lists_in c.args.fronts.now.items)
    (λ u table w after. before_both u a.cursor (c.place_of.ensures.less (search rules) u (subst (λ (xs : List ℕ). IsWithin xs u) (sym c.deref.ensures.value) w)) after)

pub grow-overflow_mul-letters : goal.grow-overflow_mul-letters
grow-overflow_mul-letters t c =
    let p = c.args.request.now.presentation.now.presentation in
    let known = c.known-known.ensures p c.args.request.now.classes c.requires.branch in
    let few = few_seen p c.args.request.now.classes c.args.branch.now.targets.items c.requires.branch.allowed c.requires.asked.few in
    omega (arith, times_more c.letters.result c.known-known.result.now.nodes 17 (omega (arith, few, known.nodes)), c.letters.ensures.few)

pub grow-least_candidate-least-requires : goal.grow-least_candidate-least-requires
grow-least_candidate-least-requires t c =
    let p = c.args.request.now.presentation.now.presentation in
    let known = c.known-known.ensures p c.args.request.now.classes c.requires.branch in
    let few = few_seen p c.args.request.now.classes c.args.branch.now.targets.items c.requires.branch.allowed c.requires.asked.few in
    place_small c.letters.result c.known-known.result.now.nodes c.len-place.result c.letters.ensures.few (omega (arith, few, known.nodes)) c.if-letters-known.false

pub grow-candidate_limit-limit-requires-clause-place :
    goal.grow-candidate_limit-limit-requires-clause-place
grow-candidate_limit-limit-requires-clause-place t c =
    let p = c.args.request.now.presentation.now.presentation in
    let known = c.known-known.ensures p c.args.request.now.classes c.requires.branch in
    let few = few_seen p c.args.request.now.classes c.args.branch.now.targets.items c.requires.branch.allowed c.requires.asked.few in
    place_small c.letters.result c.known-known.result.now.nodes c.len-place.result c.letters.ensures.few (omega (arith, few, known.nodes)) c.if-letters-known.false

pub grow-candidate_limit-limit-requires-clause-few :
    goal.grow-candidate_limit-limit-requires-clause-few
grow-candidate_limit-limit-requires-clause-few t c =
    let p = c.args.request.now.presentation.now.presentation in
    let known = c.known-known.ensures p c.args.request.now.classes c.requires.branch in
    omega (arith, few_seen p c.args.request.now.classes c.args.branch.now.targets.items c.requires.branch.allowed c.requires.asked.few, known.nodes)

pub grow-loop-target-init : goal.grow-loop-target-init
grow-loop-target-init t c =
    let a = asked c.args.request.now in
    let ts : List ℕ = c.args.branch.now.targets.items in
    let known = c.known-known.ensures a.presentation a.classes c.requires.branch in
    let here : length ts ≡ c.len-place.result = omega (arith, c.len-place.ensures, c.args.branch.now.targets.ok.0) in
    record {
      same = refl;
      branch = c.requires.branch;
      split = has_split_from a ts c.least_candidate-least.result (lists_in c.args.fronts.now.items)
          (λ u table b within. c.least_candidate-least.ensures.all u b.target (known.edges u table within)
          (subst (λ z. slice_get u z ≡ Some b.target) here (target_beyond ts (least_target a.presentation.is_monoid) u b))
          (omega (arith, c.least_target.ensures, b.from)));
    }

pub grow-grow_with-requires : goal.grow-grow_with-requires
grow-grow_with-requires t c =
    let a = asked c.args.request.now in
    let ts : List ℕ = c.args.branch.now.targets.items in
    let m : ℕ = c.loop-target.target in
    let known = c.known-known.ensures a.presentation a.classes c.requires.branch in
    let wants = wanting_here a.presentation.letters c.letters.result c.known-known.result.now.nodes c.len-place.result ts c.letters.ensures.letters known.nodes (omega (arith, c.len-place.ensures, c.args.branch.now.targets.ok.0)) c.if-letters-known.false in
    let less : m < c.candidate_limit-limit.result = c.loop-target-test.true in
    let opened : IsOpen a (ts ++ m ∷ []) = open_more a ts m (record { front = c.requires.branch.front; allowed = c.requires.branch.allowed }) wants
    (omega (arith, less, c.candidate_limit-limit.ensures.numbered, known.nodes))
    (omega (arith, c.least_target.ensures, c.least_candidate-least.ensures.from, c.loop-target.auto.target))
    (omega (arith, less, c.candidate_limit-limit.ensures.allowed)) in (
      omega (arith, c.decreases, c.if-depth-eq0.false),
      (
        c.requires.asked,
        (
          c.loop-target.invariant.branch,
          subst (λ (xs : List ℕ). IsOpen a (xs ++ m ∷ [])) (sym c.loop-target.invariant.same) opened,
        ),
      ),
    )

pub grow-loop-target-preserved : goal.grow-loop-target-preserved
grow-loop-target-preserved t c =
    let a = asked c.args.request.now in
    let ts : List ℕ = c.args.branch.now.targets.items in
    let m : ℕ = c.loop-target.target in
    let more : AddsLonger a (ts ++ m ∷ []) (lists_in c.loop-target.fronts.items) (lists_in c.grow_with.new.fronts.items) =
    subst (λ (xs : List ℕ). AddsLonger a (xs ++ m ∷ []) (lists_in c.loop-target.fronts.items) (lists_in c.grow_with.new.fronts.items)) c.loop-target.invariant.same c.in_ok-grow_with.ensures.fronts in
    record {
      same = c.in_ok-grow_with.ensures.same ∙ c.loop-target.invariant.same;
      branch = c.in_ok-grow_with.ensures.branch;
      split = has_split_on a ts m (lists_in c.args.fronts.now.items) (lists_in c.loop-target.fronts.items) (lists_in c.grow_with.new.fronts.items) c.loop-target.invariant.split
          (omega (arith, c.least_target.ensures, c.least_candidate-least.ensures.from, c.loop-target.auto.target)) more;
    }

pub grow-returns-clause-fronts : goal.grow-returns-clause-fronts
grow-returns-clause-fronts t c =
    let a = asked c.args.request.now in
    let ts : List ℕ = c.args.branch.now.targets.items in
    let known = c.known-known.ensures a.presentation a.classes c.requires.branch in
    let here : length ts ≡ c.len-place.result = omega (arith, c.len-place.ensures, c.args.branch.now.targets.ok.0) in
    let wants = wanting_here a.presentation.letters c.letters.result c.known-known.result.now.nodes c.len-place.result ts c.letters.ensures.letters known.nodes (omega (arith, here)) c.if-letters-known.false in
    let split = c.loop-target.invariant.split in
    adds a ts (lists_in c.args.fronts.now.items) (lists_in c.loop-target.fronts.items) split.longer split.added
    (split_end a ts c.loop-target.target c.candidate_limit-limit.result split.longer split.split c.loop-target-test.false wants
    (λ u table b within most low. c.candidate_limit-limit.ensures.all u b.target (known.edges u table within)
    (subst (λ z. slice_get u z ≡ Some b.target) here (target_beyond ts (least_target a.presentation.is_monoid) u b)) most (omega (arith, low, known.nodes))))

pub grow_with-returns-then-not-branch-clause-fronts :
    goal.grow_with-returns-then-not-branch-clause-fronts
grow_with-returns-then-not-branch-clause-fronts t c =
    let a = asked c.args.request.now in
    adds_none a (c.args.branch.now.targets.items ++ c.args.target ∷ []) (lists_in c.args.fronts.now.items)
    (λ u table w after. c.in_ok-enter.ensures.none c.if-not-branch.true u table w)

pub grow_with-returns-clause-branch : goal.grow_with-returns-clause-branch
grow_with-returns-clause-branch t c =
    let p = c.args.request.now.presentation.now.presentation in
    let same = c.in_ok-grow.ensures.same ∙ c.in_ok-enter.ensures.entered c.if-not-branch.false in
    (popped p c.args.request.now.classes c.grow.new.branch.targets.items c.pop.new.self.targets.items c.args.branch.now.targets.items c.pop.new.self.levels c.args.target c.pop.result
    c.pop.ensures.targets same (c.pop.ensures.branch p c.args.request.now.classes c.in_ok-grow.ensures.branch)).1

pub grow_with-returns-clause-same : goal.grow_with-returns-clause-same
grow_with-returns-clause-same t c =
    let p = c.args.request.now.presentation.now.presentation in
    let same = c.in_ok-grow.ensures.same ∙ c.in_ok-enter.ensures.entered c.if-not-branch.false in
    (popped p c.args.request.now.classes c.grow.new.branch.targets.items c.pop.new.self.targets.items c.args.branch.now.targets.items c.pop.new.self.levels c.args.target c.pop.result
    c.pop.ensures.targets same (c.pop.ensures.branch p c.args.request.now.classes c.in_ok-grow.ensures.branch)).0
