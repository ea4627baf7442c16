use Rattle.std.proofs.Common.{◌≡◌, ◌+◌, ◌*◌, ◌-◌, ◌<◌, ◌≤◌, ◌↔◌, ℕ, List, [], ◌∷◌, ◌++◌, length, Bool, true, false, IsTrue, slice_get, Some, subst, sym, ap, ◌∙◌, arith, refl}
use Rattle.std.proofs.lemmas.List.{length_push}
use Rattle.theory.specs.Congruence.{Presentation}
use Rattle.sims_one.specs.Targets.{seen, least_target, most_nodes, IsFront, AreAllowed, IsSound}
use Rattle.sims_one.specs.Search.{IsLeastWithin, NoneWithin, IsLeastBeyond, NoneBeyond}
use Rattle.sims_one.proofs.EdgeLaws.{on_ok}
use Rattle.sims_one.proofs.FrontLaws.{times_more, place_small, wanting_here, front_push, front_wants, allowed_push, few_seen}
use Rattle.sims_one.proofs.KnownLaws.{target_beyond}
use Rattle.sims_one.proofs.BranchLaws.{popped}
use Rattle.sims_one.proofs.SearchLaws.{none_broken, full_least, none_wanting, least_wanting, between_least, between_more, between_end, between_found}
use Rattle.sims_one.proofs.search.+search.Goals as goal

broken_here : (p : Presentation) (n : ℕ) (t u : List ℕ) → u ≡ t → (IsTrue false ↔ IsSound p u) → NoneWithin p n t
broken_here p n t u e h = none_broken p n t (λ sound. let k : false ≡ true = h.1 (subst (λ (xs : List ℕ). IsSound p xs) (sym e) sound) in cc)

pub search-overflow_mul-letters : goal.search-overflow_mul-letters
search-overflow_mul-letters t c =
    let known = c.known.ensures c.args.presentation.now.presentation c.args.classes c.requires.branch in
    let few = few_seen c.args.presentation.now.presentation c.args.classes c.args.branch.now.targets.items c.requires.branch.allowed c.requires.classes in
    omega (arith, times_more c.letters.result c.known.result.now.nodes 17 (omega (arith, few, known.nodes)), c.letters.ensures.few)

pub search-returns-then-letters-known-clause-none : goal.search-returns-then-letters-known-clause-none
search-returns-then-letters-known-clause-none t c = λ no.
    broken_here c.args.presentation.now.presentation c.args.classes c.args.branch.now.targets.items c.deref.result.now c.deref.ensures.value
    (subst (λ (b : Bool). IsTrue b ↔ IsSound c.args.presentation.now.presentation c.deref.result.now) no c.is_sound.ensures)

pub search-returns-then-letters-known-clause-found : goal.search-returns-then-letters-known-clause-found
search-returns-then-letters-known-clause-found t c = λ yes.
    let p = c.args.presentation.now.presentation in
    let ts : List ℕ = c.args.branch.now.targets.items in
    let known = c.known.ensures p c.args.classes c.requires.branch in
    let sound : IsSound p ts = subst (λ (xs : List ℕ). IsSound p xs) c.deref.ensures.value (c.is_sound.ensures.0 yes) in
    let rows : p.letters * seen ts ≡ c.letters.result * c.known.result.now.nodes =
    ap (λ z. z * seen ts) (sym c.letters.ensures.letters) ∙ ap (λ z. c.letters.result * z) (sym known.nodes) in
    full_least p c.args.classes ts c.requires.branch.front c.requires.branch.allowed sound (omega (arith, rows, c.if-letters-known.true, c.len.ensures))

pub search-returns-clause-found : goal.search-returns-clause-found
search-returns-clause-found t c =
    let p = c.args.presentation.now.presentation in
    let ts : List ℕ = c.args.branch.now.targets.items in
    let known = c.known.ensures p c.args.classes c.requires.branch in
    let wants = wanting_here p.letters c.letters.result c.known.result.now.nodes c.len.result ts c.letters.ensures.letters known.nodes (omega (arith, c.len.ensures, c.args.branch.now.targets.ok.0)) c.if-letters-known.false in
    let least : c.least_target.result ≡ least_target p.is_monoid = c.least_target.ensures in
    on_ok c.search_from.result _ _ c.search_from.ensures.found
    (λ b h yes. least_wanting p c.args.classes ts wants c.search_from.new.branch.targets.items (subst (λ z. IsLeastBeyond p c.args.classes ts z c.search_from.new.branch.targets.items) least (h yes)))

pub search-returns-clause-none : goal.search-returns-clause-none
search-returns-clause-none t c =
    let p = c.args.presentation.now.presentation in
    let ts : List ℕ = c.args.branch.now.targets.items in
    let known = c.known.ensures p c.args.classes c.requires.branch in
    let wants = wanting_here p.letters c.letters.result c.known.result.now.nodes c.len.result ts c.letters.ensures.letters known.nodes (omega (arith, c.len.ensures, c.args.branch.now.targets.ok.0)) c.if-letters-known.false in
    let least : c.least_target.result ≡ least_target p.is_monoid = c.least_target.ensures in
    on_ok c.search_from.result _ _ c.search_from.ensures.none
    (λ b h no. none_wanting p c.args.classes ts wants (subst (λ z. NoneBeyond p c.args.classes ts z) least (h no)))

pub search-search_from-requires : goal.search-search_from-requires
search-search_from-requires t c =
    let p = c.args.presentation.now.presentation in
    let ts : List ℕ = c.args.branch.now.targets.items in
    let known = c.known.ensures p c.args.classes c.requires.branch in
    let wants = wanting_here p.letters c.letters.result c.known.result.now.nodes c.len.result ts c.letters.ensures.letters known.nodes (omega (arith, c.len.ensures, c.args.branch.now.targets.ok.0)) c.if-letters-known.false in
    (omega (arith, c.decreases), (c.requires.classes, (c.requires.branch, (wants, omega (arith, c.least_target.ensures)))))

pub search_from-least_candidate-least-requires : goal.search_from-least_candidate-least-requires
search_from-least_candidate-least-requires t c =
    let few = few_seen c.args.presentation.now.presentation c.args.classes c.args.branch.now.targets.items c.requires.branch.allowed c.requires.classes in
    place_small c.args.presentation.now.presentation.letters (seen c.args.branch.now.targets.items) c.len-place.result (omega (arith, c.letters-letters.ensures.letters, c.letters-letters.ensures.few)) few (omega (arith, c.requires.wanting, c.len-place.ensures))

pub search_from-candidate_limit-limit-requires-clause-place : goal.search_from-candidate_limit-limit-requires-clause-place
search_from-candidate_limit-limit-requires-clause-place t c =
    let few = few_seen c.args.presentation.now.presentation c.args.classes c.args.branch.now.targets.items c.requires.branch.allowed c.requires.classes in
    place_small c.args.presentation.now.presentation.letters (seen c.args.branch.now.targets.items) c.len-place.result (omega (arith, c.letters-letters.ensures.letters, c.letters-letters.ensures.few)) few (omega (arith, c.requires.wanting, c.len-place.ensures))

pub search_from-candidate_limit-limit-requires-clause-few : goal.search_from-candidate_limit-limit-requires-clause-few
search_from-candidate_limit-limit-requires-clause-few t c =
    let known = c.known-known.ensures c.args.presentation.now.presentation c.args.classes c.requires.branch in
    omega (arith, few_seen c.args.presentation.now.presentation c.args.classes c.args.branch.now.targets.items c.requires.branch.allowed c.requires.classes, known.nodes)

pub search_from-loop-target-init : goal.search_from-loop-target-init
search_from-loop-target-init t c =
    let known = c.known-known.ensures c.args.presentation.now.presentation c.args.classes c.requires.branch in
    let here : length c.args.branch.now.targets.items ≡ c.len-place.result = omega (arith, c.len-place.ensures, c.args.branch.now.targets.ok.0) in
    record {
      same = refl;
      branch = c.requires.branch;
      none = between_least c.args.presentation.now.presentation c.args.classes c.args.branch.now.targets.items c.args.first c.least_candidate-least.result
          (λ u table b within. c.least_candidate-least.ensures.all u b.target (known.edges u table within)
          (subst (λ z. slice_get u z ≡ Some b.target) here (target_beyond c.args.branch.now.targets.items c.args.first u b)) b.from);
    }

pub search_from-search_with-requires : goal.search_from-search_with-requires
search_from-search_with-requires t c =
    let known = c.known-known.ensures c.args.presentation.now.presentation c.args.classes c.requires.branch in
    let p = c.args.presentation.now.presentation in
    let ts : List ℕ = c.args.branch.now.targets.items in
    let m : ℕ = c.loop-target.target in
    let less : m < c.candidate_limit-limit.result = c.loop-target-test.true in
    let low : m ≤ seen ts = omega (arith, less, c.candidate_limit-limit.ensures.numbered, known.nodes) in
    let least : least_target p.is_monoid ≤ m = omega (arith, c.requires.first, c.least_candidate-least.ensures.from, c.loop-target.auto.target) in
    let most : m < most_nodes p.is_monoid c.args.classes = omega (arith, less, c.candidate_limit-limit.ensures.allowed) in
    let same : c.loop-target.branch.targets.items ≡ ts = c.loop-target.invariant.same in
    let front : IsFront p.letters (c.loop-target.branch.targets.items ++ m ∷ []) = subst (λ (xs : List ℕ). IsFront p.letters (xs ++ m ∷ [])) (sym same) (front_push p.letters ts m c.requires.branch.front c.requires.wanting low) in
    let allowed : AreAllowed p c.args.classes (c.loop-target.branch.targets.items ++ m ∷ []) = subst (λ (xs : List ℕ). AreAllowed p c.args.classes (xs ++ m ∷ [])) (sym same) (allowed_push p c.args.classes ts m c.requires.branch.allowed least most) in
    let falls : 3 * (p.letters * 17 - length c.loop-target.branch.targets.items) < t = omega (arith, c.decreases, ap length same) in
    (falls, (c.requires.classes, (c.loop-target.invariant.branch, (front, allowed))))

pub search_from-returns-then-branch-clause-found : goal.search_from-returns-then-branch-clause-found
search_from-returns-then-branch-clause-found t c = λ _.
    let p = c.args.presentation.now.presentation in
    let ts : List ℕ = c.args.branch.now.targets.items in
    between_found p c.args.classes ts c.args.first c.loop-target.target c.search_with.new.branch.targets.items c.loop-target.invariant.none (omega (arith, c.loop-target.auto.target, c.least_candidate-least.ensures.from))
    (subst (λ (xs : List ℕ). IsLeastWithin p c.args.classes (xs ++ c.loop-target.target ∷ []) c.search_with.new.branch.targets.items) c.loop-target.invariant.same (c.in_ok-search_with.ensures.found c.if-branch.true))

pub search_from-loop-target-preserved : goal.search_from-loop-target-preserved
search_from-loop-target-preserved t c =
    let p = c.args.presentation.now.presentation in
    let ts : List ℕ = c.args.branch.now.targets.items in
    record {
      same = c.in_ok-search_with.ensures.same c.if-branch.false ∙ c.loop-target.invariant.same;
      branch = c.in_ok-search_with.ensures.branch;
      none = between_more p c.args.classes ts c.args.first c.loop-target.target c.loop-target.invariant.none
          (subst (λ (xs : List ℕ). NoneWithin p c.args.classes (xs ++ c.loop-target.target ∷ [])) c.loop-target.invariant.same (c.in_ok-search_with.ensures.none c.if-branch.false));
    }

pub search_from-returns-clause-none : goal.search_from-returns-clause-none
search_from-returns-clause-none t c = λ _.
    let known = c.known-known.ensures c.args.presentation.now.presentation c.args.classes c.requires.branch in
    let ts : List ℕ = c.args.branch.now.targets.items in
    let here : length ts ≡ c.len-place.result = omega (arith, c.len-place.ensures, c.args.branch.now.targets.ok.0) in
    between_end c.args.presentation.now.presentation c.args.classes ts c.args.first c.loop-target.target c.candidate_limit-limit.result c.loop-target.invariant.none c.loop-target-test.false
    (λ u table b within most low. c.candidate_limit-limit.ensures.all u b.target (known.edges u table within)
    (subst (λ z. slice_get u z ≡ Some b.target) here (target_beyond ts c.args.first u b)) most (omega (arith, low, known.nodes)))

pub search_with-search-requires : goal.search_with-search-requires
search_with-search-requires t c =
    let p = c.args.presentation.now.presentation in
    let ts : List ℕ = c.args.branch.now.targets.items in
    let entered = c.in_ok-enter.ensures.entered c.if-not-branch.false in
    let long : length c.enter.new.self.targets.items ≡ length ts + 1 = ap length entered ∙ length_push ts c.args.target in
    let room : p.letters * seen ts ≤ p.letters * 17 = times_more p.letters (seen ts) 17 (few_seen p c.args.classes ts c.requires.branch.allowed c.requires.classes) in
    let wants = front_wants p.letters ts c.args.target [] c.requires.front in
    (omega (arith, c.decreases, long, room, wants), (c.requires.classes, c.in_ok-enter.ensures.branch))

pub search_with-returns-then-branch-clause-found : goal.search_with-returns-then-branch-clause-found
search_with-returns-then-branch-clause-found t c = λ _.
    subst (λ (xs : List ℕ). IsLeastWithin c.args.presentation.now.presentation c.args.classes xs c.search.new.branch.targets.items)
    (c.in_ok-enter.ensures.entered c.if-not-branch.false) (c.in_ok-search.ensures.found c.if-branch.true)

pub search_with-returns-clause-none : goal.search_with-returns-clause-none
search_with-returns-clause-none t c = λ _.
    subst (λ (xs : List ℕ). NoneWithin c.args.presentation.now.presentation c.args.classes xs)
    (c.in_ok-enter.ensures.entered c.if-not-branch.false) (c.in_ok-search.ensures.none c.if-branch.false)

pub search_with-returns-clause-branch : goal.search_with-returns-clause-branch
search_with-returns-clause-branch t c =
    let p = c.args.presentation.now.presentation in
    let same = c.in_ok-search.ensures.same c.if-branch.false ∙ c.in_ok-enter.ensures.entered c.if-not-branch.false in
    (popped p c.args.classes c.search.new.branch.targets.items c.pop.new.self.targets.items c.args.branch.now.targets.items c.pop.new.self.levels c.args.target c.pop.result
    c.pop.ensures.targets same (c.pop.ensures.branch p c.args.classes c.in_ok-search.ensures.branch)).1

pub search_with-returns-clause-same : goal.search_with-returns-clause-same
search_with-returns-clause-same t c = λ _.
    let p = c.args.presentation.now.presentation in
    let same = c.in_ok-search.ensures.same c.if-branch.false ∙ c.in_ok-enter.ensures.entered c.if-not-branch.false in
    (popped p c.args.classes c.search.new.branch.targets.items c.pop.new.self.targets.items c.args.branch.now.targets.items c.pop.new.self.levels c.args.target c.pop.result
    c.pop.ensures.targets same (c.pop.ensures.branch p c.args.classes c.in_ok-search.ensures.branch)).0
