use Rattle.std.proofs.Common.{true, false, ◌≡◌, ◌+◌, ◌*◌, ◌<◌, ◌≤◌, ℕ, suc, List, [], ◌∷◌, ◌++◌, length, get_or, refl, subst, sym, ap, ◌∙◌, arith}
use Rattle.std.proofs.lemmas.List.{length_push}
use Rattle.sims_one.specs.Targets.{seen, IsFront, IsWithin}
use Rattle.sims_one.specs.Search.{IsLeastBeyond, NoneBeyond, NoneFrom}
use Rattle.sims_one.proofs.EdgeLaws.{on_ok}
use Rattle.sims_one.proofs.FrontLaws.{front_front, front_next, front_wants, allowed_push, few_seen}
use Rattle.sims_one.proofs.BranchLaws.{popped}
use Rattle.sims_one.proofs.CursorLaws.{from_start, from_more, from_found, next_within, none_barred, whole_within, within_long, within_less, beyond_within, along}
use Rattle.sims_one.proofs.search.+search_after.Goals as goal

pub search_after-returns-then-cursor-place-clause-none : goal.search_after-returns-then-cursor-place-clause-none
search_after-returns-then-cursor-place-clause-none t c = λ _.
    let p = c.args.presentation.now.presentation in
    let cursor : List ℕ = c.args.cursor.now in
    let ts : List ℕ = c.args.branch.now.targets.items in
    let same : ts ≡ cursor = whole_within ts cursor c.requires.within (omega (arith, c.if-cursor-place.true, c.len-place.ensures, c.args.branch.now.targets.ok.0)) in
    subst (λ (xs : List ℕ). NoneFrom p c.args.classes cursor xs) (sym same) (from_start p c.args.classes cursor (omega (arith, c.requires.full)))

-- the targets and the next one
next_here : (cursor ts : List ℕ) (place : ℕ) → IsWithin ts cursor → place ≡ length ts → place < length cursor → IsWithin (ts ++ get_or cursor place 0 ∷ []) cursor
next_here cursor ts place within here less = next_within ts cursor place (get_or cursor place 0) within here less refl

-- the cursor is the targets, the next one and more
front_along : (k : ℕ) (cursor ts : List ℕ) (target : ℕ) → IsFront k cursor → (w : IsWithin (ts ++ target ∷ []) cursor) → IsFront k (ts ++ target ∷ w.rest)
front_along k cursor ts target front w = subst (λ (xs : List ℕ). IsFront k xs) (along cursor ts target w) front

pub search_after-search_along-requires : goal.search_after-search_along-requires
search_after-search_along-requires t c =
    let cursor : List ℕ = c.args.cursor.now in
    let ts : List ℕ = c.args.branch.now.targets.items in
    let here : c.len-place.result ≡ length ts = omega (arith, c.len-place.ensures, c.args.branch.now.targets.ok.0) in
    let within = next_here cursor ts c.len-place.result c.requires.within here c.if-cursor-place.false in
    (omega (arith, c.decreases), (c.requires.classes, (c.requires.cursor, (c.requires.full, (within, c.requires.branch)))))

pub search_after-overflow_add-target : goal.search_after-overflow_add-target
search_after-overflow_add-target t c =
    let p = c.args.presentation.now.presentation in
    let cursor : List ℕ = c.args.cursor.now in
    let ts : List ℕ = c.args.branch.now.targets.items in
    let here : c.len-place.result ≡ length ts = omega (arith, c.len-place.ensures, c.args.branch.now.targets.ok.0) in
    let within = next_here cursor ts c.len-place.result c.requires.within here c.if-cursor-place.false in
    let target : ℕ = get_or cursor c.len-place.result 0 in
    let low : target ≤ seen ts = front_next p.letters ts target within.rest (front_along p.letters cursor ts target c.requires.cursor within) in
    omega (arith, low, few_seen p c.args.classes ts c.requires.branch.allowed c.requires.classes)

pub search_after-search_from-requires-clause-wanting : goal.search_after-search_from-requires-clause-wanting
search_after-search_from-requires-clause-wanting t c =
    let p = c.args.presentation.now.presentation in
    let cursor : List ℕ = c.args.cursor.now in
    let ts : List ℕ = c.args.branch.now.targets.items in
    let here : c.len-place.result ≡ length ts = omega (arith, c.len-place.ensures, c.args.branch.now.targets.ok.0) in
    let within = next_here cursor ts c.len-place.result c.requires.within here c.if-cursor-place.false in
    let target : ℕ = get_or cursor c.len-place.result 0 in
    let same : c.search_along.new.branch.targets.items ≡ ts = c.in_ok-search_along.ensures.same c.if-branch.false in
    subst (λ (xs : List ℕ). length xs < p.letters * seen xs) (sym same) (front_wants p.letters ts target within.rest (front_along p.letters cursor ts target c.requires.cursor within))

pub search_after-returns-then-branch-clause-within : goal.search_after-returns-then-branch-clause-within
search_after-returns-then-branch-clause-within t c = λ _.
    within_less c.args.branch.now.targets.items (get_or c.args.cursor.now c.len-place.result 0) c.search_along.new.branch.targets.items (c.in_ok-search_along.ensures.within c.if-branch.true)

pub search_after-returns-clause-within : goal.search_after-returns-clause-within
search_after-returns-clause-within t c =
    let found : List ℕ = c.search_from.new.branch.targets.items in
    let same : c.search_along.new.branch.targets.items ≡ c.args.branch.now.targets.items = c.in_ok-search_along.ensures.same c.if-branch.false in
    on_ok c.search_from.result _ _ c.search_from.ensures.found
    (λ b h yes. subst (λ (xs : List ℕ). IsWithin xs found) same (beyond_within c.search_along.new.branch.targets.items (get_or c.args.cursor.now c.len-place.result 0 + 1) found (h yes).beyond))

pub search_after-returns-then-branch-clause-found : goal.search_after-returns-then-branch-clause-found
search_after-returns-then-branch-clause-found t c = λ _. c.in_ok-search_along.ensures.found c.if-branch.true

pub search_after-returns-then-branch-clause-branch : goal.search_after-returns-then-branch-clause-branch
search_after-returns-then-branch-clause-branch t c = c.in_ok-search_along.ensures.branch

pub search_after-returns-clause-branch : goal.search_after-returns-clause-branch
search_after-returns-clause-branch t c = c.search_from.ensures.branch

pub search_after-returns-clause-same : goal.search_after-returns-clause-same
search_after-returns-clause-same t c =
    on_ok c.search_from.result _ _ c.search_from.ensures.same (λ b h no. h no ∙ c.in_ok-search_along.ensures.same c.if-branch.false)

pub search_after-returns-clause-found : goal.search_after-returns-clause-found
search_after-returns-clause-found t c =
    let p = c.args.presentation.now.presentation in
    let cursor : List ℕ = c.args.cursor.now in
    let ts : List ℕ = c.args.branch.now.targets.items in
    let here : c.len-place.result ≡ length ts = omega (arith, c.len-place.ensures, c.args.branch.now.targets.ok.0) in
    let within = next_here cursor ts c.len-place.result c.requires.within here c.if-cursor-place.false in
    let target : ℕ = get_or cursor c.len-place.result 0 in
    let same : c.search_along.new.branch.targets.items ≡ ts = c.in_ok-search_along.ensures.same c.if-branch.false in
    let none : NoneFrom p c.args.classes cursor (ts ++ target ∷ []) = c.in_ok-search_along.ensures.none c.if-branch.false in
    let found : List ℕ = c.search_from.new.branch.targets.items in
    let next : target + 1 ≡ suc target = omega arith in
    on_ok c.search_from.result _ _ c.search_from.ensures.found
    (λ b h yes. from_found p c.args.classes cursor ts target within.rest (along cursor ts target within) none found
    (subst (λ z. IsLeastBeyond p c.args.classes ts z found) next (subst (λ (xs : List ℕ). IsLeastBeyond p c.args.classes xs (target + 1) found) same (h yes))))

pub search_after-returns-clause-none : goal.search_after-returns-clause-none
search_after-returns-clause-none t c =
    let p = c.args.presentation.now.presentation in
    let cursor : List ℕ = c.args.cursor.now in
    let ts : List ℕ = c.args.branch.now.targets.items in
    let here : c.len-place.result ≡ length ts = omega (arith, c.len-place.ensures, c.args.branch.now.targets.ok.0) in
    let within = next_here cursor ts c.len-place.result c.requires.within here c.if-cursor-place.false in
    let target : ℕ = get_or cursor c.len-place.result 0 in
    let same : c.search_along.new.branch.targets.items ≡ ts = c.in_ok-search_along.ensures.same c.if-branch.false in
    let none : NoneFrom p c.args.classes cursor (ts ++ target ∷ []) = c.in_ok-search_along.ensures.none c.if-branch.false in
    let next : target + 1 ≡ suc target = omega arith in
    on_ok c.search_from.result _ _ c.search_from.ensures.none
    (λ b h no. from_more p c.args.classes cursor ts target within.rest (along cursor ts target within) none
    (subst (λ z. NoneBeyond p c.args.classes ts z) next (subst (λ (xs : List ℕ). NoneBeyond p c.args.classes xs (target + 1)) same (h no))))

pub search_along-enter-requires-clause-front : goal.search_along-enter-requires-clause-front
search_along-enter-requires-clause-front t c =
    let p = c.args.presentation.now.presentation in
    let ts : List ℕ = c.args.branch.now.targets.items in
    front_front p.letters (ts ++ c.args.target ∷ []) c.requires.within.rest (subst (λ (xs : List ℕ). IsFront p.letters xs) c.requires.within.is c.requires.cursor)

pub search_along-enter-requires-clause-allowed : goal.search_along-enter-requires-clause-allowed
search_along-enter-requires-clause-allowed t c =
    let may = c.is_allowed.ensures.0 c.if-not-is_allowed.false in
    allowed_push c.args.presentation.now.presentation c.args.classes c.args.branch.now.targets.items c.args.target c.requires.branch.allowed may.0 may.1

pub search_along-returns-then-not-branch-clause-none : goal.search_along-returns-then-not-branch-clause-none
search_along-returns-then-not-branch-clause-none t c = λ _.
    let none = c.in_ok-enter.ensures.none c.if-not-branch.true in
    λ u table w after. none u table w

pub search_along-search_after-requires : goal.search_along-search_after-requires
search_along-search_after-requires t c =
    let cursor : List ℕ = c.args.cursor.now in
    let ts : List ℕ = c.args.branch.now.targets.items in
    let entered = c.in_ok-enter.ensures.entered c.if-not-branch.false in
    let within : IsWithin c.enter.new.self.targets.items cursor = subst (λ (xs : List ℕ). IsWithin xs cursor) (sym entered) c.requires.within in
    let long : length c.enter.new.self.targets.items ≡ length ts + 1 = ap length entered ∙ length_push ts c.args.target in
    let room : length ts < length cursor = within_long ts cursor c.args.target c.requires.within in
    (omega (arith, c.decreases, long, room), (c.requires.classes, (c.requires.cursor, (c.requires.full, (within, c.in_ok-enter.ensures.branch)))))

pub search_along-returns-clause-none : goal.search_along-returns-clause-none
search_along-returns-clause-none t c = λ _.
    subst (λ (xs : List ℕ). NoneFrom c.args.presentation.now.presentation c.args.classes c.args.cursor.now xs)
    (c.in_ok-enter.ensures.entered c.if-not-branch.false) (c.in_ok-search_after.ensures.none c.if-branch.false)

pub search_along-returns-clause-branch : goal.search_along-returns-clause-branch
search_along-returns-clause-branch t c =
    let p = c.args.presentation.now.presentation in
    let same = c.in_ok-search_after.ensures.same c.if-branch.false ∙ c.in_ok-enter.ensures.entered c.if-not-branch.false in
    (popped p c.args.classes c.search_after.new.branch.targets.items c.pop.new.self.targets.items c.args.branch.now.targets.items c.pop.new.self.levels c.args.target c.pop.result
    c.pop.ensures.targets same (c.pop.ensures.branch p c.args.classes c.in_ok-search_after.ensures.branch)).1

pub search_along-returns-clause-same : goal.search_along-returns-clause-same
search_along-returns-clause-same t c = λ _.
    let p = c.args.presentation.now.presentation in
    let same = c.in_ok-search_after.ensures.same c.if-branch.false ∙ c.in_ok-enter.ensures.entered c.if-not-branch.false in
    (popped p c.args.classes c.search_after.new.branch.targets.items c.pop.new.self.targets.items c.args.branch.now.targets.items c.pop.new.self.levels c.args.target c.pop.result
    c.pop.ensures.targets same (c.pop.ensures.branch p c.args.classes c.in_ok-search_after.ensures.branch)).0

pub search_along-returns-then-not-is_allowed-clause-none : goal.search_along-returns-then-not-is_allowed-clause-none
search_along-returns-then-not-is_allowed-clause-none t c = λ _.
    let p = c.args.presentation.now.presentation in
    let none = none_barred p c.args.classes c.args.branch.now.targets.items c.args.target
    (λ may. let bad : false ≡ true = sym c.if-not-is_allowed.true ∙ c.is_allowed.ensures.1 may in cc) in
    λ u table w after. none u table w

pub search_along-returns-then-not-branch-clause-branch : goal.search_along-returns-then-not-branch-clause-branch
search_along-returns-then-not-branch-clause-branch t c = c.in_ok-enter.ensures.branch

pub search_along-returns-then-branch-clause-found : goal.search_along-returns-then-branch-clause-found
search_along-returns-then-branch-clause-found t c = λ _. c.in_ok-search_after.ensures.found c.if-branch.true

pub search_along-returns-then-branch-clause-within : goal.search_along-returns-then-branch-clause-within
search_along-returns-then-branch-clause-within t c = λ _.
    subst (λ (xs : List ℕ). IsWithin xs c.search_after.new.branch.targets.items) (c.in_ok-enter.ensures.entered c.if-not-branch.false) (c.in_ok-search_after.ensures.within c.if-branch.true)

pub search_along-returns-then-branch-clause-branch : goal.search_along-returns-then-branch-clause-branch
search_along-returns-then-branch-clause-branch t c = c.in_ok-search_after.ensures.branch
