use Rattle.std.proofs.Common.{◌≡◌, ◌*◌, ◌⊎◌, inl, inr, ℕ, List, [], ◌++◌, length, true, false, ◌==◌, subst, sym, ap, ◌∙◌, arith}
use Rattle.std.proofs.lemmas.Bool.{eqb-true}
use Rattle.sims_one.specs.Targets.{seen}
use Rattle.sims_one.specs.Search.{IsLeastWithin, NoneWithin, IsLeastAfter, NoneAfter, NoneFrom}
use Rattle.sims_one.proofs.CursorLaws.{first_found, first_none, from_end, nothing_left}
use Rattle.sims_one.proofs.search.find_after.Goals as goal

-- the cursor has no target
empty_cursor : (cursor : List ℕ) → true ≡ (length cursor == 0) → cursor ≡ []
empty_cursor cursor h = nothing_left cursor (eqb-true (length cursor) 0 (sym h))

-- the cursor has a target
full_cursor : (k : ℕ) (cursor : List ℕ) → false ≡ (length cursor == 0) → (cursor ≡ []) ⊎ (length cursor ≡ k * seen cursor) → length cursor ≡ k * seen cursor
full_cursor k cursor h (inl none) = let t : (length cursor == 0) ≡ true = ap (λ (xs : List ℕ). length xs == 0) none in let f : false ≡ true = h ∙ t in absurd (let g : ⊥ = cc in g)
full_cursor k cursor h (inr full) = full

pub search-requires-clause-branch : goal.search-requires-clause-branch
search-requires-clause-branch c = c.in_ok-branch.ensures.branch c.args.presentation.now.presentation c.args.classes

pub search_after-requires-clause-branch : goal.search_after-requires-clause-branch
search_after-requires-clause-branch c = c.in_ok-branch.ensures.branch c.args.presentation.now.presentation c.args.classes

pub returns-then-branch : goal.returns-then-branch
returns-then-branch c =
    let p = c.args.presentation.now.presentation in
    let found : List ℕ = c.search.new.branch.targets.items in
    record {
      least = subst (λ (xs : List ℕ). IsLeastAfter p c.args.classes xs found) (sym (empty_cursor c.args.cursor.now c.if-is_empty.ensures))
          (first_found p c.args.classes (omega (arith, c.letters-letters.ensures.letters, c.letters-letters.ensures.some)) found
          (subst (λ (xs : List ℕ). IsLeastWithin p c.args.classes xs found) c.in_ok-branch.ensures.targets (c.in_ok-search.ensures.found c.if-branch.true)));
      branch = c.in_ok-search.ensures.branch;
    }

pub returns-then-is_empty : goal.returns-then-is_empty
returns-then-is_empty c =
    let p = c.args.presentation.now.presentation in
    subst (λ (xs : List ℕ). NoneAfter p c.args.classes xs) (sym (empty_cursor c.args.cursor.now c.if-is_empty.ensures))
    (first_none p c.args.classes (subst (λ (xs : List ℕ). NoneWithin p c.args.classes xs) c.in_ok-branch.ensures.targets (c.in_ok-search.ensures.none c.if-branch.false)))

pub search_after-requires-clause-within : goal.search_after-requires-clause-within
search_after-requires-clause-within c = record { rest = c.args.cursor.now; is = ap (λ (xs : List ℕ). xs ++ c.args.cursor.now) (sym c.in_ok-branch.ensures.targets) }

pub search_after-requires-clause-full : goal.search_after-requires-clause-full
search_after-requires-clause-full c = full_cursor c.args.presentation.now.presentation.letters c.args.cursor.now c.if-is_empty.ensures c.requires.cursor.full

pub returns : goal.returns
returns c =
    let p = c.args.presentation.now.presentation in
    from_end p c.args.classes c.args.cursor.now
    (subst (λ (xs : List ℕ). NoneFrom p c.args.classes c.args.cursor.now xs) c.in_ok-branch.ensures.targets (c.in_ok-search_after.ensures.none c.if-branch-2.false))
