-- The laws of the words that are still reduced.
use Rattle.std.proofs.Common.{◌∙◌, ◌≡◌, ℕ, ◌+◌, ◌<◌, ◌≤◌, Bool, true, false, not, cond, List, [], ◌∷◌, ◌++◌, length, refl, ap, subst, arith, inl, inr, ◌↔◌}
use Rattle.std.specs.List.{list_any, count_by}
use Rattle.std.proofs.lemmas.Bool.{not-true}
use Rattle.std.proofs.lemmas.List.Folds.{Any-from_list_any, list_any_at}
use Rattle.std.proofs.lemmas.List.Sums.{sum_by-cons}
use Rattle.theory.specs.Word.{Word, IsOver}
use Rattle.theory.specs.Completion.{IsReduced, Listed}
use Rattle.theory.proofs.Counting.{IsIn}
use Rattle.theory.proofs.WithinDecides.{in_all_words}
use Rattle.rewriting.specs.Rules.{stands_in}
use Rattle.rewriting.proofs.Standing.{stands_at, stands_when}
use Rattle.knuth_bendix.specs.Remaining.{words_up_to, is_free, still_reduced}

-- a word is free exactly where no rule applies
pub free_reduced : (rules : List (Word × Word)) (u : Word) → is_free rules u ≡ true ↔ IsReduced (Listed rules) u
free_reduced rules u = (to, λ h. from h (list_any (λ q. stands_in q.0 u) rules) refl)
  where
    to : is_free rules u ≡ true → IsReduced (Listed rules) u
    to h v s =
        let none : list_any (λ q. stands_in q.0 u) rules ≡ false = not-true (list_any (λ q. stands_in q.0 u) rules) h in
        let some = list_any_at (λ (q : Word × Word). stands_in q.0 u) rules s.base.0 (s.from, s.to) s.base.1
        (ap (λ (q : Word × Word). stands_in q.0 u) s.base.2 ∙ stands_when s.from u s.before s.after s.source) in
        cc

    from : IsReduced (Listed rules) u → (b : Bool) → list_any (λ q. stands_in q.0 u) rules ≡ b → not b ≡ true
    from h false e = refl
    from h true e =
        let q = Any-from_list_any (λ (q : Word × Word). stands_in q.0 u) rules e in
        let at = stands_at q.1.0 u q.4 in
        absurd (h (at.0 ++ (q.1.1 ++ at.1)) (record {
          before = at.0;
          from = q.1.0;
          to = q.1.1;
          after = at.1;
          base = (q.0, q.2, q.3);
          place = tt;
          source = at.2;
          target = refl;
        }))

-- counts by two tests, the first no weaker
count_cons : {X : Type 0} (t : X → Bool) (x : X) (xs : List X) → count_by t (x ∷ xs) ≡ cond (t x) 1 0 + count_by t xs
count_cons t x xs = sum_by-cons (λ x. cond (t x) 1 0) x xs

pub count_no_more : {X : Type 0} (s t : X → Bool) → ((x : X) → s x ≡ true → t x ≡ true) → (xs : List X) → count_by s xs ≤ count_by t xs
count_no_more s t more [] = omega arith
count_no_more s t more (x ∷ xs) =
    let rest = count_no_more s t more xs in
    let here = one (s x) (t x) (more x) in
    omega (arith, rest, here, count_cons s x xs, count_cons t x xs)
  where
    one : (a b : Bool) → (a ≡ true → b ≡ true) → cond a 1 0 ≤ cond b 1 0
    one true true h = omega arith
    one true false h = let e = h refl in cc
    one false b h = omega arith

pub count_fewer : {X : Type 0} (s t : X → Bool) → ((x : X) → s x ≡ true → t x ≡ true) → (x : X) → s x ≡ false → t x ≡ true → (xs : List X)
    → IsIn x xs → count_by s xs < count_by t xs
count_fewer s t more x lost had [] m = absurd m
count_fewer s t more x lost had (z ∷ xs) (inl e) =
    let rest = count_no_more s t more xs in
    let was : ◌≡◌ {A = ℕ} (cond (s z) 1 0) 0 = ap (λ b. cond b 1 0) (subst (λ y. s y ≡ false) e lost) in
    let now : ◌≡◌ {A = ℕ} (cond (t z) 1 0) 1 = ap (λ b. cond b 1 0) (subst (λ y. t y ≡ true) e had) in
    omega (arith, rest, was, now, count_cons s z xs, count_cons t z xs)
count_fewer s t more x lost had (z ∷ xs) (inr m) =
    let rest = count_fewer s t more x lost had xs m in
    let here = count_no_more s t more (z ∷ []) in
    omega (arith, rest, here, count_cons s z xs, count_cons t z xs, count_cons s z [], count_cons t z [])

pub count_all : {X : Type 0} (t : X → Bool) → ((x : X) → t x ≡ true) → (xs : List X) → count_by t xs ≡ length xs
count_all t each [] = refl
count_all t each (x ∷ xs) =
    let rest = count_all t each xs in
    let here : ◌≡◌ {A = ℕ} (cond (t x) 1 0) 1 = ap (λ b. cond b 1 0) (each x) in
    omega (arith, rest, here, count_cons t x xs)

module _ (k L : ℕ) (old new : List (Word × Word)) (kept : (u : Word) → IsReduced (Listed new) u → IsReduced (Listed old) u) where
  free_kept : (u : Word) → is_free new u ≡ true → is_free old u ≡ true
  free_kept u h = (free_reduced old u).1 (kept u ((free_reduced new u).0 h))

  -- where what stays reduced was so before, and a word is reduced no longer, fewer words are
  pub still_falls : (w : Word) → IsOver k w → length w ≤ L → IsReduced (Listed old) w → ¬ (IsReduced (Listed new) w)
      → still_reduced k L new < still_reduced k L old
  still_falls w over short was lost =
      count_fewer (is_free new) (is_free old) free_kept w (no_longer (is_free new w) refl) ((free_reduced old w).1 was) (words_up_to k L)
      (in_all_words k L w over short)
    where
      no_longer : (b : Bool) → is_free new w ≡ b → b ≡ false
      no_longer false e = refl
      no_longer true e = absurd (lost ((free_reduced new w).0 e))

-- with no rules every word is reduced
pub still_start : (k L : ℕ) → still_reduced k L [] ≡ length (words_up_to k L)
still_start k L = count_all (is_free []) (λ u. refl) (words_up_to k L)
