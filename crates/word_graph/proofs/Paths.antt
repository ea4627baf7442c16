-- Paths, letter by letter.
use Rattle.std.proofs.Common.{◌≡◌, ℕ, zero, suc, ◌+◌, ◌<◌, ◌≤◌, [], ◌∷◌, ◌++◌, refl, ◌∙◌, ap, arith, Option, Some, None, length, take, get_or, slice_get, option_and_then}
use Rattle.std.proofs.lemmas.List.{take_more}
use Rattle.theory.specs.Word.{Word}
use Rattle.theory.specs.Graph.{Graph, target, path}
use Rattle.theory.proofs.GraphLaws.{path_append, path_letter}

get_is : (w : Word) (i a : ℕ) → slice_get w i ≡ Some a → (i < length w) × (get_or w i 0 ≡ a)
get_is [] i a e = cc
get_is (b ∷ w) zero a e = (omega arith, cc)
get_is (b ∷ w) (suc i) a e = let r = get_is w i a e in (omega (arith, r.0), r.1)

-- one letter further along the word
pub path_take_more : (g : Graph) (n at a i : ℕ) (w : Word) → path g n (take i w) ≡ Some at → slice_get w i ≡ Some a → path g n (take (i + 1) w) ≡ target g at a
path_take_more g n at a i w e h =
    let r = get_is w i a h in
    let t : take (i + 1) w ≡ take i w ++ a ∷ [] = take_more w i 0 r.0 ∙ ap (λ b. take i w ++ b ∷ []) r.1 in
    rw t (path_append g n at (take i w) (a ∷ []) e ∙ path_letter g at a)

none_further : (g : Graph) (n : ℕ) (u v : Word) → path g n u ≡ None → path g n (u ++ v) ≡ None
none_further g n [] v e = cc
none_further g n (a ∷ u) v e = go (target g n a) (λ m h. none_further g m u v h) e
  where
    go : (t : Option ℕ) → ((m : ℕ) → path g m u ≡ None → path g m (u ++ v) ≡ None) → option_and_then (λ next. path g next u) t ≡ None → option_and_then (λ next. path g next (u ++ v)) t ≡ None
    go None further e = refl
    go (Some m) further e = further m e

take_front : (w : Word) (i n : ℕ) → i ≤ n → (v : Word) × (take n w ≡ take i w ++ v)
take_front w zero n h = (take n w, refl)
take_front [] (suc i) zero h = absurd (omega arith)
take_front [] (suc i) (suc n) h = ([], refl)
take_front (a ∷ w) (suc i) zero h = absurd (omega arith)
take_front (a ∷ w) (suc i) (suc n) h = let r = take_front w i n (omega arith) in (r.0, ap (λ v. a ∷ v) r.1)

-- a missing edge on the way
pub path_take_none : (g : Graph) (n at a i count : ℕ) (w : Word) → path g n (take i w) ≡ Some at → slice_get w i ≡ Some a → target g at a ≡ None → i < count → path g n (take count w) ≡ None
path_take_none g n at a i count w e h none less =
    let r = take_front w (i + 1) count (omega arith) in
    rw (r.1) (none_further g n (take (i + 1) w) r.0 (path_take_more g n at a i w e h ∙ none))
