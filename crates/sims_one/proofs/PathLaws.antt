-- Paths by the first targets of a table.
use Rattle.std.proofs.Common.{◌≡◌, ℕ, zero, suc, ◌+◌, ◌*◌, ◌<◌, ◌≤◌, List, [], ◌∷◌, ◌++◌, length, drop, get_or, All, Bool, true, false, slice_get, Option, Some, None, option_and_then, refl, ◌∙◌, ap, subst, arith}
use Rattle.std.proofs.lemmas.List.{drop_more}
use Rattle.std.proofs.lemmas.Option.{get_or_from_slice_get, slice_get_within}
use Rattle.std.proofs.Math.ListN.{drop_of_length-le}
use Rattle.theory.specs.Word.{Word, IsOver}
use Rattle.theory.specs.Congruence.{Presentation, AreElements}
use Rattle.sims_one.specs.Targets.{path_in, IsSound}
use Rattle.sims_one.proofs.FrontLaws.{seen_more}

pub get_more : (t u : List ℕ) (i n : ℕ) → slice_get t i ≡ Some n → slice_get (t ++ u) i ≡ Some n
get_more [] u i n e = cc
get_more (x ∷ t) u zero n e = e
get_more (x ∷ t) u (suc i) n e = get_more t u i n e

-- a path stays where targets are added
pub path_more : (k : ℕ) (t u : List ℕ) (node m : ℕ) (w : Word) → path_in k t node w ≡ Some m → path_in k (t ++ u) node w ≡ Some m
path_more k t u node m [] e = e
path_more k t u node m (a ∷ w) e = go (slice_get t (node * k + a)) refl e (λ next d. path_more k t u next m w d)
  where
    go : (s : Option ℕ) → slice_get t (node * k + a) ≡ s → option_and_then (λ next. path_in k t next w) s ≡ Some m
        → ((next : ℕ) → path_in k t next w ≡ Some m → path_in k (t ++ u) next w ≡ Some m)
        → option_and_then (λ next. path_in k (t ++ u) next w) (slice_get (t ++ u) (node * k + a)) ≡ Some m
    go None at e further = cc
    go (Some next) at e further = ap (option_and_then (λ next. path_in k (t ++ u) next w)) (get_more t u (node * k + a) next at) ∙ further next e

-- relations that fail fail for good
pub sound_front : (p : Presentation) (t u : List ℕ) → IsSound p (t ++ u) → IsSound p t
sound_front p t u sound = λ node r s h c m n er es.
    sound node r s (omega (arith, h, seen_more t u)) c m n (path_more p.letters t u node m r er) (path_more p.letters t u node n s es)

-- a letter of a word
pub letter_over : (k : ℕ) (w : Word) (i a : ℕ) → IsOver k w → slice_get w i ≡ Some a → a < k
letter_over k [] i a over e = cc
letter_over k (b ∷ w) zero a over e = let same : b ≡ a = cc in subst (λ z. z < k) same over.0
letter_over k (b ∷ w) (suc i) a over e = letter_over k w i a over.1 e

-- one letter more of a path
pub path_letter : (k : ℕ) (t : List ℕ) (at : ℕ) (w : Word) (i a : ℕ) → i < length w → slice_get w i ≡ Some a
    → path_in k t at (drop i w) ≡ option_and_then (λ next. path_in k t next (drop (i + 1) w)) (slice_get t (at * k + a))
path_letter k t at w i a h e =
    let here : get_or w i 0 ≡ a = get_or_from_slice_get w i a 0 e in
    ap (path_in k t at) (drop_more w i 0 h ∙ ap (λ z. z ∷ drop (i + 1) w) here)

pub path_ended : (k : ℕ) (t : List ℕ) (at : ℕ) (w : Word) (i : ℕ) → length w ≤ i → path_in k t at (drop i w) ≡ Some at
path_ended k t at w i h = ap (path_in k t at) (drop_of_length-le w h)

pub target_small : (b : ℕ) (t : List ℕ) (i n : ℕ) → All (λ m. m < b) t → slice_get t i ≡ Some n → n < b
target_small b t i n all e =
    let within : i < length t = slice_get_within t i n e in
    subst (λ z. z < b) (get_or_from_slice_get t i n 0 e) (all i 0 within)

-- the words of relations
pub relation_over : (is_monoid : Bool) (k : ℕ) (relations : List (Word × Word)) → AreElements is_monoid k relations → All (λ p. IsOver k p.0 × IsOver k p.1) relations
relation_over true k relations all = all
relation_over false k relations all = λ i d h. let e = all i d h in (e.0.1, e.1.1)
