-- Reading a table.
use Rattle.std.proofs.Common.{◌≡◌, ℕ, zero, suc, ◌+◌, ◌<◌, List, [], ◌∷◌, ◌++◌, length, get_or, take, fold, Some, Ok, Err, IfOk, slice_get, sym, ap, subst, ◌∙◌, arith}
use Rattle.std.specs.Prelude.{Result}
use Rattle.std.proofs.lemmas.List.{take_more}
use Rattle.std.proofs.lemmas.List.Sums.{fold-append}
use Rattle.std.proofs.lemmas.Option.{slice_get-get_or, get_or_from_slice_get}
use Rattle.theory.specs.Word.{Word, IsOver}
use Rattle.froidure_pin.specs.Numbering.{TableOf, right_number, letter_number, number_of}

-- the word that is read at a number
pub word_read : {F : Type 0} (words : List Word) (n : ℕ) (r : Result Word F) → n < length words → IfOk r (λ w. w ≡ get_or words n []) → IfOk r (λ w. slice_get words n ≡ Some w)
word_read words n (Ok w) h e = slice_get-get_or words n [] h ∙ ap Some (sym e)
word_read words n (Err f) h e = tt

-- a letter that is read is one of the first k
pub over_at : (k : ℕ) (u : Word) (i a : ℕ) → IsOver k u → slice_get u i ≡ Some a → a < k
over_at k [] i a over e = cc
over_at k (b ∷ u) zero a over e = let same : b ≡ a = cc in subst (λ c. c < k) same over.0
over_at k (b ∷ u) (suc i) a over e = over_at k u i a over.1 e

pub first_number : {V : Type 0} (t : TableOf V) (u : Word) (a : ℕ) → slice_get u 0 ≡ Some a → number_of t (take 1 u) ≡ letter_number t a
first_number t [] a e = cc
first_number t (b ∷ u) a e = let same : b ≡ a = cc in ap (letter_number t) same

-- the number of one letter more
pub number_more : {V : Type 0} (t : TableOf V) (u : Word) (i a : ℕ) → 0 < i → i < length u → slice_get u i ≡ Some a → number_of t (take (i + 1) u) ≡ right_number t (number_of t (take i u)) a
number_more t [] i a some h e = absurd (omega arith)
number_more t (b ∷ u) zero a some h e = absurd (omega arith)
number_more t (b ∷ u) (suc i) a some h e =
    let place : suc i + 1 ≡ suc (i + 1) = omega arith in
    let more : take (i + 1) u ≡ take i u ++ get_or u i 0 ∷ [] = take_more u i 0 (omega arith) in
    let letter : get_or u i 0 ≡ a = get_or_from_slice_get u i a 0 e in
    ap (λ n. number_of t (take n (b ∷ u))) place ∙ ap (fold (right_number t) (letter_number t b)) more ∙ fold-append (right_number t) (letter_number t b) (take i u) (get_or u i 0 ∷ []) ∙ ap (right_number t (fold (right_number t) (letter_number t b) (take i u))) letter
