-- Words that are made from factors.
use Rattle.std.proofs.Common.{◌≡◌, ℕ, zero, suc, ◌+◌, ◌<◌, ◌≤◌, List, [], ◌∷◌, ◌++◌, length, get_or, refl, sym, ap, subst, ◌∙◌, arith, inl, inr, length-append, add-zero}
use Rattle.theory.specs.Word.{Word}
use Rattle.froidure_pin.specs.Found.{AreFactors, parent, words_from, words_of, factor_of, no_factor, factor_at}
use Rattle.froidure_pin.proofs.Order.{equal_or_below}
use Rattle.froidure_pin.proofs.Places.{at_last}
use Rattle.froidure_pin.proofs.Starts.{get_front}
use Rattle.froidure_pin.specs.declared.parts.Factor.{Factor}

pub words_push : (words : List Word) (factors : List Factor) (i a : ℕ) → words_from words (factors ++ factor_of i a ∷ []) ≡ words_from words factors ++ (parent (words_from words factors) i ++ a ∷ []) ∷ []
words_push words [] i a = refl
words_push words (f ∷ fs) i a = words_push (words ++ (parent words f.prefix ++ f.last ∷ []) ∷ []) fs i a

words_from_length : (words : List Word) (factors : List Factor) → length (words_from words factors) ≡ length words + length factors
words_from_length words [] = omega arith
words_from_length words (f ∷ fs) =
    let w : Word = parent words f.prefix ++ f.last ∷ [] in omega (arith, words_from_length (words ++ w ∷ []) fs, length-append words (w ∷ []))

pub words_length : (factors : List Factor) → length (words_of factors) ≡ length factors
words_length factors = omega (arith, words_from_length [] factors)

-- those that are there stay
words_from_front : (words : List Word) (factors : List Factor) (j : ℕ) → j < length words → get_or (words_from words factors) j [] ≡ get_or words j []
words_from_front words [] j h = refl
words_from_front words (f ∷ fs) j h =
    let w : Word = parent words f.prefix ++ f.last ∷ [] in
    words_from_front (words ++ w ∷ []) fs j (omega (arith, length-append words (w ∷ []))) ∙ get_front words (w ∷ []) j [] h

parents_front : (words : List Word) (factors : List Factor) (j : ℕ) → j ≤ length words → parent (words_from words factors) j ≡ parent words j
parents_front words factors zero h = refl
parents_front words factors (suc j) h = words_from_front words factors j (omega arith)

words_from_at : (words : List Word) (factors : List Factor) (i : ℕ) → i < length factors → (factor_at factors i).prefix ≤ length words + i
    → get_or (words_from words factors) (length words + i) [] ≡ parent (words_from words factors) (factor_at factors i).prefix ++ (factor_at factors i).last ∷ []
words_from_at words [] i h e = absurd (omega arith)
words_from_at words (f ∷ fs) zero h e =
    let w : Word = parent words f.prefix ++ f.last ∷ [] in
    let here : get_or (words_from (words ++ w ∷ []) fs) (length words) [] ≡ w =
    words_from_front (words ++ w ∷ []) fs (length words) (omega (arith, length-append words (w ∷ []))) ∙ at_last words w [] in
    let same : parent (words_from (words ++ w ∷ []) fs) f.prefix ≡ parent words f.prefix = parents_front words (f ∷ fs) f.prefix (omega arith) in
    rw add-zero (here ∙ ap (λ u. u ++ f.last ∷ []) (sym same))
words_from_at words (f ∷ fs) (suc i) h e =
    let w : Word = parent words f.prefix ++ f.last ∷ [] in
    let long = length-append words (w ∷ []) in
    let rest = words_from_at (words ++ w ∷ []) fs i (omega arith) (omega arith) in
    let place : length (words ++ w ∷ []) + i ≡ length words + suc i = omega arith in
    subst (λ n. get_or (words_from (words ++ w ∷ []) fs) n [] ≡ parent (words_from (words ++ w ∷ []) fs) (factor_at fs i).prefix ++ (factor_at fs i).last ∷ []) place rest

-- each word is its parent and its letter
pub factor_word : (k : ℕ) (factors : List Factor) → AreFactors k factors → (i : ℕ) → i < length factors
    → get_or (words_of factors) i [] ≡ parent (words_of factors) (factor_at factors i).prefix ++ (factor_at factors i).last ∷ []
factor_word k factors known i h =
    let zero_more : 0 + i ≡ i = omega arith in
    subst (λ n. get_or (words_of factors) n [] ≡ parent (words_of factors) (factor_at factors i).prefix ++ (factor_at factors i).last ∷ []) zero_more (words_from_at [] factors i h (omega (arith, known.earlier i h)))

pub no_factors : (k : ℕ) → AreFactors k []
no_factors k = record { earlier = λ i h. absurd (omega arith); letter = λ i h. absurd (omega arith) }

pub factors_push : (k : ℕ) (factors : List Factor) (p a : ℕ) → AreFactors k factors → p ≤ length factors → a < k → AreFactors k (factors ++ factor_of p a ∷ [])
factors_push k factors p a known h l =
    let long = length-append factors (factor_of p a ∷ []) in
    record {
      earlier = λ i g. elim (equal_or_below i (length factors) (omega arith)) [
        | inl e ↦ subst (λ n. (factor_at (factors ++ factor_of p a ∷ []) n).prefix ≤ n) (sym e) (subst (λ (f : Factor). f.prefix ≤ length factors) (sym (at_last factors (factor_of p a) no_factor)) h)
        | inr less ↦ subst (λ (f : Factor). f.prefix ≤ i) (sym (get_front factors (factor_of p a ∷ []) i no_factor less)) (known.earlier i less)
      ];
      letter = λ i g. elim (equal_or_below i (length factors) (omega arith)) [
        | inl e ↦ subst (λ n. (factor_at (factors ++ factor_of p a ∷ []) n).last < k) (sym e) (subst (λ (f : Factor). f.last < k) (sym (at_last factors (factor_of p a) no_factor)) l)
        | inr less ↦ subst (λ (f : Factor). f.last < k) (sym (get_front factors (factor_of p a ∷ []) i no_factor less)) (known.letter i less)
      ];
    }
