-- Spelling words from their last letters.
use Rattle.std.proofs.Common.{◌≡◌, ℕ, zero, suc, ◌-◌, ◌<◌, ◌≤◌, List, [], ◌∷◌, ◌++◌, length, get_or, reverse, refl, sym, ap, subst, ◌∙◌, arith, append_assoc, Option, None, Some, SomeIff, IfSome}
use Rattle.std.proofs.lemmas.List.{reverse-append}
use Rattle.theory.specs.Word.{Word}
use Rattle.froidure_pin.specs.Found.{AreFactors, parent, words_of, no_factor, factor_at, word_or_none}
use Rattle.froidure_pin.proofs.Factors.{factor_word, words_length}
use Rattle.froidure_pin.proofs.OneShape.{get_any}
use Rattle.froidure_pin.specs.declared.parts.Factor.{Factor}

pub fewer_letters : (k : ℕ) (factors : List Factor) → AreFactors k factors → k ≤ 256 → AreFactors 256 factors
fewer_letters k factors known few = record { earlier = known.earlier; letter = λ i h. omega (arith, known.letter i h) }

-- one letter more
pub spell_more : (factors : List Factor) (at : ℕ) (f : Factor) (back later target : Word) → AreFactors 256 factors → 0 < at → at ≤ length factors
    → get_or factors (at - 1) f ≡ f → later ≡ back ++ f.last ∷ [] → parent (words_of factors) at ++ reverse back ≡ target
    → (f.prefix < at) × (parent (words_of factors) f.prefix ++ reverse later ≡ target)
spell_more factors zero f back later target known some h here is so_far = absurd (omega arith)
spell_more factors (suc i) f back later target known some h here is so_far =
    let inside : i < length factors = omega arith in
    let place : suc i - 1 ≡ i = omega arith in
    let same : factor_at factors i ≡ f = get_any factors i no_factor f inside ∙ ap (λ n. get_or factors n f) (sym place) ∙ here in
    let word : get_or (words_of factors) i [] ≡ parent (words_of factors) f.prefix ++ f.last ∷ [] = subst (λ (g : Factor). get_or (words_of factors) i [] ≡ parent (words_of factors) g.prefix ++ g.last ∷ []) same (factor_word 256 factors known i inside) in
    let turned : reverse later ≡ f.last ∷ reverse back = ap reverse is ∙ reverse-append back (f.last ∷ []) in
    let earlier : f.prefix ≤ i = subst (λ (g : Factor). g.prefix ≤ i) same (known.earlier i inside) in (
      omega arith,
      ap (λ u. parent (words_of factors) f.prefix ++ u) turned ∙ sym (append_assoc (parent (words_of factors) f.prefix) (f.last ∷ []) (reverse back)) ∙ ap (λ u. u ++ reverse back) (sym word) ∙ so_far,
    )

-- the word of the number before a place is that of its parent
word_before : (words : List Word) (place : ℕ) (found : Option ℕ) → SomeIff found (1 ≤ place) (place - 1) → word_or_none words found ≡ parent words place
word_before words zero None is = refl
word_before words zero (Some i) is = absurd (omega (arith, is.0))
word_before words (suc p) None is = absurd (is (omega arith))
word_before words (suc p) (Some i) is = let same : i ≡ p = omega (arith, is.1) in ap (λ n. get_or words n []) same

-- which is an earlier one
number_before : (number place : ℕ) (found : Option ℕ) → place ≤ number → SomeIff found (1 ≤ place) (place - 1) → IfSome found (λ prefix. prefix < number)
number_before number place None low is = tt
number_before number place (Some i) low is = omega (arith, is.0, is.1, low)

-- what the factors of a number say of its word
pub factor_read : (factors : List Factor) (number : ℕ) (f : Factor) → AreFactors 256 factors → number < length (words_of factors) → f ≡ get_or factors number f
    → (f.last < 256) × ((found : Option ℕ) → SomeIff found (1 ≤ f.prefix) (f.prefix - 1)
    → IfSome found (λ prefix. prefix < number) × (get_or (words_of factors) number [] ≡ word_or_none (words_of factors) found ++ f.last ∷ []))
factor_read factors number f known within is =
    let inside : number < length factors = omega (arith, within, words_length factors) in
    let same : factor_at factors number ≡ f = get_any factors number no_factor f inside ∙ sym is in
    let word : get_or (words_of factors) number [] ≡ parent (words_of factors) f.prefix ++ f.last ∷ [] =
    subst (λ (g : Factor). get_or (words_of factors) number [] ≡ parent (words_of factors) g.prefix ++ g.last ∷ []) same (factor_word 256 factors known number inside) in (
      subst (λ (g : Factor). g.last < 256) same (known.letter number inside),
      λ found before. (
        number_before number f.prefix found (subst (λ (g : Factor). g.prefix ≤ number) same (known.earlier number inside)) before,
        word ∙ ap (λ u. u ++ f.last ∷ []) (sym (word_before (words_of factors) f.prefix found before)),
      ),
    )
