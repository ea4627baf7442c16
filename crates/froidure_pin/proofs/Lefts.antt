-- One number more of a letter times a word.
use Rattle.std.proofs.Common.{◌≡◌, ℕ, ◌+◌, ◌*◌, ◌<◌, ◌≤◌, List, [], ◌∷◌, ◌++◌, length, get_or, refl, sym, ap, subst, subst₂, ◌∙◌, arith, inl, inr, length-append, add-one}
use Rattle.theory.specs.Word.{Word}
use Rattle.theory.proofs.Words.{order_cases, before_no_longer}
use Rattle.froidure_pin.specs.Found.{FoundLists, Generated, IsNumbered, IsSame, entry, factor_at, letters_of, no_factor, parent, words_in}
use Rattle.froidure_pin.specs.Growing.{AreLeftNumbers, IsGrown, ReachesAsLong}
use Rattle.froidure_pin.proofs.OneShape.{get_any}
use Rattle.froidure_pin.proofs.Order.{equal_or_below}
use Rattle.froidure_pin.proofs.Places.{row_below, place_is, at_last}
use Rattle.froidure_pin.proofs.Factors.{factor_word, words_length}
use Rattle.froidure_pin.proofs.Starts.{get_front}
use Rattle.froidure_pin.proofs.Search.{IsSetting, found_count, r_trans, r_right}
use Rattle.froidure_pin.proofs.Placing.{not_before}
use Rattle.froidure_pin.specs.declared.parts.Factor.{Factor}

module _ {V : Type 0} {shape : V → ℕ × ℕ} {s : Generated V} (setting : IsSetting shape s) {lists : FoundLists V} {i : ℕ} (g : IsGrown s lists i 0) (number b : ℕ) (inside : number < length lists.elements) (letter : b < letters_of s)
    (rows : length lists.left ≡ (number + 1) * letters_of s + b) (lefts : AreLeftNumbers s (words_in lists) lists.left) where
  abbrev k : ℕ
  k = letters_of s

  abbrev words : List Word
  words = words_in lists

  abbrev f : Factor
  f = factor_at lists.factors number

  in_words : number < length words
  in_words = omega (arith, inside, found_count setting g.found)

  pub in_factors : number < length lists.factors
  in_factors = omega (arith, in_words, words_length lists.factors)

  early : f.prefix ≤ number
  early = g.known.earlier number in_factors

  last_over : f.last < k
  last_over = g.known.letter number in_factors

  prefix_place : f.prefix * k + b < length lists.left
  prefix_place = omega (arith, rows, row_below k f.prefix (number + 1) b (omega (arith, early)) letter)

  abbrev q : ℕ
  q = entry k lists.left f.prefix b

  before : IsNumbered s words q (b ∷ parent words f.prefix)
  before = lefts.numbers f.prefix b letter prefix_place

  word : get_or words number [] ≡ parent words f.prefix ++ f.last ∷ []
  word = factor_word k lists.factors g.known number in_factors

  no_longer : length (get_or words q []) ≤ length (get_or words number [])
  no_longer =
      let long : length (b ∷ parent words f.prefix) ≡ length (get_or words number []) = omega (arith, ap length word, length-append (parent words f.prefix) (f.last ∷ [])) in
      elim (order_cases (get_or words q []) (b ∷ parent words f.prefix)) [
        | inl l ↦ omega (arith, long, before_no_longer (get_or words q []) (b ∷ parent words f.prefix) l)
        | inr (inl e) ↦ omega (arith, long, ap length e)
        | inr (inr l) ↦ absurd (not_before setting g.found (b ∷ parent words f.prefix) q before l)
      ]

  module _ (reach : ReachesAsLong (letters_of s) words (length lists.right) number) where
    product_place : (q + 1) * k + f.last < length lists.right
    product_place = omega (arith, reach.row q before.0 no_longer, row_below k (q + 1) (q + 1 + 1) f.last (omega arith) last_over)

    abbrev n : ℕ
    n = entry k lists.right (q + 1) f.last

    product_number : IsNumbered s words n (b ∷ get_or words number [])
    product_number =
        let next = g.found.numbers (q + 1) f.last last_over product_place in
        let at_next : parent words (q + 1) ≡ get_or words q [] = rw add-one refl in
        let last : IsSame s (get_or words q [] ++ f.last ∷ []) (get_or words n []) = subst (λ w. IsSame s (w ++ f.last ∷ []) (get_or words n [])) at_next next.1 in
        let one : IsSame s ((b ∷ parent words f.prefix) ++ f.last ∷ []) (get_or words q [] ++ f.last ∷ []) = r_right setting (b ∷ parent words f.prefix) (get_or words q []) f.last before.1 last_over in
        (next.0, subst (λ w. IsSame s w (get_or words n [])) (ap (λ w. b ∷ w) (sym word)) (r_trans setting ((b ∷ parent words f.prefix) ++ f.last ∷ []) (get_or words q [] ++ f.last ∷ []) (get_or words n []) one last))

    lefts_more : AreLeftNumbers s words (lists.left ++ n ∷ [])
    lefts_more = record { numbers = numbers }
      where
        numbers : (j d : ℕ) → d < k → j * k + d < length (lists.left ++ n ∷ []) → IsNumbered s words (entry k (lists.left ++ n ∷ []) j d) (d ∷ parent words j)
        numbers j d h l = elim (equal_or_below (j * k + d) (length lists.left) (omega (arith, length-append lists.left (n ∷ [])))) [
          | inl e ↦
              let same = place_is k j (number + 1) d b h letter (e ∙ rows) in
              let last : entry k (lists.left ++ n ∷ []) j d ≡ n = ap (λ m. get_or (lists.left ++ n ∷ []) m 0) e ∙ at_last lists.left n 0 in
              let at_next : parent words (number + 1) ≡ get_or words number [] = rw add-one refl in
              let whole : d ∷ parent words j ≡ b ∷ get_or words number [] = (λ z. same.1 z ∷ parent words (same.0 z)) ∙ ap (λ w. b ∷ w) at_next in
              subst₂ (λ m w. IsNumbered s words m w) (sym last) (sym whole) product_number
          | inr less ↦ subst (λ m. IsNumbered s words m (d ∷ parent words j)) (sym (get_front lists.left (n ∷ []) (j * k + d) 0 less)) (lefts.numbers j d h less)
        ]

  -- the same, as the code reads it
  module _ (m : ℕ) (length_read : m ≡ letters_of s) {factor : Factor} (factor_read : factor ≡ get_or lists.factors number factor) where
    factor_is : f ≡ factor
    factor_is = get_any lists.factors number no_factor factor in_factors ∙ sym factor_read

    pub last_read : factor.last < m
    last_read = subst₂ (λ n (f : Factor). f.last < n) (sym length_read) factor_is last_over

    pub prefix_read : factor.prefix * m + b < length lists.left
    prefix_read = subst₂ (λ n (f : Factor). f.prefix * n + b < length lists.left) (sym length_read) factor_is prefix_place

    module _ (reach : ReachesAsLong (letters_of s) words (length lists.right) number) where
      pub product_read : (entry m lists.left factor.prefix b + 1) * m + factor.last < length lists.right
      product_read = subst₂ (λ n (f : Factor). (entry n lists.left f.prefix b + 1) * n + f.last < length lists.right) (sym length_read) factor_is (product_place reach)

      pub lefts_read : {made : ℕ} → made ≡ entry m lists.right (entry m lists.left factor.prefix b + 1) factor.last → AreLeftNumbers s words (lists.left ++ made ∷ [])
      lefts_read {made} read =
          let same : n reach ≡ made = (λ i. entry (sym length_read i) lists.right (entry (sym length_read i) lists.left (factor_is i).prefix b + 1) (factor_is i).last) ∙ sym read in
          subst (λ m. AreLeftNumbers s words (lists.left ++ m ∷ [])) same (lefts_more reach)
