-- What the graphs tell of a product.
use Rattle.std.proofs.Common.{◌≡◌, ℕ, ◌+◌, ◌*◌, ◌<◌, ◌≤◌, Bool, false, List, [], ◌∷◌, ◌++◌, length, get_or, refl, sym, ap, subst, subst₂, ◌∙◌, arith, inl, inr, length-append, add-one, true≢false}
use Rattle.theory.specs.Word.{Word, IsOver}
use Rattle.theory.specs.ShortLex.{◌≺◌}
use Rattle.theory.proofs.Words.{order_cases, before_no_longer, before_cons, before_trans}
use Rattle.theory.proofs.ValueLaws.{value_kept_left}
use Rattle.froidure_pin.specs.Found.{FoundLists, Generated, IsNumbered, IsSame, entry, factor_at, letters_of, no_factor, no_tail, parent, tail_at, words_in}
use Rattle.froidure_pin.specs.Growing.{IsAt}
use Rattle.froidure_pin.specs.Rules.{is_product}
use Rattle.froidure_pin.proofs.OneShape.{get_any}
use Rattle.froidure_pin.proofs.Order.{ahead}
use Rattle.froidure_pin.proofs.Places.{row_below}
use Rattle.froidure_pin.proofs.Factors.{factor_word, words_length}
use Rattle.froidure_pin.proofs.Search.{IsSetting, found_count, found_least, semi, known, r_trans, r_right}
use Rattle.froidure_pin.proofs.Reduced.{snoc_same, is_the_product}
use Rattle.froidure_pin.proofs.Placing.{not_before, parent_same, place_from_before}
use Rattle.froidure_pin.specs.declared.parts.Factor.{Factor}
use Rattle.froidure_pin.specs.declared.parts.Tail.{Tail}

module _ {V : Type 0} {shape : V → ℕ × ℕ} {s : Generated V} (setting : IsSetting shape s) {lists : FoundLists V} {number a : ℕ} (at : IsAt s lists number a) (letter : a < letters_of s) where
  abbrev k : ℕ
  k = letters_of s

  abbrev words : List Word
  words = words_in lists

  abbrev right : List ℕ
  right = lists.right

  abbrev pub suffix : ℕ
  suffix = (tail_at lists.tails number).suffix

  abbrev pub first : ℕ
  first = (tail_at lists.tails number).first

  abbrev pub rest : ℕ
  rest = entry k right suffix a

  pub inside : number < length words
  inside = omega (arith, at.within, found_count setting at.grown.found)

  abbrev pub word : Word
  word = get_or words number []

  pub here : parent words (number + 1) ≡ word
  here = rw add-one refl

  pub whole : word ≡ first ∷ parent words suffix
  whole = at.grown.split.whole number inside

  early : suffix ≤ number
  early = at.grown.split.earlier number inside

  pub rest_place : suffix * k + a < length right
  rest_place = omega (arith, at.grown.found.count, row_below k suffix (number + 1) a (omega (arith, early)) letter)

  pub rest_number : IsNumbered s words rest (parent words suffix ++ a ∷ [])
  rest_number = at.grown.found.numbers suffix a letter rest_place

  pub rest_within : rest < length lists.factors
  rest_within = omega (arith, rest_number.0, words_length lists.factors)

  pub first_over : first < k
  first_over = let over : IsOver k (first ∷ parent words suffix) = subst (λ w. IsOver k w) whole (found_least setting at.grown.found number inside).element.left.1 in over.0

  pub tail_within : number < length lists.tails
  tail_within = omega (arith, at.grown.split.count, inside)

  -- the word with the letter begins with the first letter of the word
  pub product_word : parent words (number + 1) ++ a ∷ [] ≡ first ∷ (parent words suffix ++ a ∷ [])
  product_word = ap (λ w. w ++ a ∷ []) (here ∙ whole)

  -- where the rest with the letter is no word, it has a lesser one
  module _ (lesser : is_product lists.factors rest suffix a ≡ false) where
    abbrev f : Factor
    f = factor_at lists.factors rest

    rest_word : get_or words rest [] ≡ parent words f.prefix ++ f.last ∷ []
    rest_word = factor_word k lists.factors at.grown.known rest rest_within

    prefix_within : f.prefix ≤ length words
    prefix_within = omega (arith, at.grown.known.earlier rest rest_within, rest_number.0)

    falls : get_or words rest [] ≺ (parent words suffix ++ a ∷ [])
    falls = elim (order_cases (get_or words rest []) (parent words suffix ++ a ∷ [])) [
      | inl l ↦ l
      | inr (inl e) ↦
          let both = snoc_same (parent words f.prefix) (parent words suffix) f.last a (sym rest_word ∙ e) in
          let same = parent_same setting at.grown.found f.prefix suffix prefix_within (omega (arith, early, inside)) both.0 in
          absurd (true≢false (sym (is_the_product lists.factors rest suffix a same both.1) ∙ lesser))
      | inr (inr g) ↦ absurd (not_before setting at.grown.found (parent words suffix ++ a ∷ []) rest rest_number g)
    ]

    pub prefix_place : f.prefix * k + first < length lists.left
    prefix_place =
        let no_longer = before_no_longer (get_or words rest []) (parent words suffix ++ a ∷ []) falls in
        let row = at.shorter.row f.prefix prefix_within (omega (arith, no_longer, ap length rest_word, ap length whole, length-append (parent words f.prefix) (f.last ∷ []), length-append (parent words suffix) (a ∷ []))) in
        omega (arith, row, row_below k f.prefix (f.prefix + 1) first (omega arith) first_over)

    abbrev q : ℕ
    q = entry k lists.left f.prefix first

    left_number : IsNumbered s words q (first ∷ parent words f.prefix)
    left_number = at.lefts.numbers f.prefix first first_over prefix_place

    pub before_within : q < length lists.factors
    before_within = omega (arith, left_number.0, words_length lists.factors)

    at_next : parent words (q + 1) ≡ get_or words q []
    at_next = rw add-one refl

    last_over : f.last < k
    last_over = at.grown.known.letter rest rest_within

    between : ((first ∷ parent words f.prefix) ++ f.last ∷ []) ≺ (parent words (number + 1) ++ a ∷ [])
    between = subst₂ (λ u v. u ≺ v) (ap (λ w. first ∷ w) rest_word) (sym product_word) (before_cons first (get_or words rest []) (parent words suffix ++ a ∷ []) falls)

    order : (parent words (q + 1) ++ f.last ∷ []) ≺ (parent words (number + 1) ++ a ∷ [])
    order = subst (λ w. (w ++ f.last ∷ []) ≺ (parent words (number + 1) ++ a ∷ [])) (sym at_next) (elim (order_cases (get_or words q []) (first ∷ parent words f.prefix)) [
      | inl l ↦ before_trans (get_or words q [] ++ f.last ∷ []) ((first ∷ parent words f.prefix) ++ f.last ∷ []) (parent words (number + 1) ++ a ∷ []) (ahead (get_or words q []) (first ∷ parent words f.prefix) f.last f.last l) between
      | inr (inl e) ↦ subst (λ w. (w ++ f.last ∷ []) ≺ (parent words (number + 1) ++ a ∷ [])) (sym e) between
      | inr (inr g) ↦ absurd (not_before setting at.grown.found (first ∷ parent words f.prefix) q left_number g)
    ])

    pub product_place : (q + 1) * k + f.last < length right
    product_place = omega (arith, at.grown.found.count, place_from_before setting at.grown.found (q + 1) f.last (number + 1) a (omega (arith, left_number.0)) (omega (arith, inside)) last_over order)

    pub product_number : IsNumbered s words (entry k right (q + 1) f.last) (parent words (number + 1) ++ a ∷ [])
    product_number =
        let n : ℕ = entry k right (q + 1) f.last in
        let next = at.grown.found.numbers (q + 1) f.last last_over product_place in
        let last : IsSame s (get_or words q [] ++ f.last ∷ []) (get_or words n []) = subst (λ w. IsSame s (w ++ f.last ∷ []) (get_or words n [])) at_next next.1 in
        let one : IsSame s (first ∷ (parent words suffix ++ a ∷ [])) (first ∷ get_or words rest []) =
        value_kept_left (semi setting) (known setting) (first ∷ []) (parent words suffix ++ a ∷ []) (get_or words rest []) rest_number.1 (first_over, tt) in
        let two : IsSame s ((first ∷ parent words f.prefix) ++ f.last ∷ []) (get_or words q [] ++ f.last ∷ []) = r_right setting (first ∷ parent words f.prefix) (get_or words q []) f.last left_number.1 last_over in
        let start : IsSame s (parent words (number + 1) ++ a ∷ []) ((first ∷ parent words f.prefix) ++ f.last ∷ []) = subst₂ (λ u v. IsSame s u v) (sym product_word) (ap (λ w. first ∷ w) rest_word) one in
        (next.0, r_trans setting (parent words (number + 1) ++ a ∷ []) ((first ∷ parent words f.prefix) ++ f.last ∷ []) (get_or words n []) start (r_trans setting ((first ∷ parent words f.prefix) ++ f.last ∷ []) (get_or words q [] ++ f.last ∷ []) (get_or words n []) two last))

  -- the same, as the code reads it one after another
  module _ (n : ℕ) (length_read : n ≡ letters_of s) {tail : Tail} (tail_read : tail ≡ get_or lists.tails number tail) where
    letters : letters_of s ≡ n
    letters = sym length_read

    tail_is : tail_at lists.tails number ≡ tail
    tail_is = get_any lists.tails number no_tail tail tail_within ∙ sym tail_read

    pub rest_place_read : tail.suffix * n + a < length right
    rest_place_read = subst₂ (λ n (t : Tail). t.suffix * n + a < length right) letters tail_is rest_place

    module _ {there : ℕ} (rest_read : there ≡ entry n right tail.suffix a) where
      rest_is : rest ≡ there
      rest_is = (λ i. entry (letters i) right (tail_is i).suffix a) ∙ sym rest_read

      pub rest_within_read : there < length lists.factors
      rest_within_read = subst (λ m. m < length lists.factors) rest_is rest_within

      pub product_read : {b : Bool} → is_product lists.factors there tail.suffix a ≡ b → is_product lists.factors rest suffix a ≡ b
      product_read e = (λ i. is_product lists.factors (rest_is i) (tail_is i).suffix a) ∙ e

      module _ (lesser : is_product lists.factors there tail.suffix a ≡ false) {factor : Factor} (factor_read : factor ≡ get_or lists.factors there factor) where
        less : is_product lists.factors rest suffix a ≡ false
        less = product_read lesser

        factor_is : factor_at lists.factors rest ≡ factor
        factor_is = get_any lists.factors rest no_factor factor rest_within ∙ ap (λ m. get_or lists.factors m factor) rest_is ∙ sym factor_read

        pub prefix_place_read : factor.prefix * n + tail.first < length lists.left
        prefix_place_read = subst (λ n. factor.prefix * n + tail.first < length lists.left) letters (subst₂ (λ (f : Factor) (t : Tail). f.prefix * letters_of s + t.first < length lists.left) factor_is tail_is (prefix_place less))

        module _ {before : ℕ} (before_read : before ≡ entry n lists.left factor.prefix tail.first) where
          before_is : q less ≡ before
          before_is = (λ i. entry (letters i) lists.left (factor_is i).prefix (tail_is i).first) ∙ sym before_read

          pub before_within_read : before < length lists.factors
          before_within_read = subst (λ m. m < length lists.factors) before_is (before_within less)

          pub product_place_read : (before + 1) * n + factor.last < length right
          product_place_read = subst (λ n. (before + 1) * n + factor.last < length right) letters (subst₂ (λ m (f : Factor). (m + 1) * letters_of s + f.last < length right) before_is factor_is (product_place less))

          pub number_read : {m : ℕ} → m ≡ entry n right (before + 1) factor.last → IsNumbered s words m (parent words (number + 1) ++ a ∷ [])
          number_read read = subst (λ m. IsNumbered s words m (parent words (number + 1) ++ a ∷ [])) ((λ i. entry (letters i) right (before_is i + 1) (factor_is i).last) ∙ sym read) (product_number less)
