-- What is found, with one product more.
use Rattle.std.proofs.Common.{◌≡◌, ℕ, ◌+◌, ◌*◌, ◌<◌, ◌≤◌, true, false, List, [], ◌∷◌, ◌++◌, length, get_or, IsTrue, sym, ap, subst, ◌∙◌, arith, inl, inr, length-append}
use Rattle.std.specs.List.{list_any, position_or_len}
use Rattle.theory.specs.Word.{Word}
use Rattle.froidure_pin.specs.Found.{FoundLists, Generated, IsNumbered, factor_at, factor_of, letters_of, no_factor, no_tail, parent, tail_at, tail_of, value_in, words_in, words_of}
use Rattle.froidure_pin.specs.Growing.{ArePlaced, AreTails, IsGrown}
use Rattle.froidure_pin.proofs.Order.{equal_or_below}
use Rattle.froidure_pin.proofs.Places.{at_last}
use Rattle.froidure_pin.proofs.Factors.{factors_push, words_length, words_push}
use Rattle.froidure_pin.proofs.Starts.{get_front}
use Rattle.froidure_pin.proofs.Taken.{with_element, with_number}
use Rattle.froidure_pin.proofs.Search.{IsSetting, found_new, found_old, found_row, found_told}
use Rattle.froidure_pin.specs.declared.parts.Factor.{Factor}
use Rattle.froidure_pin.specs.declared.parts.Tail.{Tail}

-- one factor more is placed
pub placed_push : (k : ℕ) (factors : List Factor) (i a n : ℕ) → ArePlaced k factors n → n ≡ i * k + a → ArePlaced k (factors ++ factor_of i a ∷ []) (n + 1)
placed_push k factors i a n placed is = record {
  before = λ j h. elim (equal_or_below j (length factors) (omega (arith, length-append factors (factor_of i a ∷ [])))) [
    | inl e ↦
        let last : factor_at (factors ++ factor_of i a ∷ []) j ≡ factor_of i a = ap (λ m. factor_at (factors ++ factor_of i a ∷ []) m) e ∙ at_last factors (factor_of i a) no_factor in
        subst (λ (f : Factor). f.prefix * k + f.last < n + 1) (sym last) (omega (arith, is))
    | inr less ↦ subst (λ (f : Factor). f.prefix * k + f.last < n + 1) (sym (get_front factors (factor_of i a ∷ []) j no_factor less)) (omega (arith, placed.before j less))
  ];
}

pub parents_front : (words : List Word) (c : Word) (j : ℕ) → j ≤ length words → parent (words ++ c ∷ []) j ≡ parent words j
parents_front words c j h = get_front ([] ∷ words) (c ∷ []) j [] (omega arith)

-- one word more is split
pub tails_push : (words : List Word) (tails : List Tail) (c : Word) (b s : ℕ) → AreTails words tails → s ≤ length words → c ≡ b ∷ parent words s → AreTails (words ++ c ∷ []) (tails ++ tail_of b s ∷ [])
tails_push words tails c b s split h is =
    let long = length-append words (c ∷ []) in
    let more = length-append tails (tail_of b s ∷ []) in
    let last : (j : ℕ) → j ≡ length words → tail_at (tails ++ tail_of b s ∷ []) j ≡ tail_of b s = λ j e. ap (λ m. tail_at (tails ++ tail_of b s ∷ []) m) (e ∙ sym split.count) ∙ at_last tails (tail_of b s) no_tail in
    let front : (j : ℕ) → j < length words → tail_at (tails ++ tail_of b s ∷ []) j ≡ tail_at tails j = λ j l. get_front tails (tail_of b s ∷ []) j no_tail (omega (arith, split.count)) in
    record {
      count = omega (arith, split.count);
      earlier = λ j l. elim (equal_or_below j (length words) (omega arith)) [
        | inl e ↦ subst (λ (t : Tail). t.suffix ≤ j) (sym (last j e)) (omega arith)
        | inr less ↦ subst (λ (t : Tail). t.suffix ≤ j) (sym (front j less)) (split.earlier j less)
      ];
      whole = λ j l. elim (equal_or_below j (length words) (omega arith)) [
        | inl e ↦
            let at : get_or (words ++ c ∷ []) j [] ≡ c = ap (λ m. get_or (words ++ c ∷ []) m []) e ∙ at_last words c [] in
            subst (λ (t : Tail). get_or (words ++ c ∷ []) j [] ≡ t.first ∷ parent (words ++ c ∷ []) t.suffix) (sym (last j e)) (at ∙ is ∙ ap (λ u. b ∷ u) (sym (parents_front words c s h)))
        | inr less ↦
            let t : Tail = tail_at tails j in
            subst (λ (t : Tail). get_or (words ++ c ∷ []) j [] ≡ t.first ∷ parent (words ++ c ∷ []) t.suffix) (sym (front j less)) (get_front words (c ∷ []) j [] less ∙ split.whole j less ∙ ap (λ u. t.first ∷ u) (sym (parents_front words c t.suffix (omega (arith, split.earlier j less)))))
      ];
    }

-- another row on the left
pub grown_left : {V : Type 0} {s : Generated V} {lists : FoundLists V} {i a : ℕ} (left : List ℕ) → IsGrown s lists i a → IsGrown s (record lists { left = left }) i a
grown_left left g = record {
  known = g.known;
  placed = g.placed;
  split = g.split;
  found = record { start = g.found.start; values = g.found.values; count = g.found.count; numbers = g.found.numbers };
}

module _ {V : Type 0} {shape : V → ℕ × ℕ} {s : Generated V} (setting : IsSetting shape s) where
  -- the next row
  pub grown_row : {lists : FoundLists V} {i : ℕ} → IsGrown s lists i (letters_of s) → IsGrown s lists (i + 1) 0
  grown_row g = record { known = g.known; placed = g.placed; split = g.split; found = found_row setting g.found }

  module _ {lists : FoundLists V} {i a : ℕ} (g : IsGrown s lists i a) (within : i ≤ length (words_in lists)) (letter : a < letters_of s) where
    abbrev words : List Word
    words = words_in lists

    abbrev next_word : Word
    next_word = parent words i ++ a ∷ []

    one_more : (m : ℕ) → length lists.right + 1 ≡ length (lists.right ++ m ∷ [])
    one_more m = omega (arith, length-append lists.right (m ∷ []))

    still_placed : (m : ℕ) → ArePlaced (letters_of s) lists.factors (length (lists.right ++ m ∷ []))
    still_placed m = record { before = λ j l. omega (arith, g.placed.before j l, one_more m) }

    -- a product whose number is told
    pub grown_told : (m : ℕ) → IsNumbered s words m next_word → IsGrown s (with_number lists m) i (a + 1)
    grown_told m n = record { known = g.known; placed = still_placed m; split = g.split; found = found_told setting g.found within m letter n }

    -- one that is made, and is there or is new
    module _ (p : V) (value : IsTrue (s.equal (value_in s next_word) p)) where
      abbrev place : ℕ
      place = position_or_len (s.equal p) lists.elements

      pub grown_old : list_any (s.equal p) lists.elements ≡ true → IsGrown s (with_number lists place) i (a + 1)
      grown_old there = record { known = g.known; placed = still_placed place; split = g.split; found = found_old setting g.found within letter p value there }

      pub grown_new : (b t : ℕ) → t ≤ length words → next_word ≡ b ∷ parent words t → list_any (s.equal p) lists.elements ≡ false
          → IsGrown s (with_element lists p (factor_of i a) (tail_of b t) place) i (a + 1)
      grown_new b t early split none =
          let pushed : words_of (lists.factors ++ factor_of i a ∷ []) ≡ words ++ next_word ∷ [] = words_push [] lists.factors i a in
          record {
            known = factors_push (letters_of s) lists.factors i a g.known (omega (arith, within, words_length lists.factors)) letter;
            placed = subst (λ z. ArePlaced (letters_of s) (lists.factors ++ factor_of i a ∷ []) z) (one_more place) (placed_push (letters_of s) lists.factors i a (length lists.right) g.placed g.found.count);
            split = subst (λ ws. AreTails ws (lists.tails ++ tail_of b t ∷ [])) (sym pushed) (tails_push words lists.tails next_word b t g.split early split);
            found = found_new setting g.found within letter p value (tail_of b t) none;
          }
