-- The generators, and the first row of letters.
use Rattle.std.proofs.Common.{◌≡◌, ℕ, zero, suc, ◌+◌, ◌*◌, ◌<◌, List, [], ◌∷◌, ◌++◌, length, get_or, take, IsTrue, refl, sym, ap, subst, ◌∙◌, arith, inl, inr, length-append, get_or-take}
use Rattle.std.proofs.lemmas.List.{length-take-le}
use Rattle.theory.specs.Word.{Word}
use Rattle.froidure_pin.specs.Found.{FoundLists, Generated, IsNumbered, entry, factor_of, letters_of, parent, tail_of, words_in}
use Rattle.froidure_pin.specs.Growing.{AreCounted, AreLeftNumbers, IsGrown, IsLevel}
use Rattle.froidure_pin.specs.Kept.{HasTakenIn, lists_of}
use Rattle.froidure_pin.specs.declared.growth.Growth.{Growth}
use Rattle.froidure_pin.proofs.OneShape.{get_any}
use Rattle.froidure_pin.proofs.Order.{equal_or_below}
use Rattle.froidure_pin.proofs.Places.{at_last, row_within}
use Rattle.froidure_pin.proofs.Factors.{no_factors, words_push}
use Rattle.froidure_pin.proofs.Starts.{get_front}
use Rattle.froidure_pin.proofs.Taken.{nothing, old_or_new, taken, taken_lists}
use Rattle.froidure_pin.proofs.Search.{IsSetting, known}
use Rattle.froidure_pin.proofs.OneMore.{grown_new, grown_old}

-- each word has one letter
abbrev pub AreSingle : List Word → Type 0
AreSingle words = (j : ℕ) → j < length words → length (get_or words j []) ≡ 1

single_push : (words : List Word) (a : ℕ) → AreSingle words → AreSingle (words ++ (a ∷ []) ∷ [])
single_push words a single j h = elim (equal_or_below j (length words) (omega (arith, length-append words ((a ∷ []) ∷ [])))) [
  | inl e ↦ let at : get_or (words ++ (a ∷ []) ∷ []) j [] ≡ a ∷ [] = ap (λ m. get_or (words ++ (a ∷ []) ∷ []) m []) e ∙ at_last words (a ∷ []) [] in ap length at
  | inr less ↦ ap length (get_front words ((a ∷ []) ∷ []) j [] less) ∙ single j less
]

pub single_level : (words : List Word) (n : ℕ) → length words ≡ n → AreSingle words → IsLevel words 0 n
single_level words n e single = record {
  within = omega arith;
  here = λ j p q. omega (arith, single j (omega arith), single 0 (omega arith));
  behind = λ j p q. absurd (omega arith);
}

-- a copy of what is read is what is read
pub copy_read : {V : Type 0} (xs : List V) (a : ℕ) {x p : V} → x ≡ get_or xs a x → p ≡ x → get_or xs a p ≡ p
copy_read xs a read copied = cc

module _ {V : Type 0} {shape : V → ℕ × ℕ} {s : Generated V} (setting : IsSetting shape s) where
  pub grown_none : IsGrown s nothing 0 0
  grown_none = record {
    known = no_factors (letters_of s);
    placed = record { before = λ j h. absurd (omega arith) };
    split = record { count = refl; earlier = λ j h. absurd (omega arith); whole = λ j h. absurd (omega arith) };
    found = record { start = tt; values = tt; count = omega arith; numbers = λ j b h g. absurd (omega arith) };
  }

  pub counted_none : {words : List Word} {n steps : ℕ} → AreCounted s words n steps steps
  counted_none = record { rules = []; apart = tt; reduced = λ p m. absurd m; placed = λ p m. absurd m; few = omega arith }

  -- the first row on the left is that on the right
  pub left_first : {lists : FoundLists V} → IsGrown s lists 1 0 → AreLeftNumbers s (words_in lists) (take (letters_of s) lists.right)
  left_first {lists} g = record { numbers = numbers }
    where
      numbers : (j b : ℕ) → b < letters_of s → j * letters_of s + b < length (take (letters_of s) lists.right) → IsNumbered s (words_in lists) (entry (letters_of s) (take (letters_of s) lists.right) j b) (b ∷ parent (words_in lists) j)
      numbers zero b h l =
          let same : entry (letters_of s) (take (letters_of s) lists.right) 0 b ≡ entry (letters_of s) lists.right 0 b = get_or-take (letters_of s) lists.right (0 * letters_of s + b) 0 (omega arith) in
          subst (λ n. IsNumbered s (words_in lists) n (b ∷ [])) (sym same) (g.found.numbers 0 b h (omega (arith, g.found.count)))
      numbers (suc j) b h l = absurd (let row = row_within (letters_of s) (suc j) 0 (letters_of s) b (omega arith) (omega (arith, length-take-le (letters_of s) lists.right (omega (arith, g.found.count)))) in omega (arith, row))

  module _ {lists : FoundLists V} {a : ℕ} (g : IsGrown s lists 0 a) (letter : a < letters_of s) (single : AreSingle (words_in lists)) (p : V) (is : get_or s.generators a p ≡ p) where
    abbrev Begun : FoundLists V → Type 0
    Begun new = IsGrown s new 0 (a + 1) × AreSingle (words_in new)

    value : IsTrue (s.equal (get_or s.generators a s.unused) p)
    value = subst (λ z. IsTrue (s.equal (get_or s.generators a s.unused) z)) (get_any s.generators a s.unused p letter ∙ is) ((known setting).reflexive (get_or s.generators a s.unused))

    begun : Begun (taken s.equal lists p (factor_of 0 a) (tail_of a 0))
    begun = old_or_new s.equal lists p (factor_of 0 a) (tail_of a 0) Begun
        (λ there. (grown_old setting g (omega arith) letter p value there, single))
        (λ none. (grown_new setting g (omega arith) letter p value a 0 (omega arith) refl none, subst (λ ws. AreSingle ws) (sym (words_push [] lists.factors 0 a)) (single_push (words_in lists) a single)))

  -- a copy of the next generator is taken in
  pub begun_in : {old new : Growth V} {a : ℕ} {p : V} → IsGrown s (lists_of old) 0 a → a < letters_of s → AreSingle (words_in (lists_of old)) → get_or s.generators a p ≡ p
      → HasTakenIn s.equal old new p (factor_of 0 a) (tail_of a 0) → IsGrown s (lists_of new) 0 (a + 1) × AreSingle (words_in (lists_of new))
  begun_in {old} {new} {a} {p} g letter single is now = subst (λ lists. IsGrown s lists 0 (a + 1) × AreSingle (words_in lists)) (sym (taken_lists now)) (begun g letter single p is)
