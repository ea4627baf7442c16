-- Places in order are words in order.
use Rattle.std.proofs.Common.{◌≡◌, ℕ, ◌+◌, ◌*◌, ◌<◌, ◌≤◌, List, [], ◌∷◌, ◌++◌, length, get_or, None, sym, ap, subst, arith, inl, inr}
use Rattle.theory.specs.Word.{Word}
use Rattle.theory.specs.ShortLex.{◌≺◌}
use Rattle.theory.specs.Listing.{IsAscending}
use Rattle.theory.specs.Class.{IsLeast}
use Rattle.theory.proofs.Words.{before_irrefl, before_trans, before_append_left}
use Rattle.froidure_pin.specs.Found.{AreFound, FoundLists, Generated, IsNumbered, IsSame, factor_at, letters_of, parent, words_in}
use Rattle.froidure_pin.specs.Growing.{IsGrown}
use Rattle.froidure_pin.proofs.Order.{snoc_before, ahead, letter_before, below_or_not, equal_or_below}
use Rattle.froidure_pin.proofs.Places.{row_below, row_within}
use Rattle.froidure_pin.proofs.Factors.{factor_word, words_length}
use Rattle.froidure_pin.proofs.Starts.{start_ascending}
use Rattle.froidure_pin.proofs.Search.{IsSetting, found_least, r_sym}
use Rattle.froidure_pin.proofs.LeastWords.{parents_rise, parent_once}
use Rattle.froidure_pin.specs.declared.parts.Factor.{Factor}

module _ {V : Type 0} {shape : V → ℕ × ℕ} {s : Generated V} (setting : IsSetting shape s) {lists : FoundLists V} {row next : ℕ} (f : AreFound s lists row next) where
  abbrev words : List Word
  words = words_in lists

  -- no word of a class is before the word of its number
  pub not_before : (u : Word) (m : ℕ) → IsNumbered s words m u → u ≺ get_or words m [] → ⊥
  not_before u m n l = (found_least setting f m n.0).none_less u (r_sym setting u (get_or words m []) n.1) l

  ascending : IsAscending ◌≺◌ None words
  ascending = start_ascending (IsLeast (IsSame s)) None words f.start

  parents_between : (i j : ℕ) → i < j → j ≤ length words → parent words i ≺ parent words j
  parents_between = parents_rise setting words (found_least setting f) ascending

  pub parent_same : (i j : ℕ) → i ≤ length words → j ≤ length words → parent words i ≡ parent words j → i ≡ j
  parent_same = parent_once setting words (found_least setting f) ascending

  pub place_before : (j b i a : ℕ) → j ≤ length words → i ≤ length words → b < letters_of s → a ≤ letters_of s → j * letters_of s + b < i * letters_of s + a
      → (parent words j ++ b ∷ []) ≺ (parent words i ++ a ∷ [])
  place_before j b i a hj hi hb ha less = elim (equal_or_below j i (row_within (letters_of s) j i a b ha less)) [
    | inl e ↦
        let rows : j * letters_of s ≡ i * letters_of s = ap (λ n. n * letters_of s) e in
        let letters : b < a = omega arith in
        subst (λ n. (parent words n ++ b ∷ []) ≺ (parent words i ++ a ∷ [])) (sym e) (before_append_left (parent words i) (b ∷ []) (a ∷ []) (letter_before b a letters))
    | inr l ↦ ahead (parent words j) (parent words i) b a (parents_between j i l hi)
  ]

  pub place_from_before : (j b i a : ℕ) → j ≤ length words → i ≤ length words → b < letters_of s → (parent words j ++ b ∷ []) ≺ (parent words i ++ a ∷ [])
      → j * letters_of s + b < i * letters_of s + a
  place_from_before j b i a hj hi hb less = elim (snoc_before (parent words j) (parent words i) b a less) [
    | inr e ↦ let rows : j * letters_of s ≡ i * letters_of s = ap (λ n. n * letters_of s) (parent_same j i hj hi e.0) in omega (arith, e.1)
    | inl l ↦ elim (below_or_not j i) [
      | inl before ↦ omega (arith, row_below (letters_of s) j i b before hb)
      | inr behind ↦ elim (equal_or_below i j behind) [
        | inl e ↦ absurd (before_irrefl (parent words i) (subst (λ n. parent words n ≺ parent words i) (sym e) l))
        | inr after ↦ absurd (asymmetric l (parents_between i j after hj))
      ]
    ]
  ]
    where
      asymmetric : parent words j ≺ parent words i → parent words i ≺ parent words j → ⊥
      asymmetric p q = before_irrefl (parent words j) (before_trans (parent words j) (parent words i) (parent words j) p q)

-- each word is before the next product
pub words_before : {V : Type 0} {shape : V → ℕ × ℕ} {s : Generated V} (setting : IsSetting shape s) {lists : FoundLists V} {i a : ℕ} → IsGrown s lists i a
    → i ≤ length (words_in lists) → a ≤ letters_of s → (j : ℕ) → j < length (words_in lists) → get_or (words_in lists) j [] ≺ (parent (words_in lists) i ++ a ∷ [])
words_before {s = s} setting {lists} {i} {a} g h l j less =
    let inside : j < length lists.factors = omega (arith, words_length lists.factors) in
    let f : Factor = factor_at lists.factors j in
    subst (λ w. w ≺ (parent (words_in lists) i ++ a ∷ [])) (sym (factor_word (letters_of s) lists.factors g.known j inside))
    (place_before setting g.found f.prefix f.last i a (omega (arith, g.known.earlier j inside)) h (g.known.letter j inside) l (omega (arith, g.placed.before j inside, g.found.count)))
