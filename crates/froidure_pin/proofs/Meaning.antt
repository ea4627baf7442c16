-- What the numbers of products mean.
use Rattle.std.proofs.Common.{◌≡◌, ℕ, ◌+◌, ◌*◌, ◌<◌, ◌≤◌, ◌/◌, ◌%◌, false, List, [], ◌∷◌, ◌++◌, length, get_or, fold, None, refl, sym, ap, subst, subst₂, ◌∙◌, arith, inl, inr, append_assoc, append-nil, add-one, div-add-mod', mod-lt}
use Rattle.theory.specs.Word.{Word, IsOver, IsElement}
use Rattle.theory.specs.Class.{IsLeast}
use Rattle.froidure_pin.specs.Found.{AreFactors, AreFound, FoundLists, Generated, IsNumbered, IsSame, entry, letters_of, parent, words_in}
use Rattle.froidure_pin.specs.Growing.{AreLeftNumbers}
use Rattle.froidure_pin.specs.Numbering.{TableOf, IsNumbering, AreParts, AreRows, right_number, left_number, letter_number, number_of}
use Rattle.froidure_pin.specs.Kept.{table_of}
use Rattle.froidure_pin.proofs.Order.{below_or_not, equal_or_below}
use Rattle.froidure_pin.proofs.Places.{row_below}
use Rattle.froidure_pin.proofs.Factors.{words_length}
use Rattle.froidure_pin.proofs.Starts.{start_ascending, ascending_between}
use Rattle.froidure_pin.proofs.Search.{IsSetting, found_count, found_least, r_sym, r_trans, r_right}

module _ {V : Type 0} {shape : V → ℕ × ℕ} {s : Generated V} (setting : IsSetting shape s) {lists : FoundLists V} {i : ℕ} (f : AreFound s lists i 0) (end : length lists.elements < i) (reached : i ≤ length lists.elements + 1) where
  abbrev k : ℕ
  k = letters_of s

  abbrev words : List Word
  words = words_in lists

  many : length lists.factors ≡ length lists.elements
  many = omega (arith, words_length lists.factors, found_count setting f)

  row_count : i ≡ length lists.factors + 1
  row_count = omega (arith, many, end, reached)

  -- every row is full
  full_rows : length lists.right ≡ (length lists.factors + 1) * k
  full_rows = let rows : i * k ≡ (length lists.factors + 1) * k = ap (λ n. n * k) row_count in omega (arith, f.count, rows)

  -- numbers that are those of words
  rows_of : (numbers : List ℕ) → 0 < k → length numbers ≡ (length lists.factors + 1) * k
      → ((j b : ℕ) → b < k → j * k + b < length numbers → entry k numbers j b < length words) → AreRows k (length lists.factors) numbers
  rows_of numbers some full within = record {
    count = full;
    within = λ p h.
        let place : p / k * k + p % k ≡ p = div-add-mod' p k in
        let number = within (p / k) (p % k) (mod-lt p some) (omega arith) in
        subst (λ q. get_or numbers q 0 < length lists.factors) place (omega (arith, number, words_length lists.factors));
  }

  module _ (lefts : AreLeftNumbers s words lists.left) (rows : length lists.left ≡ i * k) where
    left_full : length lists.left ≡ (length lists.factors + 1) * k
    left_full = rows ∙ ap (λ n. n * k) row_count

    abbrev table : ℕ → TableOf V
    table = table_of lists

    right_at : (j b : ℕ) → j ≤ length words → b < k → IsNumbered s words (entry k lists.right j b) (parent words j ++ b ∷ [])
    right_at j b h l = f.numbers j b l (let row = row_below k j (length lists.factors + 1) b (omega (arith, words_length lists.factors)) l in omega (arith, full_rows))

    -- the number of a word with one letter more
    right_step : (m : ℕ) (w : Word) (b : ℕ) → IsNumbered s words m w → b < k → IsNumbered s words (right_number (table k) m b) (w ++ b ∷ [])
    right_step m w b h l =
        let next = right_at (m + 1) b (omega (arith, h.0)) l in
        let at_next : parent words (m + 1) ≡ get_or words m [] = rw add-one refl in
        let word : Word = get_or words (right_number (table k) m b) [] in
        let related = subst (λ u. IsSame s (u ++ b ∷ []) word) at_next next.1 in
        (next.0, r_trans setting (w ++ b ∷ []) (get_or words m [] ++ b ∷ []) word (r_right setting w (get_or words m []) b h.1 l) related)

    single : (a : ℕ) → a < k → IsNumbered s words (letter_number (table k) a) (a ∷ [])
    single a h = let place : 0 * k + a ≡ a = omega arith in subst (λ p. IsNumbered s words (get_or lists.right p 0) (a ∷ [])) place (right_at 0 a (omega arith) h)

    walk : (u : Word) (m : ℕ) (w : Word) → IsNumbered s words m w → IsOver k u → IsNumbered s words (fold (right_number (table k)) m u) (w ++ u)
    walk [] m w h over = subst (λ v. IsNumbered s words m v) (sym (append-nil w)) h
    walk (b ∷ u) m w h over = subst (λ v. IsNumbered s words (fold (right_number (table k)) (right_number (table k) m b) u) v) (append_assoc w (b ∷ []) u) (walk u (right_number (table k) m b) (w ++ b ∷ []) (right_step m w b h over.0) over.1)

    every : (u : Word) → IsElement false k u → IsNumbered s words (number_of (table k) u) u
    every [] h = absurd (h.0 refl)
    every (a ∷ u) h = walk u (letter_number (table k) a) (a ∷ []) (single a h.1.0) h.1.1

    left_at : (j a : ℕ) → j ≤ length words → a < k → IsNumbered s words (entry k lists.left j a) (a ∷ parent words j)
    left_at j a h l = lefts.numbers j a l (let row = row_below k j (length lists.factors + 1) a (omega (arith, words_length lists.factors)) l in omega (arith, left_full))

    later_apart : (j l : ℕ) → j < l → l < length words → IsSame s (get_or words j []) (get_or words l []) → ⊥
    later_apart j l less h r = (found_least setting f l h).none_less (get_or words j []) (r_sym setting (get_or words j []) (get_or words l []) r) (ascending_between None words (start_ascending (IsLeast (IsSame s)) None words f.start) j l less h)

    numbering : IsNumbering s.product s.equal s.generators s.unused (table k)
    numbering = record {
      letters = refl;
      numbered = record {
        elements = λ j h. (found_least setting f j h).element.left;
        all = λ u h. (number_of (table k) u, every u h);
        distinct = λ j l hj hl r. elim (below_or_not j l) [
          | inl less ↦ absurd (later_apart j l less hl r)
          | inr le ↦ elim (equal_or_below l j le) [ inl e ↦ sym e | inr less ↦ absurd (later_apart l j less hj (r_sym setting (get_or words j []) (get_or words l []) r)) ]
        ];
        on_right = λ j a h l. let at_next : parent words (j + 1) ≡ get_or words j [] = rw add-one refl in subst (λ u. IsNumbered s words (right_number (table k) j a) (u ++ a ∷ [])) at_next (right_at (j + 1) a (omega arith) l);
        on_left = λ j a h l. let at_next : parent words (j + 1) ≡ get_or words j [] = rw add-one refl in subst (λ u. IsNumbered s words (left_number (table k) j a) (a ∷ u)) at_next (left_at (j + 1) a (omega arith) l);
      };
      single = single;
      every = every;
    }

    -- the table at the end
    pub numbering_as : {letters : ℕ} → letters ≡ k → IsNumbering s.product s.equal s.generators s.unused (table letters)
    numbering_as same = subst (λ n. IsNumbering s.product s.equal s.generators s.unused (table n)) (sym same) numbering

    -- and what its parts have in common
    pub parts : {letters : ℕ} → letters ≡ k → k ≤ 256 → 0 < k → AreFactors k lists.factors → AreParts letters (length lists.elements) lists.factors lists.right lists.left
    parts same few some earlier = record {
      some = omega arith;
      few = omega arith;
      count = many;
      known = subst (λ n. AreFactors n lists.factors) (sym same) earlier;
      on_right = subst₂ (λ n m. AreRows n m lists.right) (sym same) many (rows_of lists.right some full_rows (λ j b h l. (f.numbers j b h l).0));
      on_left = subst₂ (λ n m. AreRows n m lists.left) (sym same) many (rows_of lists.left some left_full (λ j b h l. (lefts.numbers j b h l).0));
    }
