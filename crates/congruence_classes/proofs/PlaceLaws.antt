-- Places among ascending words.
use Rattle.std.proofs.Common.{◌≡◌, ℕ, ◌+◌, ◌-◌, ◌/◌, ◌<◌, ◌≤◌, ◌⊎◌, inl, inr, Bool, true, false, [], ◌∷◌, length, take, get_or, slice_get, Some, eqb, sym, ap, subst, ◌∙◌, arith}
use Rattle.std.specs.Cmp.Lexicographic.{pointwise}
use Rattle.std.proofs.lemmas.Bool.Decides.{Decides-eqb}
use Rattle.std.proofs.lemmas.List.{take_all, take_more}
use Rattle.std.proofs.lemmas.Option.{slice_get_within, get_or_from_slice_get}
use Rattle.std.proofs.lemmas.Slice.Eq.{slice_eq-Decides}
use Rattle.std.specs.Ordering.{is_lt}
use Rattle.std.specs.declared.cmp.Ordering.{Ordering}
use Rattle.std.specs.declared.cmp.Ordering.TheVariants.{Less, Equal, Greater}
use Rattle.theory.specs.Word.{Word, IsOver}
use Rattle.theory.specs.ShortLex.{shortlex, ◌≺◌}
use Rattle.theory.proofs.Words.{before_irrefl, before_trans, over_append}
use Rattle.congruence_classes.specs.ClassLists.{ClassList, AreAscending, IsListing, IsPlaceAfter}

module _ (list : ClassList) (ascending : AreAscending list.count list.word) (cursor : Word) (m : ℕ) (within : m < list.count) where
  -- what follows a word after the cursor is after the cursor
  pub all_after : cursor ≺ list.word m → (i : ℕ) → m ≤ i → i < list.count → cursor ≺ list.word i
  all_after less i from inside =
      elim (same_or_more m i from) [
        | inl e ↦ subst (λ j. cursor ≺ list.word j) e (less)
        | inr more ↦ before_trans cursor (list.word m) (list.word i) (less) (ascending m i more inside)
      ]
    where
      same_or_more : (m i : ℕ) → m ≤ i → (m ≡ i) ⊎ (m < i)
      same_or_more m i h = grind arith

  -- what comes before a word not after the cursor is not after the cursor
  pub none_after : (cursor ≺ list.word m → ⊥) → (i : ℕ) → i < m + 1 → cursor ≺ list.word i → ⊥
  none_after not i below less =
      elim (same_or_less m i below) [
        | inl e ↦ not (subst (λ w. cursor ≺ w) (ap list.word e) less)
        | inr more ↦ not ((before_trans cursor (list.word i) (list.word m) less (ascending i m more within)))
      ]
    where
      same_or_less : (m i : ℕ) → i < m + 1 → (i ≡ m) ⊎ (i < m)
      same_or_less m i h = grind arith

abbrev pub middle : ℕ → ℕ → ℕ
middle low high = low + (high - low) / 2

-- the words below `low` do not come after the cursor, and those from `high` on do
pub record Halved (list : ClassList) (first : ℕ) (cursor : Word) (low high : ℕ) : Type 0 where
  pub first_low : first ≤ low
  pub ordered : low ≤ high
  pub within : high ≤ list.count
  pub before : (i : ℕ) → first ≤ i → i < low → cursor ≺ list.word i → ⊥
  pub after : (i : ℕ) → high ≤ i → i < list.count → cursor ≺ list.word i

module _ (list : ClassList) (ascending : AreAscending list.count list.word) (first : ℕ) (cursor : Word) (low high : ℕ) (some : low < high)
    (at : Halved list first cursor low high) where
  pub upper_half : cursor ≺ list.word (middle low high) → Halved list first cursor low (middle low high)
  upper_half less = record {
    first_low = at.first_low;
    ordered = omega arith;
    within = omega (arith, some, at.within);
    before = at.before;
    after = all_after list ascending cursor (middle low high) (omega (arith, some, at.within)) less;
  }

  pub lower_half : (cursor ≺ list.word (middle low high) → ⊥) → Halved list first cursor (middle low high + 1) high
  lower_half not = record {
    first_low = omega (arith, at.first_low);
    ordered = omega (arith, some);
    within = at.within;
    before = λ i h. none_after list ascending cursor (middle low high) (omega (arith, some, at.within)) not i;
    after = at.after;
  }

-- what a comparison says of the order
pub comes_before : (u v w : Word) (o : Ordering) (less : Bool) → o ≡ shortlex u v → less ≡ is_lt o → less ≡ true → v ≡ w → u ≺ w
comes_before u v w Less less same e h at = subst (λ x. u ≺ x) at (sym same)
comes_before u v w Equal less same e h at = cc
comes_before u v w Greater less same e h at = cc

pub comes_not_before : (u v w : Word) (o : Ordering) (less : Bool) → o ≡ shortlex u v → less ≡ is_lt o → less ≡ false → v ≡ w → u ≺ w → ⊥
comes_not_before u v w Less less same e h at b = cc
comes_not_before u v w Equal less same e h at b = cc
comes_not_before u v w Greater less same e h at b = cc

pub place_within : (list : ClassList) → IsListing list → (u : Word) (place letters : ℕ) → place ≡ list.place u → letters ≡ list.letters → IsOver letters u
    → place < list.count
place_within list is u place letters at same over =
    subst (λ n. n < list.count) (sym at) (is.listed u (subst (λ n. IsOver n u) same over))

-- behind the place of a word come the words after it
pub behind_word : (list : ClassList) → IsListing list → (first place : ℕ) (cursor : Word) → first ≤ 1 → place < list.count → list.word place ≡ cursor
    → IsPlaceAfter first list (Some cursor) (place + 1)
behind_word list is first place cursor small within same = record {
  within = (omega (arith, small), omega (arith, within));
  before = λ i from below less. elim (same_or_less place i below) [
    | inl e ↦ before_irrefl cursor (subst (λ w. cursor ≺ w) (ap list.word e ∙ same) less)
    | inr more ↦ before_irrefl cursor (before_trans cursor (list.word i) cursor less (subst (λ w. list.word i ≺ w) same (is.ascending i place more within)))
  ];
  after = λ i from inside. subst (λ w. w ≺ list.word i) same (is.ascending place i (omega (arith, from)) inside);
}
  where
    same_or_less : (m i : ℕ) → i < m + 1 → (i ≡ m) ⊎ (i < m)
    same_or_less m i h = grind arith

-- words whose letters are found equal are equal
pub same_word : (u v p q : Word) (r : Bool) → p ≡ u → q ≡ v → r ≡ pointwise eqb p q → r ≡ true → u ≡ v
same_word u v p q r at_u at_v e h = sym at_u ∙ (slice_eq-Decides Decides-eqb p q r e).0 h ∙ at_v

-- one letter more is over the letters
pub more_over : (k : ℕ) (u : Word) (i a : ℕ) → slice_get u i ≡ Some a → a < k → IsOver k (take i u) → IsOver k (take (i + 1) u)
more_over k u i a at small over =
    let letter : get_or u i 0 ≡ a = get_or_from_slice_get u i a 0 at in
    subst (IsOver k) (sym (take_more u i 0 (slice_get_within u i a at)))
    (over_append k (take i u) (get_or u i 0 ∷ []) over (subst (λ b. b < k) (sym letter) small, tt))

pub all_over : (k : ℕ) (u : Word) (n : ℕ) → length u ≤ n → IsOver k (take n u) → IsOver k u
all_over k u n most over = subst (IsOver k) (take_all n u most) over
