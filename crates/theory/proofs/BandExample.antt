-- A pair on a band of four elements, by merging numbers: of each kind.
use Rattle.std.proofs.Common.{◌≡◌, ℕ, zero, suc, ◌<◌, ◌/◌, false, nat_eq, List, [], ◌∷◌, ◌++◌, refl, sym, ◌∙◌, ap, subst, subst₂, arith, inl, inr, ◌↔◌, IsTrue, Contains}
use Rattle.std.proofs.lemmas.List.Elements.{All-cons, All-nil}
use Rattle.theory.specs.Word.{Word, IsElement}
use Rattle.theory.specs.Congruence.{AreElements}
use Rattle.theory.specs.Value.{IsProduct, SameElement}
use Rattle.theory.specs.Semigroup.{Semigroup, AreNumbered, IsNumberBelow, Numbering, IsNumberOf}
use Rattle.theory.specs.Generated.{given, on_left, IsPairOf, GeneratedNumber, Linked, itself, merge, back, on, AreMerges}
use Rattle.theory.specs.Examples.{a1, b1, ab, ba, band, band_generator, band_value, band_pair}
use Rattle.theory.specs.declared.Kind.{Kind}
use Rattle.theory.specs.declared.Kind.TheVariants.{TwoSided, Right, Left}
use Rattle.theory.proofs.Counting.{IsIn, in_from_contains, contains_from_in}
use Rattle.theory.proofs.ReversedExample.{below_four}
use Rattle.theory.proofs.ValueLaws.{value_append, value_shape}
use Rattle.theory.proofs.GeneratedLaws.{element_context, same_element_by_merges}

equal_from : (a b : ℕ) → IsTrue (nat_eq a b) → a ≡ b
equal_from a b h = grind (arith, h)

equal_to : (a b : ℕ) → a ≡ b → IsTrue (nat_eq a b)
equal_to a b h = grind (arith, h)

-- numbers below four have one shape
abbrev band_shape : ℕ → ℕ × ℕ
band_shape x = (x / 4, 0)

below_from : (x : ℕ) → band_shape x ≡ (0, 0) → x < 4
below_from x h = let none : x / 4 ≡ 0 = ap (λ (p : ℕ × ℕ). p.0) h in omega (arith, none)

below_to : (x : ℕ) → x < 4 → band_shape x ≡ (0, 0)
below_to x h = let none : x / 4 ≡ 0 = omega (arith, h) in ap (λ (n : ℕ). (n, 0)) none

band_laws : IsProduct (λ x. band_shape x ≡ (0, 0)) band nat_eq
band_laws = record {
  shape = λ x y hx hy. let one = below_from x hx in let two = below_from y hy in below_to (band x y) (omega (arith, one, two));
  associative = λ x y z hx hy hz. equal_to (band (band x y) z) (band x (band y z)) (omega arith);
  kept = λ x y z w hx hy hz hw e d. let p = equal_from x y e in let q = equal_from z w d in equal_to (band x z) (band y w) (cc);
  reflexive = λ x. equal_to x x refl;
  symmetric = λ x y e. equal_to y x (sym (equal_from x y e));
  transitive = λ x y z e d. equal_to x z (equal_from x y e ∙ equal_from y z d);
}

shaped : (a : ℕ) → a < 2 → band_shape (band_generator a) ≡ (0, 0)
shaped zero h = below_to 0 (omega arith)
shaped (suc a) h = below_to 3 (omega arith)

abbrev band_semigroup : Semigroup band_shape band nat_eq
band_semigroup = record { letters = 2; generator = band_generator; unused = 0; one = (0, 0); shaped = shaped }

-- each value by a word
abbrev word : ℕ → Word
word zero = a1
word (suc zero) = ab
word (suc (suc zero)) = ba
word (suc (suc (suc n))) = b1

word_element : (i : ℕ) → IsElement false 2 (word i)
word_element zero = (λ e. cc, (omega arith, tt))
word_element (suc zero) = (λ e. cc, (omega arith, (omega arith, tt)))
word_element (suc (suc zero)) = (λ e. cc, (omega arith, (omega arith, tt)))
word_element (suc (suc (suc n))) = (λ e. cc, (omega arith, tt))

word_value : (i : ℕ) → i < 4 → band_value (word i) ≡ i
word_value = below_four (λ i. band_value (word i) ≡ i) refl refl refl refl

value_below : (u : Word) → IsElement false 2 u → band_value u < 4
value_below u h = below_from (band_value u) (value_shape band_semigroup band_laws u h)

abbrev right : ℕ → ℕ → ℕ
right i a = band i (band_generator a)

abbrev left : ℕ → ℕ → ℕ
left i a = band (band_generator a) i

-- a value is its own number
numbers : (u : Word) → IsElement false 2 u → IsNumberBelow 2 nat_eq band_value 4 word (band_value u) u
numbers u h = (
  value_below u h,
  record {
    left = h;
    right = word_element (band_value u);
    related = equal_to (band_value u) (band_value (word (band_value u))) (sym (word_value (band_value u) (value_below u h)));
  },
)

letter : (a : ℕ) → a < 2 → IsElement false 2 (a ∷ [])
letter a l = (λ e. cc, (l, tt))

letter_value : (a : ℕ) → band_value (a ∷ []) ≡ band_generator a
letter_value a = refl

at_number : (i : ℕ) (u : Word) → IsElement false 2 u → band_value u ≡ i → IsNumberBelow 2 nat_eq band_value 4 word i u
at_number i u h e = subst (λ n. IsNumberBelow 2 nat_eq band_value 4 word n u) e (numbers u h)

numbered : AreNumbered 2 nat_eq band_value 4 word right left
numbered = record {
  elements = λ i l. word_element i;
  all = λ u h. (band_value u, numbers u h);
  distinct = λ i j li lj s. sym (word_value i li) ∙ equal_from (band_value (word i)) (band_value (word j)) s.related ∙ word_value j lj;
  on_right = λ i a l m.
      at_number (right i a) (word i ++ a ∷ []) (element_context 2 [] (word i) (a ∷ []) tt (word_element i) (m, tt))
      (equal_from (band_value (word i ++ a ∷ [])) (band (band_value (word i)) (band_generator a))
      (value_append band_semigroup band_laws (word i) (a ∷ []) (word_element i) (letter a m))
      ∙ ap (λ n. band n (band_generator a)) (word_value i l));
  on_left = λ i a l m.
      at_number (left i a) (a ∷ word i) (λ e. cc, (m, (word_element i).1))
      (equal_from (band_value (a ∷ word i)) (band (band_generator a) (band_value (word i)))
      (value_append band_semigroup band_laws (a ∷ []) (word i) (letter a m) (word_element i))
      ∙ ap (λ n. band (band_generator a) n) (word_value i l));
}

abbrev numbering : Numbering band_semigroup
numbering = record { count = 4; word = word; right = right; left = left; numbered = numbered }

pair_elements : AreElements false 2 band_pair
pair_elements =
    All-cons (λ (q : Word × Word). IsElement false 2 q.0 × IsElement false 2 q.1) (a1, ab) [] (word_element 0, word_element 1)
    (All-nil (λ (q : Word × Word). IsElement false 2 q.0 × IsElement false 2 q.1))

-- the pair's numbers are 0 and 1
pair_numbers : (i j : ℕ) → IsPairOf band_pair (IsNumberOf numbering) i j → (i ≡ 0) × (j ≡ 1)
pair_numbers i j h = go (in_from_contains (h.first, h.second) band_pair h.listed)
  where
    value_is : (n : ℕ) (u : Word) → IsNumberOf numbering n u → n ≡ band_value u
    value_is n u p = sym (word_value n p.0) ∙ sym (equal_from (band_value u) (band_value (word n)) p.1.related)

    go : IsIn (h.first, h.second) band_pair → (i ≡ 0) × (j ≡ 1)
    go (inl e) = (
      value_is i h.first h.left ∙ ap (λ (q : Word × Word). band_value q.0) e,
      value_is j h.second h.right ∙ ap (λ (q : Word × Word). band_value q.1) e,
    )
    go (inr n) = absurd n

abbrev Pairs : Kind → ℕ → ℕ → Type 0
Pairs kind = GeneratedNumber numbering kind band_pair

zero_one : (kind : Kind) → Pairs kind 0 1
zero_one kind =
    given
    (inr
    (record { first = a1; second = ab; listed = contains_from_in (a1, ab) band_pair (inl refl); left = numbers a1 (word_element 0); right = numbers ab (word_element 1) }))

-- merges for right pairs
abbrev right_merges : List (ℕ × ℕ)
right_merges = (0, 1) ∷ []

-- and for the others
abbrev left_merges : List (ℕ × ℕ)
left_merges = (0, 1) ∷ (2, 3) ∷ []

linked_pair : (merges : List (ℕ × ℕ)) → Contains merges (0, 1) → (i j : ℕ) → IsPairOf band_pair (IsNumberOf numbering) i j
    → Linked 4 merges i j
linked_pair merges m i j h = let e = pair_numbers i j h in subst₂ (λ x y. Linked 4 merges x y) (sym e.0) (sym e.1) (merge m)

-- a property of each letter
each_letter : (P : ℕ → Type 0) → P 0 → P 1 → (a : ℕ) → a < 2 → P a
each_letter P x y zero h = x
each_letter P x y (suc zero) h = y
each_letter P x y (suc (suc a)) h = absurd (omega arith)

-- a property of each of the merges
each_merge : (P : ℕ → ℕ → Type 0) → P 0 1 → P 2 3 → (i j : ℕ) → Contains left_merges (i, j) → P i j
each_merge P x y i j m = go (in_from_contains (i, j) left_merges m)
  where
    at : (p q : ℕ) → P p q → ◌≡◌ {A = ℕ × ℕ} (i, j) (p, q) → P i j
    at p q h e = subst₂ (λ a b. P a b) (sym (ap (λ (x : ℕ × ℕ). x.0) e)) (sym (ap (λ (x : ℕ × ℕ). x.1) e)) h

    go : IsIn (i, j) left_merges → P i j
    go (inl e) = at 0 1 x e
    go (inr (inl e)) = at 2 3 y e
    go (inr (inr n)) = absurd n

only_merge : (P : ℕ → ℕ → Type 0) → P 0 1 → (i j : ℕ) → Contains right_merges (i, j) → P i j
only_merge P x i j m = go (in_from_contains (i, j) right_merges m)
  where
    go : IsIn (i, j) right_merges → P i j
    go (inl e) = subst₂ (λ a b. P a b) (sym (ap (λ (x : ℕ × ℕ). x.0) e)) (sym (ap (λ (x : ℕ × ℕ). x.1) e)) x
    go (inr n) = absurd n

self : (merges : List (ℕ × ℕ)) (i : ℕ) → i < 4 → Linked 4 merges i i
self merges i h = itself h

first : Linked 4 left_merges 0 1
first = merge (contains_from_in (0, 1) left_merges (inl refl))

second : Linked 4 left_merges 2 3
second = merge (contains_from_in (2, 3) left_merges (inr (inl refl)))

by_right : AreMerges numbering Right band_pair right_merges
by_right = record {
  sound = only_merge (Pairs Right) (zero_one Right);
  given = linked_pair right_merges (contains_from_in (0, 1) right_merges (inl refl));
  on_right = λ i j a kept l m.
      only_merge (λ i j. Linked 4 right_merges (right i a) (right j a))
      (each_letter (λ a. Linked 4 right_merges (right 0 a) (right 1 a)) (self right_merges 0 (omega arith)) (self right_merges 1 (omega arith)) a l)
      i j m;
  on_left = λ i j a kept l m. absurd kept;
}

left_images : (i j a : ℕ) → a < 2 → Contains left_merges (i, j) → Linked 4 left_merges (left i a) (left j a)
left_images i j a l m =
    each_merge (λ i j. Linked 4 left_merges (left i a) (left j a))
    (each_letter (λ a. Linked 4 left_merges (left 0 a) (left 1 a)) first second a l)
    (each_letter (λ a. Linked 4 left_merges (left 2 a) (left 3 a)) first second a l)
    i j m

right_images : (i j a : ℕ) → a < 2 → Contains left_merges (i, j) → Linked 4 left_merges (right i a) (right j a)
right_images i j a l m =
    each_merge (λ i j. Linked 4 left_merges (right i a) (right j a))
    (each_letter (λ a. Linked 4 left_merges (right 0 a) (right 1 a)) (self left_merges 0 (omega arith)) (self left_merges 1 (omega arith)) a l)
    (each_letter (λ a. Linked 4 left_merges (right 2 a) (right 3 a)) (self left_merges 2 (omega arith)) (self left_merges 3 (omega arith)) a l)
    i j m

by_left : AreMerges numbering Left band_pair left_merges
by_left = record {
  sound = each_merge (Pairs Left) (zero_one Left) (on_left 0 1 1 tt (omega arith) (zero_one Left));
  given = linked_pair left_merges (contains_from_in (0, 1) left_merges (inl refl));
  on_right = λ i j a kept l m. absurd kept;
  on_left = λ i j a kept l m. left_images i j a l m;
}

by_both : AreMerges numbering TwoSided band_pair left_merges
by_both = record {
  sound = each_merge (Pairs TwoSided) (zero_one TwoSided) (on_left 0 1 1 tt (omega arith) (zero_one TwoSided));
  given = linked_pair left_merges (contains_from_in (0, 1) left_merges (inl refl));
  on_right = λ i j a kept l m. right_images i j a l m;
  on_left = λ i j a kept l m. left_images i j a l m;
}

-- what is linked has one label
linked_label : (label : ℕ → ℕ) (merges : List (ℕ × ℕ)) → ((i j : ℕ) → Contains merges (i, j) → label i ≡ label j) → {i j : ℕ}
    → Linked 4 merges i j → label i ≡ label j
linked_label label merges h (itself {i} l) = refl
linked_label label merges h (merge {i} {j} m) = h i j m
linked_label label merges h (back x) = sym (linked_label label merges h x)
linked_label label merges h (on x y) = linked_label label merges h x ∙ linked_label label merges h y

-- 0 and 1 have one label, 2 and 3 labels of their own, or one
abbrev label_right : ℕ → ℕ
label_right zero = 0
label_right (suc zero) = 0
label_right (suc (suc n)) = suc (suc n)

abbrev label_left : ℕ → ℕ
label_left zero = 0
label_left (suc zero) = 0
label_left (suc (suc n)) = 1

decide : (kind : Kind) (merges : List (ℕ × ℕ)) → AreMerges numbering kind band_pair merges → (u v : Word)
    → IsElement false 2 u → IsElement false 2 v
    → SameElement 2 nat_eq band_value kind band_pair u v ↔ Linked 4 merges (band_value u) (band_value v)
decide kind merges are u v hu hv =
    same_element_by_merges band_semigroup band_laws kind band_pair pair_elements numbering merges are u v (band_value u) (band_value v) (numbers u hu) (numbers v hv)

pub left_related : SameElement 2 nat_eq band_value Left band_pair b1 ba
left_related = (decide Left left_merges by_left b1 ba (word_element 3) (word_element 2)).1 (back second)

pub both_related : SameElement 2 nat_eq band_value TwoSided band_pair b1 ba
both_related = (decide TwoSided left_merges by_both b1 ba (word_element 3) (word_element 2)).1 (back second)

pub right_apart : SameElement 2 nat_eq band_value Right band_pair b1 ba → ⊥
right_apart h =
    let same = linked_label label_right right_merges (only_merge (λ i j. label_right i ≡ label_right j) refl)
    ((decide Right right_merges by_right b1 ba (word_element 3) (word_element 2)).0 h) in
    let bad : 3 ≡ 2 = same in omega (arith, bad)

pub both_apart : SameElement 2 nat_eq band_value TwoSided band_pair a1 b1 → ⊥
both_apart h =
    let same = linked_label label_left left_merges (each_merge (λ i j. label_left i ≡ label_left j) refl refl)
    ((decide TwoSided left_merges by_both a1 b1 (word_element 0) (word_element 3)).0 h) in
    let bad : 0 ≡ 1 = same in omega (arith, bad)
