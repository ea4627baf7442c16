-- The answers that a solution gives.
use Rattle.std.proofs.Common.{◌≡◌, ℕ, zero, suc, ◌+◌, ◌-◌, ◌<◌, ◌≤◌, Bool, List, [], ◌∷◌, length, get_or, refl, sym, ◌∙◌, ap, subst, arith, ◌⊎◌, inl, inr, Option, Some, None}
use Rattle.std.proofs.lemmas.Bool.{cases_lt}
use Rattle.theory.specs.Word.{Word, IsOver, IsElement}
use Rattle.theory.specs.ShortLex.{◌≺◌}
use Rattle.theory.specs.Listing.{IsAfter, IsNext, IsLast, IsListOf, GoesOnOrEnds}
use Rattle.theory.specs.Class.{IsLeast, IsNormal, HasIndex}
use Rattle.theory.proofs.Words.{before_irrefl, before_trans, order_cases}
use Rattle.theory.proofs.ClassLaws.{IsPartialEquivalence}
use Rattle.theory.proofs.Related.{element_over}
use Rattle.theory.proofs.Completeness.{normal_unique}
use Rattle.congruence_classes.specs.ClassLists.{ClassList, first_class, IsSolution, IsPlaceAfter}
use Rattle.congruence_classes.proofs.ClassListLaws.{first_small}

after_later : (cursor : Option Word) (x y : Word) → IsAfter ◌≺◌ cursor x → x ≺ y → IsAfter ◌≺◌ cursor y
after_later None x y h less = tt
after_later (Some u) x y h less = before_trans u x y h less

-- a word comes after the cursor, or it does not
after_or_not : (cursor : Option Word) (w : Word) → IsAfter ◌≺◌ cursor w ⊎ (IsAfter ◌≺◌ cursor w → ⊥)
after_or_not None w = inl tt
after_or_not (Some u) w = elim (order_cases u w) [
  | inl less ↦ inl less
  | inr rest ↦ elim rest [
    | inl same ↦ inr (λ a. before_irrefl w (subst (λ z. z ≺ w) same a))
    | inr more ↦ inr (λ a. before_irrefl u (before_trans u w u a more))
  ]
]

-- ascending words that are all that have the property are the list
list_by_places : (P : Word → Type 0) (cursor : Option Word) (words : List Word)
    → ((i : ℕ) → i < length words → P (get_or words i [])) → ((i : ℕ) → i < length words → IsAfter ◌≺◌ cursor (get_or words i []))
    → ((i j : ℕ) → i < j → j < length words → get_or words i [] ≺ get_or words j [])
    → ((y : Word) → P y → IsAfter ◌≺◌ cursor y → (i : ℕ) × (i < length words) × (get_or words i [] ≡ y)) → IsListOf P ◌≺◌ cursor words
list_by_places P cursor [] has after up all = λ y p a. let f = all y p a in omega (arith, f.1)
list_by_places P cursor (x ∷ xs) has after up all = (
  record {
    has = has 0 (omega arith);
    after = after 0 (omega arith);
    least = λ y p a less. let f = all y p a in first y f.0 f.1 f.2 less;
  },
  list_by_places P (Some x) xs (λ i h. has (suc i) (omega arith)) (λ i h. up 0 (suc i) (omega arith) (omega arith))
      (λ i j less h. up (suc i) (suc j) (omega arith) (omega arith))
      (λ y p a. let f = all y p (after_later cursor x y (after 0 (omega arith)) a) in rest y a f.0 f.1 f.2),
)
  where
    first : (y : Word) (i : ℕ) → i < length (x ∷ xs) → get_or (x ∷ xs) i [] ≡ y → y ≺ x → ⊥
    first y zero h e less = before_irrefl y (subst (λ z. y ≺ z) e less)
    first y (suc i) h e less = before_irrefl y (before_trans y x y less (subst (λ z. x ≺ z) e (up 0 (suc i) (omega arith) h)))

    rest : (y : Word) → x ≺ y → (i : ℕ) → i < length (x ∷ xs) → get_or (x ∷ xs) i [] ≡ y → (i : ℕ) × (i < length xs) × (get_or xs i [] ≡ y)
    rest y a zero h e = absurd (before_irrefl y (subst (λ z. z ≺ y) e a))
    rest y a (suc i) h e = (i, omega arith, e)

module _ (R : Word → Word → Type 0) (empty : Bool) (k : ℕ) (list : ClassList) (is : IsSolution R empty k list) where
  -- the relation is an equivalence on the elements
  pub known : IsPartialEquivalence R
  known = record {
    symmetric = λ u v h.
        let on = is.among u v h in
        (is.decides v u on.1 on.0).1 (sym ((is.decides u v on.0 on.1).0 h));
    transitive = λ u v w h j.
        let on = is.among u v h in
        let to = is.among v w j in
        (is.decides u w on.0 to.1).1 ((is.decides u v on.0 on.1).0 h ∙ (is.decides v w to.0 to.1).0 j);
  }

  pub over_letters : (u : Word) → IsElement empty k u → IsOver list.letters u
  over_letters u element = subst (λ n. IsOver n u) (sym is.letters) (element_over empty k u element)

  -- an element has a place
  pub within : (u : Word) → IsElement empty k u → list.place u < list.count
  within u element = is.listing.listed u (over_letters u element)

  -- the word of the place of an element
  pub normal_word : (u : Word) → IsElement empty k u → IsNormal R u (list.word (list.place u))
  normal_word u element =
      let at = is.reached u element in
      record { related = at.1; least = is.classes (list.place u) at.0 (within u element) }

  -- each least word has a place
  pub least_place : (y : Word) → IsLeast R y → (i : ℕ) × (first_class empty ≤ i) × (i < list.count) × (list.word i ≡ y)
  least_place y h =
      let element = (is.among y y h.element).0 in (
        list.place y,
        (is.reached y element).0,
        within y element,
        normal_unique R known.symmetric known.transitive y (list.word (list.place y)) y (normal_word y element) (record { related = h.element; least = h }),
      )

  -- the root has a place
  pub some : 0 < list.count
  some = let root = is.listing.listed [] tt in omega (arith, root)

  pub first_within : first_class empty ≤ list.count
  first_within = first_small empty list.count some

  -- the word at the place after a cursor is the next
  pub next_at : (cursor : Option Word) (place : ℕ) → IsPlaceAfter (first_class empty) list cursor place → place < list.count
      → IsNext (IsLeast R) ◌≺◌ cursor (list.word place)
  next_at cursor place at h = record {
    has = is.classes place at.within.0 h;
    after = at.after place (omega arith) h;
    least = λ y p a less. let f = least_place y p in earlier y a less f.0 f.1 f.2 f.3 (cases_lt f.0 place);
  }
    where
      earlier : (y : Word) → IsAfter ◌≺◌ cursor y → y ≺ list.word place → (i : ℕ) → first_class empty ≤ i → i < list.count
          → list.word i ≡ y → (i < place) ⊎ (place ≤ i) → ⊥
      earlier y a less i from within e (inl before) = at.before i from before (subst (λ w. IsAfter ◌≺◌ cursor w) (sym e) a)
      earlier y a less i from within e (inr behind) = elim (cases_lt place i) [
        | inl more ↦ before_irrefl y (before_trans y (list.word place) y less (subst (λ w. list.word place ≺ w) e (is.listing.ascending place i more within)))
        | inr none ↦
            let one : i ≡ place = omega (arith, behind, none) in
            before_irrefl y (subst (λ w. y ≺ w) (ap list.word (sym one) ∙ e) less)
      ]

  -- and where there is none nothing comes after the cursor
  pub last_at : (cursor : Option Word) (place : ℕ) → IsPlaceAfter (first_class empty) list cursor place → list.count ≤ place
      → IsLast (IsLeast R) ◌≺◌ cursor
  last_at cursor place at h y p a =
      let f = least_place y p in
      at.before f.0 f.1 (omega (arith, f.2, h)) (subst (λ w. IsAfter ◌≺◌ cursor w) (sym f.3) a)

  -- the first place from here on whose word comes after the cursor
  place_from : (cursor : Option Word) (left place : ℕ) → place + left ≡ list.count → first_class empty ≤ place
      → ((i : ℕ) → first_class empty ≤ i → i < place → IsAfter ◌≺◌ cursor (list.word i) → ⊥)
      → (found : ℕ) × IsPlaceAfter (first_class empty) list cursor found
  place_from cursor zero place e from before = (
    place,
    record {
      within = (from, omega arith);
      before = before;
      after = λ i h l. absurd (omega arith);
    },
  )
  place_from cursor (suc left) place e from before = elim (after_or_not cursor (list.word place)) [
    | inl here ↦ (
      place,
      record {
        within = (from, omega arith);
        before = before;
        after = λ i h l. elim (cases_lt place i) [
          | inl more ↦ after_later cursor (list.word place) (list.word i) here (is.listing.ascending place i more l)
          | inr none ↦ let one : place ≡ i = omega (arith, h, none) in subst (λ j. IsAfter ◌≺◌ cursor (list.word j)) one here
        ];
      },
    )
    | inr not ↦ place_from cursor left (suc place) (omega arith) (omega arith) (λ i h l a. elim (cases_lt i place) [
      | inl less ↦ before i h less a
      | inr none ↦ let one : i ≡ place = omega (arith, l, none) in not (subst (λ j. IsAfter ◌≺◌ cursor (list.word j)) one a)
    ])
  ]

  -- after each cursor comes a next class, or none
  pub goes_on : GoesOnOrEnds (IsLeast R) ◌≺◌
  goes_on cursor =
      let at = place_from cursor (list.count - first_class empty) (first_class empty)
      (omega (arith, first_within)) (omega arith) (λ i h l a. omega (arith, h, l)) in
      elim (cases_lt at.0 (list.count)) [
        | inl more ↦ inr (list.word at.0, next_at cursor at.0 at.1 more)
        | inr none ↦ inl (last_at cursor at.0 at.1 none)
      ]

  -- so many words from a place on
  abbrev words_from : (n place : ℕ) → List Word
  words_from zero place = []
  words_from (suc n) place = list.word place ∷ words_from n (suc place)

  length_words : (n place : ℕ) → length (words_from n place) ≡ n
  length_words zero place = refl
  length_words (suc n) place = ap suc (length_words n (suc place))

  word_is : (n place i : ℕ) → i < n → get_or (words_from n place) i [] ≡ list.word (place + i)
  word_is zero place i h = absurd (omega arith)
  word_is (suc n) place zero h = ap list.word (let e : place ≡ place + 0 = omega arith in e)
  word_is (suc n) place (suc i) h =
      word_is n (suc place) i (omega arith) ∙ ap list.word (let e : suc place + i ≡ place + suc i = omega arith in e)

  abbrev first : ℕ
  first = first_class empty

  abbrev classes : ℕ
  classes = list.count - first

  abbrev words : List Word
  words = words_from classes first

  -- so many classes
  pub has_index : (n : ℕ) → n ≡ list.count - first_class empty → HasIndex R n
  has_index n e = (
    words,
    list_by_places (IsLeast R) None words
        (λ i h. subst (IsLeast R) (sym (here i h)) (is.classes (first + i) (omega arith) (inside i h)))
        (λ i h. tt)
        (λ i j less h. subst (λ w. get_or words i [] ≺ w) (sym (here j h))
        (subst (λ w. w ≺ list.word (first + j)) (sym (here i (omega (arith, less, h)))) (is.listing.ascending (first + i) (first + j) (omega arith) (inside j h))))
        (λ y p a. let f = least_place y p in at_place y f.0 f.1 f.2 f.3),
    length_words classes first ∙ sym e,
  )
    where
      here : (i : ℕ) → i < length words → get_or words i [] ≡ list.word (first + i)
      here i h = word_is classes first i (omega (arith, h, length_words classes first))

      inside : (i : ℕ) → i < length words → first + i < list.count
      inside i h = omega (arith, h, length_words classes first)

      at_place : (y : Word) (i : ℕ) → first ≤ i → i < list.count → list.word i ≡ y
          → (j : ℕ) × (j < length words) × (get_or words j [] ≡ y)
      at_place y i from within is_y =
          let there : i - first < length words = omega (arith, length_words classes first, from, within) in
          (i - first, there, here (i - first) there ∙ ap list.word (let back : first + (i - first) ≡ i = omega (arith, from) in back) ∙ is_y)
