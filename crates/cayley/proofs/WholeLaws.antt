-- What is read out of a whole table has the numbers of its words, and its classes are those of the
-- words.
use Rattle.std.proofs.Common.{◌≡◌, ℕ, ◌<◌, ◌≤◌, ◌↔◌, Bool, false, List, [], ◌∷◌, ◌++◌, refl, sym, ◌∙◌, ap, arith, inl, inr, length, subst, get_or, slice_index, fold}
use Rattle.theory.specs.Word.{Word, IsOver, IsElement}
use Rattle.theory.specs.Congruence.{AreElements}
use Rattle.theory.specs.Value.{IsProduct, SameValue}
use Rattle.theory.specs.Semigroup.{Semigroup, Numbering, IsNumberBelow, IsNumberOf}
use Rattle.theory.specs.Generated.{Generated, given, symmetric, transitive, on_right, on_left, GivenNumber, GeneratedNumber}
use Rattle.theory.specs.declared.Kind.{Kind}
use Rattle.theory.proofs.Related.{side_element}
use Rattle.theory.proofs.GeneratedLaws.{generated_least, same_symm, same_trans, same_element_by_numbers}
use Rattle.elements.specs.Generators.{HaveOneShape, value_by}
use Rattle.elements.proofs.Semigroups.{semigroup_of}
use Rattle.froidure_pin.specs.Found.{IsTableOf}
use Rattle.froidure_pin.specs.Numbering.{TableOf, IsNumbering, right_number, left_number, letter_number, number_of}
use Rattle.froidure_pin.proofs.Starts.{values_length}
use Rattle.froidure_pin.specs.declared.tables.CayleyTables.{CayleyTables}
use Rattle.cayley.specs.Tables.{edge, word_at, number_in, AreEdges, GivenIn, GeneratedIn, AreClasses}
use Rattle.cayley.specs.Whole.{AreReadFrom, AreTablesOf, AreClassesOf}
use Rattle.cayley.proofs.Numberings.{numbering_of}

module _ {V : Type 0} (product : V → V → V) (equal : V → V → Bool) (generators : List V) (unused : V) (table : TableOf V) (t : CayleyTables)
    (found : IsTableOf product equal generators unused table.words table.elements) (numbers : IsNumbering product equal generators unused table) (read : AreReadFrom table t) where
  abbrev k : ℕ
  k = length generators

  abbrev val : Word → V
  val = value_by product generators unused

  many : length table.elements ≡ length t.words
  many = sym (values_length equal (value_by product generators unused) table.words table.elements found.values) ∙ ap length (sym read.words)

  in_table : (i : ℕ) → i < length t.words → i < length table.words
  in_table i h = subst (λ (ws : List Word). i < length ws) read.words h

  right_is : (i a : ℕ) → i < length t.words → a < length generators → edge t.right i a ≡ right_number table i a
  right_is i a h l = (read.right.row i (omega (arith, h, many))).at a (omega (arith, l, numbers.letters))

  left_is : (i a : ℕ) → i < length t.words → a < length generators → edge t.left i a ≡ left_number table i a
  left_is i a h l = (read.left.row i (omega (arith, h, many))).at a (omega (arith, l, numbers.letters))

  letter_is : (a : ℕ) → a < length generators → slice_index t.letters a ≡ letter_number table a
  letter_is a l = read.letters.at a (omega (arith, l, numbers.letters))

  abbrev IsNumber : ℕ → Word → Type 0
  IsNumber i u = IsNumberBelow (length generators) equal (value_by product generators unused) (length t.words) (word_at t) i u

  -- numbers of the table are those of the words that were read out
  number_read : (i : ℕ) (u : Word) → IsNumberBelow (length generators) equal (value_by product generators unused) (length table.words) (λ i. get_or table.words i []) i u → IsNumber i u
  number_read i u h = subst (λ (ws : List Word). IsNumberBelow (length generators) equal (value_by product generators unused) (length ws) (λ i. get_or ws i []) i u) (sym read.words) h

  word_is : (i : ℕ) → word_at t i ≡ get_or table.words i []
  word_is i = ap (λ (ws : List Word). get_or ws i []) read.words

  right_number_is : (i a : ℕ) → i < length t.words → a < length generators → IsNumber (edge t.right i a) (word_at t i ++ a ∷ [])
  right_number_is i a h l =
      subst (λ n. IsNumber n (word_at t i ++ a ∷ [])) (sym (right_is i a h l))
      (subst (λ w. IsNumber (right_number table i a) (w ++ a ∷ [])) (sym (word_is i))
      (number_read (right_number table i a) (get_or table.words i [] ++ a ∷ []) (numbers.numbered.on_right i a (in_table i h) l)))

  left_number_is : (i a : ℕ) → i < length t.words → a < length generators → IsNumber (edge t.left i a) (a ∷ word_at t i)
  left_number_is i a h l =
      subst (λ n. IsNumber n (a ∷ word_at t i)) (sym (left_is i a h l))
      (subst (λ w. IsNumber (left_number table i a) (a ∷ w)) (sym (word_is i))
      (number_read (left_number table i a) (a ∷ get_or table.words i []) (numbers.numbered.on_left i a (in_table i h) l)))

  walk_is : (u : Word) (m : ℕ) → m < length t.words → IsOver (length generators) u → fold (edge t.right) m u ≡ fold (right_number table) m u
  walk_is [] m h over = refl
  walk_is (b ∷ u) m h over =
      let here = right_is m b h over.0 in
      ap (λ n. fold (edge t.right) n u) here ∙ walk_is u (right_number table m b) (subst (λ n. n < length t.words) here (right_number_is m b h over.0).0) over.1

  number_is : (u : Word) → IsElement false (length generators) u → number_in t u ≡ number_of table u
  number_is [] e = absurd (e.0 refl)
  number_is (a ∷ u) e =
      let here = letter_is a e.1.0 in
      ap (λ n. fold (edge t.right) n u) here ∙ walk_is u (letter_number table a) (number_read (letter_number table a) (a ∷ []) (numbers.single a e.1.0)).0 e.1.1

  width : length t.letters ≡ length generators
  width = read.letters.count ∙ numbers.letters

  right_fits : AreEdges (length t.letters) (length t.words) t.right
  right_fits = record {
    count = read.right.count ∙ many;
    width = λ i h. (read.right.row i (omega (arith, h, many))).count ∙ sym read.letters.count;
    within = λ i a h l. (right_number_is i a h (omega (arith, l, width))).0;
  }

  left_fits : AreEdges (length t.letters) (length t.words) t.left
  left_fits = record {
    count = read.left.count ∙ many;
    width = λ i h. (read.left.row i (omega (arith, h, many))).count ∙ sym read.letters.count;
    within = λ i a h l. (left_number_is i a h (omega (arith, l, width))).0;
  }

  single_in : (a : ℕ) → a < length generators → slice_index t.letters a < length t.words
  single_in a l = subst (λ n. n < length t.words) (sym (letter_is a l)) (number_read (letter_number table a) (a ∷ []) (numbers.single a l)).0

  pub read_tables : AreTablesOf product equal generators unused t
  read_tables = record {
    fit = record { right = right_fits; left = left_fits; letters = λ a l. single_in a (omega (arith, l, width)) };
    letters = width;
    listed = rw read.words found.listed;
    numbered = record {
      elements = λ i h. subst (λ w. IsElement false (length generators) w) (sym (word_is i)) (numbers.numbered.elements i (in_table i h));
      all = λ u e. let n = numbers.numbered.all u e in (n.0, number_read n.0 u n.1);
      distinct = λ i j h l e. numbers.numbered.distinct i j (in_table i h) (in_table j l)
          (subst (λ w. SameValue (length generators) equal (value_by product generators unused) w (get_or table.words j [])) (word_is i)
          (subst (λ w. SameValue (length generators) equal (value_by product generators unused) (word_at t i) w) (word_is j) e));
      on_right = right_number_is;
      on_left = left_number_is;
    };
    every = λ u e. subst (λ n. IsNumber n u) (sym (number_is u e)) (number_read (number_of table u) u (numbers.every u e));
  }

-- what is generated grows with what is given
grown : {X : Type 0} (kind : Kind) (k : ℕ) (right left : X → ℕ → X) (Given More : X → X → Type 0) → ((x y : X) → Given x y → More x y)
    → (x y : X) → Generated kind k right left Given x y → Generated kind k right left More x y
grown kind k right left Given More f x y h =
    generated_least kind k right left Given (Generated kind k right left More) (λ x y g. given (f x y g)) (λ x y g. symmetric g)
    (λ x y z g j. transitive g j) (λ x y a m l g. on_right x y a m l g) (λ x y a m l g. on_left x y a m l g) h

module _ {V : Type 0} (shape : V → ℕ × ℕ) (product : V → V → V) (equal : V → V → Bool) (products : (one : ℕ × ℕ) → IsProduct (λ x. shape x ≡ one) product equal)
    (generators : List V) (unused : V) (one_shape : HaveOneShape shape generators)
    (t : CayleyTables) (tables : AreTablesOf product equal generators unused t) (kind : Kind) (pairs : List (Word × Word))
    (elements : AreElements false (length generators) pairs) where
  abbrev one : ℕ × ℕ
  one = shape (get_or generators 0 unused)

  abbrev semi : Semigroup shape product equal
  semi = semigroup_of generators unused one_shape

  abbrev numbering : Numbering semi
  numbering = numbering_of generators unused one_shape t tables

  abbrev IsItsNumber : ℕ → Word → Type 0
  IsItsNumber = IsNumberOf numbering

  abbrev Same : Word → Word → Type 0
  Same = SameValue (length generators) equal (value_by product generators unused)

  -- a word has one number
  its_number : (i : ℕ) (u : Word) → IsElement false (length generators) u → IsItsNumber i u → i ≡ number_in t u
  its_number i u e h =
      let there = tables.every u e in
      tables.numbered.distinct i (number_in t u) h.0 there.0
      (same_trans semi (products one) (word_at t i) u (word_at t (number_in t u))
      (same_symm semi (products one) u (word_at t i) h.1) there.1)

  abbrev ByNumbers : ℕ → ℕ → Type 0
  ByNumbers = GeneratedNumber numbering kind pairs

  to_tables : (i j : ℕ) → GivenNumber numbering pairs i j → GivenIn t pairs i j
  to_tables i j (inl h) = inl h
  to_tables i j (inr p) =
      let both = side_element false (length generators) pairs p.first p.second elements (inl p.listed) in
      inr (record { first = p.first; second = p.second; listed = p.listed; left = its_number i p.first both.0 p.left; right = its_number j p.second both.1 p.right })

  from_tables : (i j : ℕ) → GivenIn t pairs i j → GivenNumber numbering pairs i j
  from_tables i j (inl h) = inl h
  from_tables i j (inr p) =
      let both = side_element false (length generators) pairs p.first p.second elements (inl p.listed) in
      inr (record {
        first = p.first;
        second = p.second;
        listed = p.listed;
        left = subst (λ n. IsItsNumber n p.first) (sym p.left) (tables.every p.first both.0);
        right = subst (λ n. IsItsNumber n p.second) (sym p.right) (tables.every p.second both.1);
      })

  generated_in : (i j : ℕ) → ByNumbers i j ↔ GeneratedIn t kind pairs i j
  generated_in i j = (
    λ h. subst (λ k. Generated kind k (edge t.right) (edge t.left) (GivenIn t pairs) i j) (sym tables.letters)
        (grown kind (length generators) (edge t.right) (edge t.left) (GivenNumber numbering pairs) (GivenIn t pairs) to_tables i j h),
    λ h. grown kind (length generators) (edge t.right) (edge t.left) (GivenIn t pairs) (GivenNumber numbering pairs) from_tables i j
        (subst (λ k. Generated kind k (edge t.right) (edge t.left) (GivenIn t pairs) i j) tables.letters h),
  )

  module _ (classes : List ℕ) (c : AreClasses t kind pairs classes) where
    below : (i : ℕ) → i < length t.words → slice_index classes i ≤ i
    below i h = c.least i i h (given (inl (h, refl)))

    pub word_classes : AreClassesOf product equal generators unused kind pairs t classes
    word_classes = record {
      count = c.count;
      related = λ u v e f.
          let i = tables.every u e in
          let j = tables.every v f in
          let by = same_element_by_numbers semi (products one) kind pairs elements numbering u v (number_in t u) (number_in t v) i j in
          let in_tables = generated_in (number_in t u) (number_in t v) in
          let in_classes = c.related (number_in t u) (number_in t v) i.0 j.0 in
          (λ h. in_classes.0 (in_tables.0 (by.0 h)), λ h. by.1 (in_tables.1 (in_classes.1 h)));
      own = λ i h.
          let near : slice_index classes i < length t.words = omega (arith, h, below i h) in
          sym ((c.related i (slice_index classes i) h near).0 (c.own i h));
      least = λ i j h l e. c.least i j h ((c.related i j h l).1 e);
    }
