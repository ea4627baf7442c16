-- A right congruence with finitely many classes is the path equality of a table of low index.
use Rattle.std.proofs.Common.{◌≡◌, ◌≢◌, ℕ, zero, suc, ◌<◌, ◌≤◌, ◌⊎◌, inl, inr, Bool, true, false, List, [], ◌∷◌, ◌++◌, length, map, get_or, Contains, Option, Some, option_and_then, refl, sym, ◌∙◌, ap, subst, arith, append-nil, append_assoc}
use Rattle.std.proofs.lemmas.List.{get_or-map, length-map}
use Rattle.std.proofs.lemmas.List.FromFn.{get_or-map-range_with_len, length-range_with_len}
use Rattle.std.specs.List.{range_with_len}
use Rattle.theory.specs.Word.{Word, IsElement, IsOver}
use Rattle.theory.specs.Congruence.{Presentation, AreElements, of_presentation}
use Rattle.theory.specs.Graph.{Graph, target, path, SameEnd, IsGraph, IsComplete, PathsRelate}
use Rattle.theory.specs.LowIndex.{Rows, graph_of, IsLowIndex}
use Rattle.theory.proofs.Counting.{AreApart, IsIn, contains_from_in, in_from_contains, pigeonhole}
use Rattle.theory.proofs.LatticeLaws.{path_over}
use Rattle.theory.proofs.Related.{element_over, nonempty_element, related_by_relation_at}
use Rattle.theory.proofs.Words.{over_append}
use Rattle.word_graph.proofs.NumberLaws.{edge_at, edge_past}
use Rattle.word_graph.proofs.WalkLaws.{some_same}
use Rattle.sims_one.specs.Graphs.{AreAtMost, HasFewClasses, StandsFor}
use Rattle.sims_one.proofs.GraphLaws.{inside as inside_rows, table_there}
use Rattle.sims_one.proofs.LowIndexLaws.{relation_words}

not_empty : (u : Word) (a : ℕ) → u ++ a ∷ [] ≡ [] → ⊥
not_empty [] a e = cc
not_empty (b ∷ u) a e = cc

-- Of a list of words those that are related to none before them, and the place there of the word
-- that is related to a given one.
module _ (R : Word → Word → Type 0) (decided : (u v : Word) → R u v ⊎ (R u v → ⊥))
    (symmetric : (u v : Word) → R u v → R v u) (transitive : (u v w : Word) → R u v → R v w → R u w) where
  abbrev first_or : {A : Type 0} → A ⊎ (A → ⊥) → ℕ → ℕ
  first_or (inl a) n = 0
  first_or (inr none) n = suc n

  abbrev place : List Word → Word → ℕ
  place [] w = 0
  place (x ∷ xs) w = first_or (decided w x) (place xs w)

  abbrev There : List Word → (w y : Word) → R w y ⊎ (R w y → ⊥) → Type 0
  There xs w y d = (first_or d (place xs w) < suc (length xs)) × R w (get_or (y ∷ xs) (first_or d (place xs w)) [])

  at_place : (xs : List Word) (w x : Word) → IsIn x xs → R w x → (place xs w < length xs) × R w (get_or xs (place xs w) [])
  at_place [] w x m r = absurd m
  at_place (y ∷ xs) w x m r = by (decided w y) m (λ n. at_place xs w x n r)
    where
      behind : (none : R w y → ⊥) → (place xs w < length xs) × R w (get_or xs (place xs w) []) → There xs w y (inr none)
      behind none f = (omega (arith, f.0), f.1)

      by : (d : R w y ⊎ (R w y → ⊥)) → IsIn x (y ∷ xs) → (IsIn x xs → (place xs w < length xs) × R w (get_or xs (place xs w) [])) → There xs w y d
      by (inl s) m further = (omega arith, s)
      by (inr none) (inl e) further = absurd (none (subst (R w) e r))
      by (inr none) (inr n) further = behind none (further n)

  in_at : (xs : List Word) (i : ℕ) → i < length xs → IsIn (get_or xs i []) xs
  in_at [] i h = absurd (omega arith)
  in_at (x ∷ xs) zero h = inl refl
  in_at (x ∷ xs) (suc i) h = inr (in_at xs i (omega arith))

  -- a word is related to one at most of words that are apart
  one_place : (xs : List Word) → AreApart R xs → (w : Word) (i j : ℕ) → i < length xs → j < length xs → R w (get_or xs i []) → R w (get_or xs j []) → i ≡ j
  one_place [] apart w i j h l r s = absurd (omega arith)
  one_place (x ∷ xs) apart w zero zero h l r s = refl
  one_place (x ∷ xs) apart w zero (suc j) h l r s = absurd (apart.0 (get_or xs j []) w (in_at xs j (omega arith)) (symmetric w x r) (symmetric w (get_or xs j []) s))
  one_place (x ∷ xs) apart w (suc i) zero h l r s = absurd (apart.0 (get_or xs i []) w (in_at xs i (omega arith)) (symmetric w x s) (symmetric w (get_or xs i []) r))
  one_place (x ∷ xs) apart w (suc i) (suc j) h l r s = ap suc (one_place xs apart.1 w i j (omega arith) (omega arith) r s)

  -- a word is related to one of the list, or to none
  pub among : (w : Word) (xs : List Word) → ((x : Word) × IsIn x xs × R w x) ⊎ ((x : Word) → IsIn x xs → R w x → ⊥)
  among w [] = inr (λ x m r. m)
  among w (y ∷ xs) = by (decided w y) (among w xs)
    where
      by : R w y ⊎ (R w y → ⊥) → ((x : Word) × IsIn x xs × R w x) ⊎ ((x : Word) → IsIn x xs → R w x → ⊥)
          → ((x : Word) × IsIn x (y ∷ xs) × R w x) ⊎ ((x : Word) → IsIn x (y ∷ xs) → R w x → ⊥)
      by (inl r) rest = inl (y, inl refl, r)
      by (inr none) (inl f) = inl (f.0, inr f.1, f.2)
      by (inr none) (inr others) = inr (λ x m r. elim m [ inl e ↦ none (subst (R w) e r) | inr n ↦ others x n r ])

  abbrev Found : Word → List Word → Type 0
  Found w xs = ((x : Word) × IsIn x xs × R w x) ⊎ ((x : Word) → IsIn x xs → R w x → ⊥)

  abbrev with_new : {A B : Type 0} → A ⊎ B → Word → List Word → List Word → List Word
  with_new (inl old) x same more = same
  with_new (inr new) x same more = x ∷ more

  -- those of the words that are related to none that is known, nor to one before them
  abbrev new_words : List Word → List Word → List Word
  new_words known [] = []
  new_words known (x ∷ xs) = with_new (among x known) x (new_words known xs) (new_words (x ∷ known) xs)

  -- each of them is one of the words
  are_words : (known xs : List Word) (w : Word) → IsIn w (new_words known xs) → IsIn w xs
  are_words known [] w m = m
  are_words known (x ∷ xs) w m = by (among x known) m (are_words known xs w) (are_words (x ∷ known) xs w)
    where
      by : (f : Found x known) → IsIn w (with_new f x (new_words known xs) (new_words (x ∷ known) xs))
          → (IsIn w (new_words known xs) → IsIn w xs) → (IsIn w (new_words (x ∷ known) xs) → IsIn w xs) → IsIn w (x ∷ xs)
      by (inl old) m same more = inr (same m)
      by (inr new) (inl e) same more = inl e
      by (inr new) (inr n) same more = inr (more n)

  -- and is related to none that is known
  are_new : (known xs : List Word) (w y : Word) → IsIn w (new_words known xs) → IsIn y known → R w y → ⊥
  are_new known [] w y m k r = m
  are_new known (x ∷ xs) w y m k r = by (among x known) m (λ n. are_new known xs w y n k r) (λ n. are_new (x ∷ known) xs w y n (inr k) r)
    where
      by : (f : Found x known) → IsIn w (with_new f x (new_words known xs) (new_words (x ∷ known) xs))
          → (IsIn w (new_words known xs) → ⊥) → (IsIn w (new_words (x ∷ known) xs) → ⊥) → ⊥
      by (inl old) m same more = same m
      by (inr new) (inl e) same more = new y k (subst (λ (v : Word). R v y) e r)
      by (inr new) (inr n) same more = more n

  are_apart : (known xs : List Word) → AreApart R (new_words known xs)
  are_apart known [] = tt
  are_apart known (x ∷ xs) = by (among x known) (are_apart known xs) (are_apart (x ∷ known) xs)
    where
      by : (f : Found x known) → AreApart R (new_words known xs) → AreApart R (new_words (x ∷ known) xs)
          → AreApart R (with_new f x (new_words known xs) (new_words (x ∷ known) xs))
      by (inl old) same more = same
      by (inr new) same more = (λ y w m r s. are_new (x ∷ known) xs y x m (inl refl) (transitive y w x s (symmetric x w r)), more)

  -- each of the words is related to one that is known or new
  abbrev Stands : Word → List Word → List Word → Type 0
  Stands w known news = (x : Word) × (IsIn x known ⊎ IsIn x news) × R w x

  have_one : (known xs : List Word) (w : Word) → IsIn w xs → R w w → Stands w known (new_words known xs)
  have_one known [] w m r = absurd m
  have_one known (x ∷ xs) w m r = by (among x known) m (λ n. have_one known xs w n r) (λ n. have_one (x ∷ known) xs w n r)
    where
      moved : Stands w (x ∷ known) (new_words (x ∷ known) xs) → Stands w known (x ∷ new_words (x ∷ known) xs)
      moved (y, inl (inl e), s) = (y, inr (inl e), s)
      moved (y, inl (inr k), s) = (y, inl k, s)
      moved (y, inr n, s) = (y, inr (inr n), s)

      by : (f : Found x known) → IsIn w (x ∷ xs) → (IsIn w xs → Stands w known (new_words known xs)) → (IsIn w xs → Stands w (x ∷ known) (new_words (x ∷ known) xs))
          → Stands w known (with_new f x (new_words known xs) (new_words (x ∷ known) xs))
      by (inl old) (inl e) same more = (old.0, inl old.1, subst (λ (v : Word). R v old.0) (sym e) old.2)
      by (inl old) (inr n) same more = same n
      by (inr new) (inl e) same more = (x, inr (inl refl), subst (R w) e r)
      by (inr new) (inr n) same more = moved (more n)

module _ (p : Presentation) (n : ℕ) (R : Word → Word → Type 0) (elements : List Word) (sides : AreElements p.is_monoid p.letters p.relations) (is : HasFewClasses p n R elements) where
  abbrev new : List Word
  new = new_words R is.decided is.right.symmetric is.right.transitive ([] ∷ []) elements

  -- the empty word, and a word of each other class
  abbrev words : List Word
  words = [] ∷ new

  abbrev word : ℕ → Word
  word i = get_or words i []

  abbrev number : Word → ℕ
  number = place R is.decided is.right.symmetric is.right.transitive words

  over_in : (x : Word) → IsIn x words → IsOver p.letters x
  over_in x (inl e) = subst (IsOver p.letters) (sym e) tt
  over_in x (inr m) =
      element_over p.is_monoid p.letters x (is.listed x (contains_from_in x elements (are_words R is.decided is.right.symmetric is.right.transitive ([] ∷ []) elements x m)))

  word_over : (i : ℕ) → i < length words → IsOver p.letters (word i)
  word_over i h = over_in (word i) (in_at R is.decided is.right.symmetric is.right.transitive words i h)

  apart : AreApart R words
  apart = (
    λ y w m r s. are_new R is.decided is.right.symmetric is.right.transitive ([] ∷ []) elements y [] m (inl refl) (is.right.transitive y w [] s (is.right.symmetric [] w r)),
    are_apart R is.decided is.right.symmetric is.right.transitive ([] ∷ []) elements,
  )

  -- each word is related to one of them
  one_of_them : (u : Word) → IsOver p.letters u → (x : Word) × IsIn x words × R u x
  one_of_them u over = by (is.decided u [])
    where
      there : (x : Word) → R u x → IsIn x elements → (y : Word) × IsIn y words × R u y
      there x r m =
          let h = have_one R is.decided is.right.symmetric is.right.transitive ([] ∷ []) elements x m (is.right.transitive x u x (is.right.symmetric u x r) r) in
          elim h.1 [
            | inl k ↦ elim k [ inl e ↦ (h.0, inl e, is.right.transitive u x h.0 r h.2) | inr none ↦ absurd none ]
            | inr k ↦ (h.0, inr k, is.right.transitive u x h.0 r h.2)
          ]

      by : R u [] ⊎ (R u [] → ⊥) → (y : Word) × IsIn y words × R u y
      by (inl r) = ([], inl refl, r)
      by (inr none) =
          let at = nonempty_element p.is_monoid p.letters u over (λ e. none (subst (λ (v : Word). R u v) e (is.right.reflexive u over))) in
          let f = is.covered u (record { left = at; right = at; related = is.right.reflexive u over }) in
          there f.0 f.2.related (in_from_contains f.0 elements f.1)

  numbered : (u : Word) → IsOver p.letters u → (number u < length words) × R u (word (number u))
  numbered u over =
      let f = one_of_them u over in
      at_place R is.decided is.right.symmetric is.right.transitive words u f.0 f.1 f.2

  one_number : (u : Word) (i j : ℕ) → i < length words → j < length words → R u (word i) → R u (word j) → i ≡ j
  one_number = one_place R is.decided is.right.symmetric is.right.transitive words apart

  -- a row for each of them: the numbers of its products with letters
  abbrev row : Word → List ℕ
  row x = map (λ a. number (x ++ a ∷ [])) (range_with_len 0 p.letters)

  abbrev rows : Rows
  rows = map row words

  abbrev graph : Graph
  graph = graph_of rows

  long : length graph ≡ length words
  long = length-map rows (map Some) ∙ length-map words row

  row_at : (i : ℕ) → i < length words → get_or rows i [] ≡ row (word i)
  row_at i h = get_or-map row words i [] [] h

  wide : (x : Word) → length (row x) ≡ p.letters
  wide x = length-map (range_with_len 0 p.letters) (λ a. number (x ++ a ∷ [])) ∙ length-range_with_len 0 p.letters

  edge : (i a : ℕ) → i < length words → a < p.letters → target graph i a ≡ Some (number (word i ++ a ∷ []))
  edge i a h l =
      let width : length (get_or rows i []) ≡ p.letters = ap length (row_at i h) ∙ wide (word i) in
      edge_at rows i a (omega (arith, h, length-map words row)) (omega (arith, l, width))
      ∙ ap (λ (r : List ℕ). Some (get_or r a 0)) (row_at i h)
      ∙ ap (λ z. Some z) (get_or-map-range_with_len (λ a. number (word i ++ a ∷ [])) 0 p.letters a a 0 l (omega arith))

  step : (i a : ℕ) → i < length words → a < p.letters → (number (word i ++ a ∷ []) < length words) × R (word i ++ a ∷ []) (word (number (word i ++ a ∷ [])))
  step i a h l = numbered (word i ++ a ∷ []) (over_append p.letters (word i) (a ∷ []) (word_over i h) (l, tt))

  -- a word leads from a node to that of its product
  leads : (u : Word) (i : ℕ) → i < length words → IsOver p.letters u → (m : ℕ) × (m < length words) × (path graph i u ≡ Some m) × R (word i ++ u) (word m)
  leads [] i h over = (i, h, refl, subst (λ (w : Word). R w (word i)) (sym (append-nil (word i))) (is.right.reflexive (word i) (word_over i h)))
  leads (a ∷ u) i h over =
      let s = step i a h over.0 in
      let rest = leads u (number (word i ++ a ∷ [])) s.0 over.1 in (
        rest.0,
        rest.1,
        ap (option_and_then (λ m. path graph m u)) (edge i a h over.0) ∙ rest.2,
        is.right.transitive (word i ++ a ∷ u) (word (number (word i ++ a ∷ [])) ++ u) (word rest.0)
            (subst (λ (w : Word). R w (word (number (word i ++ a ∷ [])) ++ u)) (append_assoc (word i) (a ∷ []) u)
            (is.right.kept (word i ++ a ∷ []) (word (number (word i ++ a ∷ []))) u over.1 s.1))
            rest.3,
      )

  inside : (i a m : ℕ) → target graph i a ≡ Some m → (i < length words) × (a < p.letters)
  inside i a m e =
      let l = row_inside i a m e in
      (l, let past = edge_past rows i a m e in omega (arith, past, ap length (row_at i l) ∙ wide (word i)))
    where
      row_inside : (i a m : ℕ) → target graph i a ≡ Some m → i < length words
      row_inside i a m e = omega (arith, inside_rows rows i a m e, length-map words row)

  leads_inside : (i a m : ℕ) → target graph i a ≡ Some m → m < length words
  leads_inside i a m e =
      let at = inside i a m e in
      let same = some_same (number (word i ++ a ∷ [])) m (sym (edge i a at.0 at.1) ∙ e) in
      omega (arith, (step i a at.0 at.1).0, same)

  is_graph : IsGraph p.letters graph
  is_graph = record {
    rooted = omega (arith, long);
    width = λ i d h. width i d h;
    nodes = λ i a m e. omega (arith, leads_inside i a m e, long);
  }
    where
      width : (i : ℕ) (d : List (Option ℕ)) → i < length graph → length (get_or graph i d) ≡ p.letters
      width i d h =
          let l : i < length words = omega (arith, h, long) in
          ap length (get_or-map (map Some) rows i [] d (omega (arith, h, length-map rows (map Some))))
          ∙ length-map (get_or rows i []) Some ∙ ap length (row_at i l) ∙ wide (word i)

  is_complete : IsComplete p.letters graph
  is_complete i a h l = (number (word i ++ a ∷ []), edge i a (omega (arith, h, long)) l)

  from_node : (i : ℕ) (u v : Word) → i < length words → IsOver p.letters u → IsOver p.letters v → R (word i ++ u) (word i ++ v) → path graph i u ≡ path graph i v
  from_node i u v h over also r =
      let left = leads u i h over in
      let right = leads v i h also in
      let same = one_number (word i ++ u) left.0 right.0 left.1 right.1 left.3 (is.right.transitive (word i ++ u) (word i ++ v) (word right.0) r right.3) in
      left.2 ∙ ap (λ z. Some z) same ∙ sym right.2

  -- its equal paths are the right congruence
  paths : PathsRelate graph R
  paths u v = (there, back)
    where
      there : SameEnd graph u v → R u v
      there (node, e, f) =
          let left = leads u 0 (omega arith) (path_over p.letters graph is_graph u 0 node e) in
          let right = leads v 0 (omega arith) (path_over p.letters graph is_graph v 0 node f) in
          let same : left.0 ≡ right.0 = some_same left.0 right.0 (sym left.2 ∙ e ∙ sym f ∙ right.2) in
          is.right.transitive u (word left.0) v left.3 (is.right.symmetric v (word left.0) (subst (λ m. R v (word m)) (sym same) right.3))

      back : R u v → SameEnd graph u v
      back r =
          let over = is.right.over u v r in
          let left = leads u 0 (omega arith) over.0 in
          (left.0, left.2, sym (from_node 0 u v (omega arith) over.0 over.1 r) ∙ left.2)

  meets : (node : ℕ) (r s : Word) → node < length graph → Contains p.relations (r, s) → path graph node r ≡ path graph node s
  meets node r s h m =
      let l : node < length words = omega (arith, h, long) in
      let over = relation_words p sides r s m in
      let w = word node in
      from_node node r s l over.0 over.1 (is.relations (w ++ r) (w ++ s) (over_append p.letters w r (word_over node l) over.0) (over_append p.letters w s (word_over node l) over.1)
      (related_by_relation_at (of_presentation p) w r s (inl m)))

  -- there are no more of them than elements that cover all
  placed : (x : Word) → IsElement p.is_monoid p.letters x → (y : Word) × IsIn y elements × R x y
  placed x e =
      let f = is.covered x (record { left = e; right = e; related = is.right.reflexive x (element_over p.is_monoid p.letters x e) }) in
      (f.0, in_from_contains f.0 elements f.1, f.2.related)

  new_element : (x : Word) → IsIn x new → IsElement p.is_monoid p.letters x
  new_element x m = is.listed x (contains_from_in x elements (are_words R is.decided is.right.symmetric is.right.transitive ([] ∷ []) elements x m))

  few_new : length new ≤ length elements
  few_new =
      pigeonhole R new elements apart.1
      (λ x m. placed x (new_element x m))

  few_at : (is_monoid : Bool) → p.is_monoid ≡ is_monoid → AreAtMost is_monoid n graph
  few_at true e =
      let all = pigeonhole R words elements apart
      (λ x m. placed x (subst (λ b. IsElement b p.letters x) (sym e) (over_in x m))) in
      omega (arith, all, is.few, long)
  few_at false e = (omega (arith, few_new, is.few, long), free)
    where
      free : (node letter : ℕ) → target graph node letter ≢ Some 0
      free node letter there =
          let at = inside node letter 0 there in
          let same = some_same (number (word node ++ letter ∷ [])) 0 (sym (edge node letter at.0 at.1) ∙ there) in
          let root : R (word node ++ letter ∷ []) [] = subst (λ m. R (word node ++ letter ∷ []) (word m)) same (step node letter at.0 at.1).1 in
          not_empty (word node) letter (is.alone e (word node ++ letter ∷ []) (is.right.symmetric (word node ++ letter ∷ []) [] root))

  stands : StandsFor p n graph
  stands = record { graph = is_graph; complete = is_complete; meets = meets; few = few_at p.is_monoid refl }

  pub table_of_congruence : (rows : Rows) × IsLowIndex p n rows × PathsRelate (graph_of rows) R
  table_of_congruence =
      let t = table_there p n graph sides stands in
      (t.0, t.1, λ u v. (λ e. (paths u v).0 ((t.2 u v).0 e), λ r. (t.2 u v).1 ((paths u v).1 r)))
