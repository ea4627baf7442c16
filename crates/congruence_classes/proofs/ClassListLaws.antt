-- The least words of the nodes of a problem's graph list its classes.
use Rattle.std.proofs.Common.{◌≡◌, ◌↔◌, ℕ, zero, suc, ◌-◌, ◌<◌, ◌≤◌, Bool, true, false, List, [], ◌∷◌, length, get_or, reverse, slice_index, refl, sym, ◌∙◌, ap, subst, arith, inl, inr, Option, Some, None, option_and_then}
use Rattle.std.specs.Option.{unwrap_or}
use Rattle.std.proofs.lemmas.Bool.{cases_lt}
use Rattle.std.proofs.lemmas.List.{reverse-reverse}
use Rattle.theory.specs.Word.{Word, IsOver, IsElement}
use Rattle.theory.specs.ShortLex.{◌≺◌}
use Rattle.theory.specs.Graph.{Graph, target, path, IsGraph}
use Rattle.theory.proofs.Words.{before_irrefl, before_trans, order_cases}
use Rattle.theory.proofs.KindLaws.{over_turned}
use Rattle.theory.proofs.Related.{element_over}
use Rattle.theory.proofs.ReducedRules.{greater_full}
use Rattle.word_graph.specs.Backwards.{AreAllReached}
use Rattle.word_graph.specs.Standard.{IsStandardGraph}
use Rattle.word_graph.specs.Walk.{NoLater, IsLeastWord, AreLeastWords}
use Rattle.word_graph.proofs.EdgeLaws.{target_in}
use Rattle.word_graph.proofs.StandardLaws.{path_in}
use Rattle.word_graph.proofs.WalkLaws.{some_same}
use Rattle.problem.specs.declared.kinds.Problem.{Problem}
use Rattle.problem.specs.declared.kinds.Problem.TheVariants.{Presented, Transf, PPerm, BMat, MaxPlus}
use Rattle.problem.specs.Problem.{SameClassOf, count_of, has_empty_word}
use Rattle.congruence_classes.specs.ClassLists.{as_read, IsGraphOf, IsGraphFor, word_at, node_at, first_class, place_of, CosetTable, coset_list, AreListed, AreOrderedWords, ArePlaced, ArePlacesOf, IsSolution, IsSolutionFor, reads_backwards}
use Rattle.congruence_classes.proofs.OrderedWords.{ascend}

-- a path is over the letters
pub path_over : (k : ℕ) (g : Graph) → IsGraph k g → (u : Word) (n m : ℕ) → path g n u ≡ Some m → IsOver k u
path_over k g graph [] n m e = tt
path_over k g graph (a ∷ u) n m e = go (target g n a) refl (λ next h. path_over k g graph u next m h) e
  where
    go : (t : Option ℕ) → target g n a ≡ t → ((next : ℕ) → path g next u ≡ Some m → IsOver k u)
        → option_and_then (λ next. path g next u) t ≡ Some m → IsOver k (a ∷ u)
    go None d further h = cc
    go (Some next) d further h = ((target_in k g graph n a next d).1, further next h)

-- ascending numbers that leave none out are their places
module _ (list : List (ℕ × Word)) (count : ℕ)
    (ascending : (i j : ℕ) (d : ℕ × Word) → i < j → j < length list → (get_or list i d).0 < (get_or list j d).0)
    (below : (i : ℕ) → i < length list → (get_or list i (0, [])).0 < count)
    (all : (n : ℕ) → n < count → (i : ℕ) × (i < length list) × ((get_or list i (0, [])).0 ≡ n)) where
  places_to : (n i : ℕ) → i < n → i < length list → (get_or list i (0, [])).0 ≡ i
  places_to zero i h l = absurd (omega arith)
  places_to (suc n) i h l = elim (cases_lt i n) [
    | inl old ↦ places_to n i old l
    | inr new ↦ let same : n ≡ i = omega (arith, h, new) in subst (λ z. (get_or list z (0, [])).0 ≡ z) same (here (places_to n) (subst (λ z. z < length list) (sym same) l))
  ]
    where
      here : ((i : ℕ) → i < n → i < length list → (get_or list i (0, [])).0 ≡ i) → n < length list → (get_or list n (0, [])).0 ≡ n
      here known l = elim (cases_lt (get_or list n (0, [])).0 n) [
        | inl less ↦
            let e = known (get_or list n (0, [])).0 less (omega (arith, less, l)) in
            let up = ascending (get_or list n (0, [])).0 n (0, []) less l in
            absurd (omega (arith, e, up))
        | inr most ↦ elim (cases_lt n (get_or list n (0, [])).0) [
          | inr none ↦ omega (arith, most, none)
          | inl more ↦ missing (all n (omega (arith, more, below n l))) more
        ]
      ]
        where
          missing : (i : ℕ) × (i < length list) × ((get_or list i (0, [])).0 ≡ n) → n < (get_or list n (0, [])).0 → (get_or list n (0, [])).0 ≡ n
          missing f more = elim (cases_lt f.0 n) [
            | inl less ↦ let e = known f.0 less f.1 in absurd (omega (arith, e, f.2, less))
            | inr most ↦ elim (cases_lt n f.0) [
              | inl past ↦ let up = ascending n f.0 (0, []) past f.1 in absurd (omega (arith, up, f.2, more))
              | inr none ↦ let same : f.0 ≡ n = omega (arith, most, none) in subst (λ z. (get_or list z (0, [])).0 ≡ n) same f.2
            ]
          ]

  is_place : (i : ℕ) → i < length list → (get_or list i (0, [])).0 ≡ i
  is_place i l = places_to (suc i) i (omega arith) l

no_later_first : (u v : Word) → NoLater u v → v ≺ u → ⊥
no_later_first u v (inl l) less = before_irrefl u (before_trans u v u l less)
no_later_first u v (inr e) less = before_irrefl u (subst (λ z. z ≺ u) (sym e) less)

-- the least words of the nodes of a standard graph are in the order of the nodes
module _ (k : ℕ) (g : Graph) (graph : IsGraph k g) (standard : IsStandardGraph k g) (reached : AreAllReached g) (least : List (ℕ × Word))
    (are : AreLeastWords g least) where
  place : (i : ℕ) → i < length least → node_at least i ≡ i
  place = is_place least (length g) are.ascending
      (λ i h. path_in k g graph 0 (node_at least i) (word_at least i) graph.rooted (are.least i (0, []) h).leads)
      (λ n h. let at = reached n h in let f = are.all n at.0 at.1 in (f.0, f.1, f.2 (0, [])))

  listed : (node : ℕ) → node < length g → node < length least
  listed node h =
      let at = reached node h in
      let f = are.all node at.0 at.1 in
      let e = place f.0 f.1 in
      omega (arith, f.1, f.2 (0, []), e)

  least_at : (i : ℕ) → i < length least → IsLeastWord g i (word_at least i)
  least_at i h = subst (λ n. IsLeastWord g n (word_at least i)) (place i h) (are.least i (0, []) h)

  inside : (i : ℕ) → i < length least → i < length g
  inside i h = path_in k g graph 0 i (word_at least i) graph.rooted (least_at i h).leads

  as_many : length least ≡ length g
  as_many =
      let some = listed 0 graph.rooted in
      let last = listed (length g - 1) (omega (arith, graph.rooted)) in
      let most = inside (length least - 1) (omega (arith, some)) in
      omega (arith, graph.rooted, some, last, most)

  pub ordered_forwards : AreOrderedWords g false least
  ordered_forwards = record {
    count = as_many;
    ascending = λ i j less h.
        ascend k g standard.rows standard.is standard.standard.numbered graph (word_at least) (λ n l. least_at n (listed n l)) i j less
        (inside j h);
    nodes = λ i h. subst (λ n. n < length g) (sym (place i h)) (inside i h);
    all = λ node h. (node, listed node h, place node (listed node h));
    leads = λ i h. (are.least i (0, []) h).leads;
    none_less = λ i v h e. no_later_first (word_at least i) v ((are.least i (0, []) h).least v e);
  }

-- no node stands at two places
pub ordered_once : (g : Graph) (backwards : Bool) (least : List (ℕ × Word)) → AreOrderedWords g backwards least → ArePlaced least
ordered_once g backwards least are = record {
  nodes = λ i h. subst (λ n. node_at least i < n) (sym are.count) (are.nodes i h);
  once = λ i j hi hj e. elim (cases_lt i j) [
    | inl less ↦ absurd (apart i j less hj e)
    | inr most ↦ elim (cases_lt j i) [ inl more ↦ absurd (apart j i more hi (sym e)) | inr none ↦ omega (arith, most, none) ]
  ];
}
  where
    apart : (i j : ℕ) → i < j → j < length least → node_at least i ≡ node_at least j → ⊥
    apart i j less h e =
        are.none_less j (word_at least i) h (are.leads i (omega (arith, less, h)) ∙ ap (λ z. Some z) e) (are.ascending i j less h)

pub first_small : (b : Bool) (n : ℕ) → 0 < n → first_class b ≤ n
first_small true n h = omega arith
first_small false n h = omega arith

-- a place from the first class on has an element
class_element : (b : Bool) (k i : ℕ) (u : Word) → first_class b ≤ i → IsOver k u → (u ≡ [] → i ≡ 0) → IsElement b k u
class_element true k i u h over root = over
class_element false k i u h over root = (λ e. let z : i ≡ 0 = root e in omega (arith, z, h), over)

-- the root is left out where the empty word is no element
class_place : (b : Bool) (k i : ℕ) (u : Word) → IsElement b k u → (b ≡ false → i ≡ 0 → u ≡ []) → first_class b ≤ i
class_place true k i u element root = omega arith
class_place false k zero u element root = absurd (element.0 (root refl refl))
class_place false k (suc i) u element root = omega arith

-- words as they are read
pub read_over : (b : Bool) (k : ℕ) (u : Word) → IsOver k u → IsOver k (as_read b u)
read_over true k u h = over_turned k u h
read_over false k u h = h

pub over_read : (b : Bool) (k : ℕ) (u : Word) → IsOver k (as_read b u) → IsOver k u
over_read true k u h = subst (λ w. IsOver k w) (reverse-reverse u) (over_turned k (reverse u) h)
over_read false k u h = h

read_none : (b : Bool) → as_read b [] ≡ []
read_none true = refl
read_none false = refl

none_read : (b : Bool) (u : Word) → as_read b u ≡ [] → u ≡ []
none_read true u e = sym (reverse-reverse u) ∙ ap reverse e
none_read false u e = e

-- the least words of the nodes of a graph that decides a relation are a solution
module _ (R : Word → Word → Type 0) (empty : Bool) (k : ℕ) (backwards : Bool) (g : Graph) (least : List (ℕ × Word)) (places : List ℕ)
    (among : (u v : Word) → R u v → IsElement empty k u × IsElement empty k v) (is : IsGraphOf R empty k backwards g)
    (are : AreOrderedWords g backwards least) (at : ArePlacesOf least places) where
  place_in : (node : ℕ) → node < length g → (i : ℕ) × (i < length least) × (slice_index places node ≡ i) × (node_at least i ≡ node)
  place_in node h =
      let f = are.all node h in
      (f.0, f.1, ap (slice_index places) (sym f.2) ∙ at.each f.0 f.1, f.2)

  some : 0 < length least
  some = let f = are.all 0 is.graph.rooted in omega (arith, f.1)

  only_root : (i : ℕ) → i < length least → word_at least i ≡ [] → i ≡ 0
  only_root i h e = elim (cases_lt 0 i) [
    | inl more ↦ absurd (greater_full (word_at least i) (word_at least 0) (are.ascending 0 i more h) e)
    | inr none ↦ omega (arith, none)
  ]

  root : word_at least 0 ≡ []
  root = let f = are.all 0 is.graph.rooted in by f.0 f.1 f.2
    where
      by : (i : ℕ) → i < length least → node_at least i ≡ 0 → word_at least 0 ≡ []
      by i h e = elim (order_cases [] (word_at least i)) [
        | inl less ↦ absurd (are.none_less i [] h (ap (path g 0) (read_none backwards) ∙ ap (λ z. Some z) (sym e)) less)
        | inr (inl same) ↦ ap (word_at least) (sym (only_root i h (sym same))) ∙ sym same
        | inr (inr less) ↦ absurd (greater_full [] (word_at least i) less refl)
      ]

  root_node : 0 ≡ node_at least 0
  root_node = some_same 0 (node_at least 0) (ap (path g 0) (sym (read_none backwards) ∙ ap (as_read backwards) (sym root)) ∙ are.leads 0 some)

  over_at : (i : ℕ) → i < length least → IsOver k (word_at least i)
  over_at i h =
      over_read backwards k (word_at least i) (path_over k g is.graph (as_read backwards (word_at least i)) 0 (node_at least i) (are.leads i h))

  element_at : (i : ℕ) → first_class empty ≤ i → i < length least → IsElement empty k (word_at least i)
  element_at i first h = class_element empty k i (word_at least i) first (over_at i h) (only_root i h)

  -- a word that leads to the node of a place is related to the word of the place
  at_place : (u : Word) (i : ℕ) → IsElement empty k u → first_class empty ≤ i → i < length least
      → path g 0 (as_read backwards u) ≡ Some (node_at least i) → R u (word_at least i)
  at_place u i element first h e = (is.decides u (word_at least i) element (element_at i first h)).1 (node_at least i, e, are.leads i h)

  from_first : (u : Word) (i : ℕ) → IsElement empty k u → path g 0 (as_read backwards u) ≡ Some (node_at least i) → first_class empty ≤ i
  from_first u i element e =
      class_place empty k i u element
      (λ none zero. none_read backwards u
      (is.alone none (as_read backwards u) (e ∙ ap (λ j. Some (node_at least j)) zero ∙ ap (λ z. Some z) (sym root_node))))

  node_in : (u : Word) (o : Option ℕ) → path g 0 u ≡ o → unwrap_or o 0 < length g
  node_in u None e = is.graph.rooted
  node_in u (Some node) e = path_in k g is.graph 0 node u is.graph.rooted e

  reached_at : (u : Word) → IsElement empty k u → (i : ℕ) × (place_of g places (as_read backwards u) ≡ i) × (first_class empty ≤ i)
      × (i < length least) × R u (word_at least i)
  reached_at u element =
      let to = is.defined (as_read backwards u) (read_over backwards k u (element_over empty k u element)) in
      let f = place_in to.0 (path_in k g is.graph 0 to.0 (as_read backwards u) is.graph.rooted to.1) in
      let leads = to.1 ∙ ap (λ z. Some z) (sym f.3) in
      let first = from_first u f.0 element leads in
      (f.0, ap (λ o. slice_index places (unwrap_or o 0)) to.1 ∙ f.2, first, f.1, at_place u f.0 element first f.1 leads)

  -- the node to which a word leads has the place of the word
  node_of : (u : Word) → IsElement empty k u
      → (node : ℕ) × (path g 0 (as_read backwards u) ≡ Some node) × (node_at least (place_of g places (as_read backwards u)) ≡ node)
  node_of u element =
      let to = is.defined (as_read backwards u) (read_over backwards k u (element_over empty k u element)) in
      let f = place_in to.0 (path_in k g is.graph 0 to.0 (as_read backwards u) is.graph.rooted to.1) in
      (to.0, to.1, ap (λ o. node_at least (slice_index places (unwrap_or o 0))) to.1 ∙ ap (node_at least) f.2 ∙ f.3)

  abbrev place_for : Word → ℕ
  place_for u = place_of g places (as_read backwards u)

  -- words that lead to one node have one place, and only these
  by_places : (u v : Word) → IsElement empty k u → IsElement empty k v → R u v ↔ (place_for u ≡ place_for v)
  by_places u v left right = (
    λ h.
        let ends = (is.decides u v left right).0 h in
        ap (λ o. slice_index places (unwrap_or o 0)) (ends.1 ∙ sym ends.2),
    λ same.
        let one = node_of u left in
        let other = node_of v right in
        let node : other.0 ≡ one.0 = sym other.2 ∙ ap (node_at least) (sym same) ∙ one.2 in
        (is.decides u v left right).1 (one.0, one.1, other.1 ∙ ap (λ z. Some z) node),
  )

  -- the places of nodes are those of the list
  pub nodes_listed : (u : Word) → (unwrap_or (path g 0 u) 0 < length places) × (place_of g places u < length least)
  nodes_listed u =
      let within = node_in u (path g 0 u) refl in
      let f = place_in (unwrap_or (path g 0 u) 0) within in
      (omega (arith, within, at.count, are.count), subst (λ i. i < length least) (sym f.2) f.1)

  abbrev table : ℕ → CosetTable
  table letters = record { letters = letters; backwards = backwards; graph = g; least = least; places = places }

  pub solution : (letters : ℕ) → letters ≡ k → IsSolution R empty k (coset_list (table letters))
  solution letters same = record {
    among = among;
    letters = same;
    listing = record {
      over = λ i h. subst (λ n. IsOver n (word_at least i)) (sym same) (over_at i h);
      ascending = are.ascending;
      listed = λ u over. (nodes_listed (as_read backwards u)).1;
    };
    root = root;
    home = ap (λ w. place_of g places w) (read_none backwards) ∙ ap (slice_index places) root_node ∙ at.each 0 some;
    decides = by_places;
    classes = λ i first h. record {
      element = at_place (word_at least i) i (element_at i first h) first h (are.leads i h);
      none_less = λ v same less.
          let on = among (word_at least i) v same in
          let ends = (is.decides (word_at least i) v on.0 on.1).0 same in
          let here : node_at least i ≡ ends.0 = some_same (node_at least i) ends.0 (sym (are.leads i h) ∙ ends.1) in
          are.none_less i v h (ends.2 ∙ ap (λ z. Some z) (sym here)) less;
    };
    reached = λ u element.
        let f = reached_at u element in
        subst (λ i. (first_class empty ≤ i) × R u (word_at least i)) (sym f.1) (f.2, f.4);
  }

-- what is related are elements
pub related_elements : (p : Problem) (u v : Word) → SameClassOf p u v
    → IsElement (has_empty_word p) (count_of p) u × IsElement (has_empty_word p) (count_of p) v
related_elements (Presented p) u v h = (h.left, h.right)
related_elements (Transf p) u v h = (h.left, h.right)
related_elements (PPerm p) u v h = (h.left, h.right)
related_elements (BMat p) u v h = (h.left, h.right)
related_elements (MaxPlus p) u v h = (h.left, h.right)

pub solution_for : (p : Problem) (letters : ℕ) (g : Graph) (least : List (ℕ × Word)) (places : List ℕ) → IsGraphFor p g → IsGraph letters g
    → AreOrderedWords g (reads_backwards p) least → ArePlacesOf least places
    → IsSolutionFor p (coset_list (record { letters = letters; backwards = reads_backwards p; graph = g; least = least; places = places }))
solution_for p letters g least places is graph are at =
    solution (SameClassOf p) (has_empty_word p) (count_of p) (reads_backwards p) g least places (related_elements p) is are at letters
    (sym (graph.width 0 [] graph.rooted) ∙ is.graph.width 0 [] graph.rooted)

pub listed_for : (p : Problem) (g : Graph) (least : List (ℕ × Word)) (places : List ℕ) → IsGraphFor p g
    → AreOrderedWords g (reads_backwards p) least → ArePlacesOf least places → AreListed g places least
listed_for p g least places is are at =
    nodes_listed (SameClassOf p) (has_empty_word p) (count_of p) (reads_backwards p) g least places (related_elements p) is are at
