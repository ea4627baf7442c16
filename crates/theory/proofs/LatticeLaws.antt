-- The lattice of right congruences.
use Rattle.std.proofs.Common.{◌≡◌, ℕ, zero, suc, ◌<◌, ◌≤◌, List, [], ◌∷◌, ◌++◌, length, map, get_or, slice_get, refl, sym, ◌∙◌, ap, subst, subst₂, arith, ◌⊎◌, inl, inr, ◌↔◌, Option, Some, None, option_and_then, unwrap_or, Contains, append_assoc, append-nil, length-append}
use Rattle.std.proofs.lemmas.Bool.{cases_lt}
use Rattle.std.proofs.lemmas.List.{length-map, get_or-map}
use Rattle.theory.specs.Word.{Word, IsOver}
use Rattle.theory.specs.Congruence.{Presentation, AreElements}
use Rattle.theory.specs.Chain.{Joined}
use Rattle.theory.specs.Facts.{Merged}
use Rattle.theory.proofs.PartLaws.{given, symmetric, transitive, extended}
use Rattle.theory.specs.Graph.{Graph, target, path, SameEnd, IsGraph, IsComplete, IsCompleteTable, PathsRelate}
use Rattle.theory.specs.Facts.{AllDefined}
use Rattle.theory.specs.LowIndex.{Rows, graph_of, IsStandard, IsCompatible}
use Rattle.theory.specs.Lattice.{IsRightCongruence, Meet, Join, HasFreeRoot, IsProductOf, MergedAll, AreEdgePairs, MergedAt, HasBoth}
use Rattle.theory.proofs.Words.{over_append, over_right, strong_induction}
use Rattle.theory.proofs.Chains.{joined_refl, joined_symm, joined_trans, joined_one, joined_map, joined_least}
use Rattle.theory.proofs.Counting.{IsIn, in_from_contains, contains_from_in}
use Rattle.theory.proofs.Related.{element_over, side_element, none_either}
use Rattle.theory.proofs.FactsLaws.{follows_least, last_letter}
use Rattle.theory.proofs.GraphLaws.{path_append, path_front, path_letter, same_end_symm, same_end_trans, same_end_extended, complete_path, complete_all_defined}
use Rattle.theory.proofs.TableLaws.{target_within}

-- Tables.
get_past : {X : Type 0} (xs : List X) (i : ℕ) → length xs ≤ i → slice_get xs i ≡ None
get_past [] i h = refl
get_past (y ∷ xs) zero h = absurd (omega arith)
get_past (y ∷ xs) (suc i) h = get_past xs i (omega arith)

get_inside : {X : Type 0} (xs : List X) (i : ℕ) (d : X) → unwrap_or (slice_get xs i) d ≡ get_or xs i d
get_inside [] i d = refl
get_inside (y ∷ xs) zero d = refl
get_inside (y ∷ xs) (suc i) d = get_inside xs i d

-- an edge is of one of the letters, and from a node of the graph
pub edge_inside : (k : ℕ) (g : Graph) → IsGraph k g → (node letter next : ℕ) → target g node letter ≡ Some next → (node < length g) × (letter < k)
edge_inside k g is node letter next e = (inside, of_letter)
  where
    inside : node < length g
    inside = elim (cases_lt node (length g)) [
      | inl h ↦ h
      | inr h ↦
          let none : target g node letter ≡ None = ap (λ (row : Option (List (Option ℕ))). unwrap_or (slice_get (unwrap_or row []) letter) None) (get_past g node h) in
          let bad : None ≡ Some next = sym none ∙ e in cc
    ]

    of_letter : letter < k
    of_letter = elim (cases_lt letter k) [
      | inl h ↦ h
      | inr h ↦
          let row : unwrap_or (slice_get g node) [] ≡ get_or g node [] = get_inside g node [] in
          let wide : length (get_or g node []) ≡ k = is.width node [] inside in
          let none : target g node letter ≡ None = ap (λ (r : List (Option ℕ)). unwrap_or (slice_get r letter) None) row
          ∙ ap (λ (t : Option (Option ℕ)). unwrap_or t None) (get_past (get_or g node []) letter (omega (arith, wide))) in
          let bad : None ≡ Some next = sym none ∙ e in cc
    ]

-- a word with a path is one over the letters
pub path_over : (k : ℕ) (g : Graph) → IsGraph k g → (u : Word) (node m : ℕ) → path g node u ≡ Some m → IsOver k u
path_over k g is [] node m e = tt
path_over k g is (a ∷ u) node m e = go (target g node a) refl e (λ next. path_over k g is u next m)
  where
    go : (t : Option ℕ) → target g node a ≡ t → option_and_then (λ next. path g next u) t ≡ Some m
        → ((next : ℕ) → path g next u ≡ Some m → IsOver k u) → IsOver k (a ∷ u)
    go None d e further = cc
    go (Some next) d e further = ((edge_inside k g is node a next d).1, further next e)

-- paths stay inside
pub path_inside : (k : ℕ) (g : Graph) → IsGraph k g → (u : Word) (node m : ℕ) → node < length g → path g node u ≡ Some m → m < length g
path_inside k g is [] node m h e = let same : node ≡ m = cc in subst (λ x. x < length g) same h
path_inside k g is (a ∷ u) node m h e = go (target g node a) refl e (λ next. path_inside k g is u next m)
  where
    go : (t : Option ℕ) → target g node a ≡ t → option_and_then (λ next. path g next u) t ≡ Some m
        → ((next : ℕ) → next < length g → path g next u ≡ Some m → m < length g) → m < length g
    go None d e further = cc
    go (Some next) d e further = further next (is.nodes node a next d) e

some_one : (a b : ℕ) (o : Option ℕ) → o ≡ Some a → o ≡ Some b → a ≡ b
some_one a b o h e = let d : Some a ≡ Some b = sym h ∙ e in cc

-- a standard table is a table
pub standard_table : (k : ℕ) (rows : Rows) → IsStandard k rows → IsCompleteTable k (graph_of rows)
standard_table k rows h = record { graph = graph; complete = complete; reached = λ node l. strong_induction Reached step node (inside node l) }
  where
    size : length (graph_of rows) ≡ length rows
    size = length-map rows (map Some)

    inside : (node : ℕ) → node < length (graph_of rows) → node < length rows
    inside node l = omega (arith, l, size)

    width : (n : ℕ) (d : List (Option ℕ)) → n < length (graph_of rows) → length (get_or (graph_of rows) n d) ≡ k
    width n d l =
        ap length (get_or-map (map Some) rows n [] d (inside n l)) ∙ length-map (get_or rows n []) Some ∙ h.width n [] (inside n l)

    graph : IsGraph k (graph_of rows)
    graph = record {
      rooted = omega (arith, h.rooted, size);
      width = width;
      nodes = λ node letter next e. let l = target_within (length rows) rows node letter next h.nodes e in omega (arith, l, size);
    }

    entry_is : (row : List ℕ) (a : ℕ) → a < length row → unwrap_or (slice_get (map Some row) a) None ≡ Some (get_or row a 0)
    entry_is [] a l = absurd (omega arith)
    entry_is (x ∷ row) zero l = refl
    entry_is (x ∷ row) (suc a) l = entry_is row a (omega arith)

    edge_at : (rows : Rows) (n a : ℕ) → n < length rows → a < length (get_or rows n []) → target (graph_of rows) n a ≡ Some (get_or (get_or rows n []) a 0)
    edge_at [] n a l m = absurd (omega arith)
    edge_at (row ∷ rows) zero a l m = entry_is row a m
    edge_at (row ∷ rows) (suc n) a l m = edge_at rows n a (omega arith) m

    complete : IsComplete k (graph_of rows)
    complete n a l m =
        let wide : length (get_or rows n []) ≡ k = h.width n [] (inside n l) in
        (get_or (get_or rows n []) a 0, edge_at rows n a (inside n l) (omega (arith, wide, m)))

    Reached : ℕ → Type 0
    Reached node = node < length rows → (u : Word) × IsOver k u × (path (graph_of rows) 0 u ≡ Some node)

    step : (node : ℕ) → ((m : ℕ) → m < node → Reached m) → Reached node
    step node lower l = elim (cases_lt 0 node) [
      | inr root ↦ let same : 0 ≡ node = omega arith in ([], tt, ap (λ n. Some n) same)
      | inl some ↦
          let at = h.appears node some l in
          let before = lower at.0 at.2 (omega (arith, at.2, l)) in (
            before.0 ++ at.1 ∷ [],
            over_append k before.0 (at.1 ∷ []) before.1 ((edge_inside k (graph_of rows) graph at.0 at.1 node at.3).1, tt),
            path_append (graph_of rows) 0 at.0 before.0 (at.1 ∷ []) before.2 ∙ path_letter (graph_of rows) at.0 at.1 ∙ at.3,
          )
    ]

-- A table's path equality, the meet and the join are right congruences.
pub table_congruence : (k : ℕ) (g : Graph) → IsCompleteTable k g → IsRightCongruence k (SameEnd g)
table_congruence k g is = record {
  over = λ u v h. (path_over k g is.graph u 0 h.0 h.1, path_over k g is.graph v 0 h.0 h.2);
  reflexive = complete_all_defined k g is.graph is.complete;
  symmetric = same_end_symm g;
  transitive = same_end_trans g;
  kept = λ u v y over h.
      same_end_extended g u v y h
      (complete_all_defined k g is.graph is.complete (u ++ y) (over_append k u y (path_over k g is.graph u 0 h.0 h.1) over));
}

both_congruence : (k : ℕ) (A B : Word → Word → Type 0) → IsRightCongruence k A → IsRightCongruence k B → IsRightCongruence k (λ u v. A u v × B u v)
both_congruence k A B a b = record {
  over = λ u v h. a.over u v h.0;
  reflexive = λ u over. (a.reflexive u over, b.reflexive u over);
  symmetric = λ u v h. (a.symmetric u v h.0, b.symmetric u v h.1);
  transitive = λ u v w h j. (a.transitive u v w h.0 j.0, b.transitive u v w h.1 j.1);
  kept = λ u v y over h. (a.kept u v y over h.0, b.kept u v y over h.1);
}

pub meet_congruence : (k : ℕ) (s t : Graph) → IsCompleteTable k s → IsCompleteTable k t → IsRightCongruence k (Meet s t)
meet_congruence k s t hs ht = both_congruence k (SameEnd s) (SameEnd t) (table_congruence k s hs) (table_congruence k t ht)

pub join_congruence : (k : ℕ) (s t : Graph) → IsCompleteTable k s → IsCompleteTable k t → IsRightCongruence k (Join k s t)
join_congruence k s t hs ht = record {
  over = λ u v h. (h.left, h.right);
  reflexive = λ u over. record { left = over; right = over; related = joined_refl One u };
  symmetric = λ u v h. record { left = h.right; right = h.left; related = joined_symm One turn u v h.related };
  transitive = λ u v w h j. record { left = h.left; right = j.right; related = joined_trans One u v w h.related j.related };
  kept = λ u v y over h. record {
    left = over_append k u y h.left over;
    right = over_append k v y h.right over;
    related = joined_map One One (λ w. w ++ y) (behind y over) u v h.related;
  };
}
  where
    One : Word → Word → Type 0
    One u v = SameEnd s u v ⊎ SameEnd t u v

    turn : (u v : Word) → SameEnd s u v ⊎ SameEnd t u v → SameEnd s v u ⊎ SameEnd t v u
    turn u v h = elim h [ inl a ↦ inl (same_end_symm s u v a) | inr b ↦ inr (same_end_symm t u v b) ]

    behind : (y : Word) → IsOver k y → (u v : Word) → SameEnd s u v ⊎ SameEnd t u v → SameEnd s (u ++ y) (v ++ y) ⊎ SameEnd t (u ++ y) (v ++ y)
    behind y over u v h = elim h [
      | inl a ↦ inl ((table_congruence k s hs).kept u v y over a)
      | inr b ↦ inr ((table_congruence k t ht).kept u v y over b)
    ]

-- the join has both, and is the least right congruence that has both
pub join_has_left : (k : ℕ) (s t : Graph) → IsCompleteTable k s → (u v : Word) → SameEnd s u v → Join k s t u v
join_has_left k s t hs u v h =
    let over = (table_congruence k s hs).over u v h in
    record { left = over.0; right = over.1; related = joined_one (λ u v. SameEnd s u v ⊎ SameEnd t u v) u v (inl h) }

pub join_has_right : (k : ℕ) (s t : Graph) → IsCompleteTable k t → (u v : Word) → SameEnd t u v → Join k s t u v
join_has_right k s t ht u v h =
    let over = (table_congruence k t ht).over u v h in
    record { left = over.0; right = over.1; related = joined_one (λ u v. SameEnd s u v ⊎ SameEnd t u v) u v (inr h) }

pub join_least : (k : ℕ) (s t : Graph) (R : Word → Word → Type 0) → IsRightCongruence k R → ((u v : Word) → SameEnd s u v → R u v)
    → ((u v : Word) → SameEnd t u v → R u v) → (u v : Word) → Join k s t u v → R u v
join_least k s t R is left right u v h =
    joined_least (λ u v. SameEnd s u v ⊎ SameEnd t u v) (λ u v. IsOver k u → R u v) is.reflexive
    (λ u v w f g over. let one = f over in is.transitive u v w one (g (is.over u v one).1))
    (λ u v e over. elim e [ inl a ↦ left u v a | inr b ↦ right u v b ]) u v h.related h.left

-- A table that shows a right congruence in which u r and u s are related for each word u has both lead from each node to one node.
shown_node : (k : ℕ) (g : Graph) → IsCompleteTable k g → (r q : Word) → ((u : Word) → IsOver k u → SameEnd g (u ++ r) (u ++ q)) → (node : ℕ)
    → node < length g → path g node r ≡ path g node q
shown_node k g is r q same node h =
    let at = is.reached node h in
    let both = same at.0 at.1 in
    sym (path_append g 0 node at.0 r at.2) ∙ both.1 ∙ sym both.2 ∙ path_append g 0 node at.0 q at.2

-- and the other way about
node_shown : (k : ℕ) (g : Graph) → IsCompleteTable k g → (r q : Word) → IsOver k r → ((node : ℕ) → node < length g → path g node r ≡ path g node q)
    → (u : Word) → IsOver k u → SameEnd g (u ++ r) (u ++ q)
node_shown k g is r q over same u hu =
    let at = complete_path k g is.graph is.complete u 0 is.graph.rooted hu in
    let inside = path_inside k g is.graph u 0 at.0 is.graph.rooted at.1 in
    let end = complete_path k g is.graph is.complete r at.0 inside over in (
      end.0,
      path_append g 0 at.0 u r at.1 ∙ end.1,
      path_append g 0 at.0 u q at.1 ∙ sym (same at.0 inside) ∙ end.1,
    )

-- where both tables meet a relation at each node, so does the meet; where one does, so does the join
module _ (k : ℕ) (s t g : Graph) (hs : IsCompleteTable k s) (ht : IsCompleteTable k t) (hg : IsCompleteTable k g) (r q : Word) (over : IsOver k r) where
  pub meet_keeps : PathsRelate g (Meet s t) → ((node : ℕ) → node < length s → path s node r ≡ path s node q)
      → ((node : ℕ) → node < length t → path t node r ≡ path t node q) → (node : ℕ) → node < length g → path g node r ≡ path g node q
  meet_keeps shown in_s in_t =
      shown_node k g hg r q (λ u hu. (shown (u ++ r) (u ++ q)).1 (node_shown k s hs r q over in_s u hu, node_shown k t ht r q over in_t u hu))

  pub join_keeps : PathsRelate g (Join k s t) → ((node : ℕ) → node < length s → path s node r ≡ path s node q)
      → (node : ℕ) → node < length g → path g node r ≡ path g node q
  join_keeps shown in_s =
      shown_node k g hg r q
      (λ u hu. (shown (u ++ r) (u ++ q)).1 (join_has_left k s t hs (u ++ r) (u ++ q) (node_shown k s hs r q over in_s u hu)))

-- the same for the relations of a presentation, by rows
compatible_graph : (p : Presentation) (rows : Rows) → IsCompatible p rows → (r q : Word) → Contains p.relations (r, q) → (node : ℕ)
    → node < length (graph_of rows) → path (graph_of rows) node r ≡ path (graph_of rows) node q
compatible_graph p rows h r q m node l = h node r q (omega (arith, l, length-map rows (map Some))) m

relation_over : (p : Presentation) → AreElements p.is_monoid p.letters p.relations → (r q : Word) → Contains p.relations (r, q) → IsOver p.letters r
relation_over p is r q m = element_over p.is_monoid p.letters r (side_element p.is_monoid p.letters p.relations r q is (inl m)).0

pub meet_compatible : (p : Presentation) → AreElements p.is_monoid p.letters p.relations → (s t rows : Rows) → IsStandard p.letters s
    → IsStandard p.letters t → IsStandard p.letters rows → PathsRelate (graph_of rows) (Meet (graph_of s) (graph_of t)) → IsCompatible p s
    → IsCompatible p t → IsCompatible p rows
meet_compatible p is s t rows hs ht hr shown cs ct node r q l m =
    meet_keeps p.letters (graph_of s) (graph_of t) (graph_of rows) (standard_table p.letters s hs) (standard_table p.letters t ht)
    (standard_table p.letters rows hr) r q (relation_over p is r q m) shown (compatible_graph p s cs r q m) (compatible_graph p t ct r q m) node
    (omega (arith, l, length-map rows (map Some)))

pub join_compatible : (p : Presentation) → AreElements p.is_monoid p.letters p.relations → (s t rows : Rows) → IsStandard p.letters s
    → IsStandard p.letters t → IsStandard p.letters rows → PathsRelate (graph_of rows) (Join p.letters (graph_of s) (graph_of t))
    → IsCompatible p s → IsCompatible p rows
join_compatible p is s t rows hs ht hr shown cs node r q l m =
    join_keeps p.letters (graph_of s) (graph_of t) (graph_of rows) (standard_table p.letters s hs) (standard_table p.letters t ht)
    (standard_table p.letters rows hr) r q (relation_over p is r q m) shown (compatible_graph p s cs r q m) node
    (omega (arith, l, length-map rows (map Some)))

-- With a free root the empty word is related to itself alone, and the other way about.
pub free_root_alone : (g : Graph) → HasFreeRoot g → (u : Word) → SameEnd g [] u → u ≡ []
free_root_alone g free u h = go (last_letter u)
  where
    root : path g 0 u ≡ Some 0
    root = h.2 ∙ sym h.1

    go : (u ≡ []) ⊎ ((v : Word) × (a : ℕ) × (u ≡ v ++ a ∷ [])) → u ≡ []
    go (inl e) = e
    go (inr l) =
        let at = path_front g 0 0 l.0 (l.1 ∷ []) (ap (path g 0) (sym l.2) ∙ root) in
        absurd (free at.0 l.1 (sym (path_letter g at.0 l.1) ∙ at.2))

alone_free_root : (k : ℕ) (g : Graph) → IsCompleteTable k g → ((u : Word) → SameEnd g [] u → u ≡ []) → HasFreeRoot g
alone_free_root k g is alone node letter e =
    let at = is.reached node (edge_inside k g is.graph node letter 0 e).0 in
    let none = alone (at.0 ++ letter ∷ []) (0, refl, path_append g 0 node at.0 (letter ∷ []) at.2 ∙ path_letter g node letter ∙ e) in
    omega (arith, ap length none, length-append at.0 (letter ∷ []))

pub meet_free : (k : ℕ) (s t g : Graph) → IsCompleteTable k g → PathsRelate g (Meet s t) → HasFreeRoot s → HasFreeRoot g
meet_free k s t g is shown free = alone_free_root k g is (λ u h. free_root_alone s free u ((shown [] u).0 h).0)

pub join_free : (k : ℕ) (s t g : Graph) → IsCompleteTable k g → PathsRelate g (Join k s t) → HasFreeRoot s → HasFreeRoot t → HasFreeRoot g
join_free k s t g is shown free_s free_t = alone_free_root k g is (λ u h. chain [] u ((shown [] u).0 h).related refl)
  where
    chain : (x y : Word) → Joined (λ u v. SameEnd s u v ⊎ SameEnd t u v) x y → x ≡ [] → y ≡ []
    chain =
        joined_least (λ u v. SameEnd s u v ⊎ SameEnd t u v) (λ x y. x ≡ [] → y ≡ []) (λ x e. e) (λ x y z f h e. h (f e))
        (λ x y h e. elim h [
          | inl a ↦ free_root_alone s free_s y (subst (λ w. SameEnd s w y) e a)
          | inr b ↦ free_root_alone t free_t y (subst (λ w. SameEnd t w y) e b)
        ])

-- A product of tables shows the meet.
module _ (k : ℕ) (s t g : Graph) (left right : ℕ → ℕ) (is : IsGraph k g) (product : IsProductOf s t g left right) where
  product_path : (u : Word) (node m : ℕ) → path g node u ≡ Some m → (path s (left node) u ≡ Some (left m)) × (path t (right node) u ≡ Some (right m))
  product_path [] node m e = let same : node ≡ m = cc in (ap (λ n. Some (left n)) same, ap (λ n. Some (right n)) same)
  product_path (a ∷ u) node m e = go (target g node a) refl e (λ next. product_path u next m)
    where
      go : (x : Option ℕ) → target g node a ≡ x → option_and_then (λ next. path g next u) x ≡ Some m
          → ((next : ℕ) → path g next u ≡ Some m → (path s (left next) u ≡ Some (left m)) × (path t (right next) u ≡ Some (right m)))
          → (path s (left node) (a ∷ u) ≡ Some (left m)) × (path t (right node) (a ∷ u) ≡ Some (right m))
      go None d e further = cc
      go (Some next) d e further =
          let edge = product.edges node a next d in
          let rest = further next e in (
            ap (option_and_then (λ x. path s x u)) edge.0 ∙ rest.0,
            ap (option_and_then (λ x. path t x u)) edge.1 ∙ rest.1,
          )

  product_ends : (u : Word) (m : ℕ) → path g 0 u ≡ Some m → (path s 0 u ≡ Some (left m)) × (path t 0 u ≡ Some (right m))
  product_ends u m e =
      let both = product_path u 0 m e in
      (ap (λ x. path s x u) (sym product.left_root) ∙ both.0, ap (λ x. path t x u) (sym product.right_root) ∙ both.1)

  pub product_meet : IsComplete k g → IsCompleteTable k s → PathsRelate g (Meet s t)
  product_meet complete hs u v = (to, from)
    where
      to : SameEnd g u v → Meet s t u v
      to h =
          let one = product_ends u h.0 h.1 in
          let two = product_ends v h.0 h.2 in
          ((left h.0, one.0, two.0), (right h.0, one.1, two.1))

      from : Meet s t u v → SameEnd g u v
      from h =
          let over = (table_congruence k s hs).over u v h.0 in
          let first = complete_path k g is complete u 0 is.rooted over.0 in
          let second = complete_path k g is complete v 0 is.rooted over.1 in
          let one = product_ends u first.0 first.1 in
          let two = product_ends v second.0 second.1 in
          let on_left : left first.0 ≡ left second.0 =
          some_one (left first.0) h.0.0 (path s 0 u) one.0 h.0.1 ∙ some_one h.0.0 (left second.0) (path s 0 v) h.0.2 two.0 in
          let on_right : right first.0 ≡ right second.0 =
          some_one (right first.0) h.1.0 (path t 0 u) one.1 h.1.1 ∙ some_one h.1.0 (right second.0) (path t 0 v) h.1.2 two.1 in
          let same : first.0 ≡ second.0 = product.apart first.0 second.0 (path_inside k g is u 0 first.0 is.rooted first.1)
          (path_inside k g is v 0 second.0 is.rooted second.1) on_left on_right in
          (second.0, first.1 ∙ ap (λ x. Some x) same, second.1)

-- Merging shows the join.
-- a merge gives no more than each right congruence that has both, and is a right congruence
merged_least : (k : ℕ) (V R : Word → Word → Type 0) (x y : Word) → IsRightCongruence k R → ((u v : Word) → V u v → R u v) → R x y → (u v : Word)
    → Merged V x y u v → R u v
merged_least k V R x y is has one u v =
    follows_least [] [] (λ u v. V u v ⊎ ((u ≡ x) × (v ≡ y))) (λ w. ⊥) R (record {
      given = λ u v h. elim h [ inl a ↦ has u v a | inr e ↦ subst₂ (λ p q. R p q) (sym e.0) (sym e.1) one ];
      symmetric = is.symmetric;
      transitive = is.transitive;
      extended = λ u v a h l. is.kept u v (a ∷ []) (over_right k u (a ∷ []) (is.over (u ++ a ∷ []) (u ++ a ∷ []) l).0) h;
      relation = λ u w r q a h m e l j. absurd m;
      pair = λ r q a e l j. absurd (none_either r (q ++ a ∷ []) e);
    })

merged_congruence : (k : ℕ) (V : Word → Word → Type 0) (x y : Word) → IsRightCongruence k V → IsOver k x → IsOver k y
    → IsRightCongruence k (Merged V x y)
merged_congruence k V x y is hx hy = record {
  over = over;
  reflexive = same;
  symmetric = λ u v h. symmetric h;
  transitive = λ u v w h j. transitive h j;
  kept = λ u v z. behind z u v;
}
  where
    same : (u : Word) → IsOver k u → Merged V x y u u
    same u h = given (inl (is.reflexive u h))

    over : (u v : Word) → Merged V x y u v → IsOver k u × IsOver k v
    over u v =
        follows_least [] [] (λ u v. V u v ⊎ ((u ≡ x) × (v ≡ y))) (λ w. ⊥) (λ u v. IsOver k u × IsOver k v) (record {
          given = λ u v h. elim h [
            | inl a ↦ is.over u v a
            | inr e ↦ (subst (λ w. IsOver k w) (sym e.0) hx, subst (λ w. IsOver k w) (sym e.1) hy)
          ];
          symmetric = λ u v h. (h.1, h.0);
          transitive = λ u v w h j. (h.0, j.1);
          extended = λ u v a h l. (l.0, over_append k v (a ∷ []) h.1 (over_right k u (a ∷ []) l.0));
          relation = λ u w r q a h m e l j. absurd m;
          pair = λ r q a e l j. absurd (none_either r (q ++ a ∷ []) e);
        })

    behind : (z u v : Word) → IsOver k z → Merged V x y u v → Merged V x y (u ++ z) (v ++ z)
    behind [] u v hz h = subst₂ (λ p q. Merged V x y p q) (sym (append-nil u)) (sym (append-nil v)) h
    behind (a ∷ z) u v hz h =
        subst₂ (λ p q. Merged V x y p q) (append_assoc u (a ∷ []) z) (append_assoc v (a ∷ []) z)
        (behind z (u ++ a ∷ []) (v ++ a ∷ []) hz.1
        (extended u v a h (same (u ++ a ∷ []) (over_append k u (a ∷ []) (over u v h).0 (hz.0, tt)))))

-- all merges together
record IsMergedTo (k : ℕ) (V : Word → Word → Type 0) (pairs : List (Word × Word)) : Type 0 where
  congruence : IsRightCongruence k (MergedAll V pairs)
  more : (u v : Word) → V u v → MergedAll V pairs u v
  all : (u v : Word) → IsIn (u, v) pairs → MergedAll V pairs u v

merged_all : (k : ℕ) (V : Word → Word → Type 0) (pairs : List (Word × Word)) → IsRightCongruence k V
    → ((u v : Word) → IsIn (u, v) pairs → IsOver k u × IsOver k v) → IsMergedTo k V pairs
merged_all k V [] is over = record { congruence = is; more = λ u v h. h; all = λ u v m. absurd m }
merged_all k V (p ∷ pairs) is over =
    let first = over p.0 p.1 (inl refl) in
    let rest = merged_all k (Merged V p.0 p.1) pairs (merged_congruence k V p.0 p.1 is first.0 first.1) (λ u v m. over u v (inr m)) in
    record {
      congruence = rest.congruence;
      more = λ u v h. rest.more u v (given (inl h));
      all = λ u v m. elim m [
        | inl e ↦ rest.more u v (given (inr (ap (λ (x : Word × Word). x.0) e, ap (λ (x : Word × Word). x.1) e)))
        | inr n ↦ rest.all u v n
      ];
    }

merged_all_least : (k : ℕ) (V R : Word → Word → Type 0) (pairs : List (Word × Word)) → IsRightCongruence k R → ((u v : Word) → V u v → R u v)
    → ((u v : Word) → IsIn (u, v) pairs → R u v) → (u v : Word) → MergedAll V pairs u v → R u v
merged_all_least k V R [] is has one u v h = has u v h
merged_all_least k V R (p ∷ pairs) is has one u v h =
    merged_all_least k (Merged V p.0 p.1) R pairs is (merged_least k V R p.0 p.1 is has (one p.0 p.1 (inl refl))) (λ x y m. one x y (inr m)) u v h

-- a right congruence that has a table's edges has its path equality
pub edges_relate : (k : ℕ) (t : Graph) (word : ℕ → Word) (R : Word → Word → Type 0) → IsCompleteTable k t → IsRightCongruence k R → word 0 ≡ []
    → ((node letter next : ℕ) → node < length t → letter < k → target t node letter ≡ Some next → R (word node) (word node)
    → R (word node ++ letter ∷ []) (word next))
    → (u v : Word) → SameEnd t u v → R u v
edges_relate k t word R is right start edges u v e =
    right.transitive u (word e.0) v (leads u e.0 e.1) (right.symmetric v (word e.0) (leads v e.0 e.2))
  where
    root : R (word 0) (word 0)
    root = subst (λ w. R w w) (sym start) (right.reflexive [] tt)

    from : (u : Word) (node m : ℕ) → node < length t → R (word node) (word node) → path t node u ≡ Some m → R (word node ++ u) (word m)
    from [] node m l here e = let same : node ≡ m = cc in subst₂ (λ p n. R p (word n)) (sym (append-nil (word node))) same here
    from (a ∷ u) node m l here e = go (target t node a) refl e (λ next. from u next m)
      where
        go : (x : Option ℕ) → target t node a ≡ x → option_and_then (λ next. path t next u) x ≡ Some m
            → ((next : ℕ) → next < length t → R (word next) (word next) → path t next u ≡ Some m → R (word next ++ u) (word m))
            → R (word node ++ a ∷ u) (word m)
        go None d e further = cc
        go (Some next) d e further =
            let letter = (edge_inside k t is.graph node a next d).1 in
            let over = path_over k t is.graph (a ∷ u) node m (ap (option_and_then (λ x. path t x u)) d ∙ e) in
            let edge : R (word node ++ a ∷ []) (word next) = edges node a next l letter d here in
            let there : R (word next) (word next) =
            right.transitive (word next) (word node ++ a ∷ []) (word next) (right.symmetric (word node ++ a ∷ []) (word next) edge) edge in
            right.transitive (word node ++ a ∷ u) (word next ++ u) (word m)
            (subst (λ w. R w (word next ++ u)) (append_assoc (word node) (a ∷ []) u) (right.kept (word node ++ a ∷ []) (word next) u over.1 edge))
            (further next (is.graph.nodes node a next d) there e)

    leads : (u : Word) (m : ℕ) → path t 0 u ≡ Some m → R u (word m)
    leads u m e = subst (λ w. R (w ++ u) (word m)) start (from u 0 m is.graph.rooted root e)

pub pairs_relate : (k : ℕ) (t : Graph) (word : ℕ → Word) (pairs : List (Word × Word)) (R : Word → Word → Type 0) → IsCompleteTable k t
    → AreEdgePairs k t word pairs → IsRightCongruence k R → ((u v : Word) → Contains pairs (u, v) → R u v) → (u v : Word) → SameEnd t u v → R u v
pairs_relate k t word pairs R is h right one =
    edges_relate k t word R is right h.root
    (λ node letter next l m e here. elim (h.edges node letter next l m e) [
      | inl same ↦ subst (λ w. R (word node ++ letter ∷ []) w) same (right.kept (word node) (word node) (letter ∷ []) (m, tt) here)
      | inr pair ↦ one (word node ++ letter ∷ []) (word next) pair
    ])

-- merging the edges of one table into the other gives the join
pub merging_joins : (k : ℕ) (s t : Graph) (word : ℕ → Word) (pairs : List (Word × Word)) → IsCompleteTable k s → IsCompleteTable k t → AreEdgePairs k t word pairs
    → (u v : Word) → MergedAll (SameEnd s) pairs u v ↔ Join k s t u v
merging_joins k s t word pairs hs ht h u v = (
  merged_all_least k (SameEnd s) (Join k s t) pairs (join_congruence k s t hs ht) (join_has_left k s t hs)
      (λ x y m. join_has_right k s t ht x y (h.related x y (contains_from_in (x, y) pairs m))) u v,
  join_least k s t (MergedAll (SameEnd s) pairs) merged.congruence merged.more
      (pairs_relate k t word pairs (MergedAll (SameEnd s) pairs) ht h merged.congruence (λ x y m. merged.all x y (in_from_contains (x, y) pairs m))) u v,
)
  where
    merged : IsMergedTo k (SameEnd s) pairs
    merged =
        merged_all k (SameEnd s) pairs (table_congruence k s hs)
        (λ x y m. (table_congruence k t ht).over x y (h.related x y (contains_from_in (x, y) pairs m)))

-- Merging in a graph, node by node.
-- a graph in which all words are defined relates them by a right congruence
defined_congruence : (k : ℕ) (g : Graph) → IsGraph k g → AllDefined k (SameEnd g) → IsRightCongruence k (SameEnd g)
defined_congruence k g is all = record {
  over = λ u v h. (path_over k g is u 0 h.0 h.1, path_over k g is v 0 h.0 h.2);
  reflexive = all;
  symmetric = same_end_symm g;
  transitive = same_end_trans g;
  kept = λ u v y over h. same_end_extended g u v y h (all (u ++ y) (over_append k u y (path_over k g is u 0 h.0 h.1) over));
}

-- a graph that has both tables, and no more than the join, shows the join
pub has_both_joins : (k : ℕ) (s t g : Graph) (word : ℕ → Word) → IsCompleteTable k s → IsCompleteTable k t → IsGraph k g → HasBoth k s t g word
    → ((u v : Word) → SameEnd g u v → Join k s t u v) → PathsRelate g (Join k s t)
has_both_joins k s t g word hs ht is h within u v = (
  within u v,
  join_least k s t (SameEnd g) known h.has
      (edges_relate k t word (SameEnd g) ht known h.root (λ node letter next l m e here. h.edges node letter next l m e)) u v,
)
  where
    known : IsRightCongruence k (SameEnd g)
    known = defined_congruence k g is (λ w over. h.has w w ((table_congruence k s hs).reflexive w over))

-- merging the nodes to which related words lead gives no more than the join
pub merged_within_join : (k : ℕ) (s t g : Graph) (x y : ℕ) (p q : Word) → IsCompleteTable k s → IsCompleteTable k t
    → ((u v : Word) → SameEnd g u v → Join k s t u v) → path g 0 p ≡ Some x → path g 0 q ≡ Some y → Join k s t p q → (u v : Word)
    → MergedAt g x y u v → Join k s t u v
merged_within_join k s t g x y p q hs ht within ep eq related u v =
    follows_least [] [] (λ u v. SameEnd g u v ⊎ ((path g 0 u ≡ Some x) × (path g 0 v ≡ Some y))) (λ w. ⊥) (Join k s t) (record {
      given = λ u v h. elim h [
        | inl a ↦ within u v a
        | inr e ↦ known.transitive u p v (within u p (x, e.0, ep)) (known.transitive p q v related (within q v (y, eq, e.1)))
      ];
      symmetric = known.symmetric;
      transitive = known.transitive;
      extended = λ u v a h l. known.kept u v (a ∷ []) (over_right k u (a ∷ []) l.left) h;
      relation = λ u w r q a h m e l j. absurd m;
      pair = λ r q a e l j. absurd (none_either r (q ++ a ∷ []) e);
    })
  where
    known : IsRightCongruence k (Join k s t)
    known = join_congruence k s t hs ht

-- and keeps what was related
pub merged_has : (g : Graph) (x y : ℕ) (p q : Word) → path g 0 p ≡ Some x → path g 0 q ≡ Some y
    → ((u v : Word) → SameEnd g u v → MergedAt g x y u v) × MergedAt g x y p q
merged_has g x y p q ep eq = (λ u v h. given (inl h), given (inr (ep, eq)))
