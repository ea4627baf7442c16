-- The product of two tables.
use Rattle.std.proofs.Common.{◌≡◌, ◌≢◌, ℕ, zero, suc, ◌+◌, ◌*◌, ◌/◌, ◌%◌, ◌<◌, ◌≤◌, ◌==◌, Bool, true, false, not, if◌then◌else◌, List, [], ◌∷◌, ◌++◌, length, get_or, slice_get, slice_index, eqb, refl, sym, ◌∙◌, ap, ap₂, subst, subst₂, arith, inl, inr, ◌⊎◌, Option, None, Some, Ok, Err, IfOk, replicate, set, length-append, length-set}
use Rattle.std.proofs.Math.Nat.{div-add-mod, div-lt_iff_lt-mul, mul_comm, zero-div, zero-mod}
use Rattle.std.specs.Prelude.{Result}
use Rattle.std.specs.Option.{unwrap_or}
use Rattle.std.specs.List.{AllByRecursion, IsDistinct, list_any}
use Rattle.std.proofs.lemmas.Bool.{cases_lt, eqb-true, or_cases}
use Rattle.std.proofs.lemmas.Bool.Decides.{Decides-eqb}
use Rattle.std.proofs.lemmas.Map.Steps.{length-le_from_distinct_below}
use Rattle.std.proofs.lemmas.Nat.{div-mul-add, mod-mul-add, mod_below, mul-add-lt}
use Rattle.theory.specs.Facts.{AllDefined}
use Rattle.theory.specs.Graph.{Graph, target, IsCompleteTable, IsGraph, PathsRelate, SameEnd, Shows}
use Rattle.theory.specs.Lattice.{Meet}
use Rattle.theory.proofs.GraphLaws.{complete_all_defined}
use Rattle.theory.proofs.LatticeLaws.{product_meet, standard_table}
use Rattle.word_graph.specs.Edges.{with_edge, with_node}
use Rattle.word_graph.specs.Standard.{IsStandardGraph}
use Rattle.word_graph.specs.Walk.{IsBefore}
use Rattle.word_graph.proofs.EdgeLaws.{graph_edged, target_edged, target_in, target_other}
use Rattle.coincidence.proofs.TableLaws.{root_graph}
use Rattle.cells.proofs.EntryLaws.{node_graph, target_bare, target_node}
use Rattle.lattice.specs.Products.{HasNode, IsBegun, IsProduct, IsStep}
use Rattle.lattice.specs.Tables.{AreTables, IsTableOf}

pub table_of : (k : ℕ) (g : Graph) → IsStandardGraph k g → IsCompleteTable k g
table_of k g is = subst (IsCompleteTable k) (sym is.is) (standard_table k is.rows is.standard)

-- what is found at an edge that is there
edge_at : (g : Graph) (node letter to : ℕ) → (next : ℕ) × (target g node letter ≡ Some next) → to ≡ unwrap_or (target g node letter) 0 → target g node letter ≡ Some to
edge_at g node letter to e is = e.1 ∙ ap (λ n. Some n) (sym (is ∙ ap (λ o. unwrap_or o 0) e.1))

module _ (k : ℕ) (s t : Graph) (both : AreTables k s t) (pair letter : ℕ) (within : pair < length s * length t) (small : letter < k) where
  some : 0 < length t
  some = (table_of k t both.right).graph.rooted

  first_in : pair / length t < length s
  first_in = (div-lt_iff_lt-mul some).1 within

  second_in : pair % length t < length t
  second_in = mod_below pair (length t) some

  -- the numbers to which the edges lead make the number of a pair
  pub stepped : (l r : ℕ) → l ≡ unwrap_or (target s (pair / length t) letter) 0 → r ≡ unwrap_or (target t (pair % length t) letter) 0
      → (l * length t + r < length s * length t) × IsStep s t pair letter (l * length t + r)
  stepped l r at_left at_right =
      let one = edge_at s (pair / length t) letter l ((table_of k s both.left).complete (pair / length t) letter first_in small) at_left in
      let two = edge_at t (pair % length t) letter r ((table_of k t both.right).complete (pair % length t) letter second_in small) at_right in
      let low : l < length s = (target_in k s (table_of k s both.left).graph (pair / length t) letter l one).2 in
      let high : r < length t = (target_in k t (table_of k t both.right).graph (pair % length t) letter r two).2 in (
        subst (λ n. l * length t + r < n) (mul_comm (length t) (length s)) (mul-add-lt l (length t) r (length s) low high),
        record {
          left = one ∙ ap (λ n. Some n) (sym (div-mul-add l (length t) r high));
          right = two ∙ ap (λ n. Some n) (sym (mod-mul-add l (length t) r high));
        },
      )

-- one more at the end
slice_front : (xs : List ℕ) (x i : ℕ) → i < length xs → slice_index (xs ++ x ∷ []) i ≡ slice_index xs i
slice_front [] x i h = absurd (omega arith)
slice_front (y ∷ xs) x zero h = refl
slice_front (y ∷ xs) x (suc i) h = slice_front xs x i (omega arith)

slice_last : (xs : List ℕ) (x i : ℕ) → i ≡ length xs → slice_index (xs ++ x ∷ []) i ≡ x
slice_last [] x zero e = refl
slice_last [] x (suc i) e = absurd (omega (arith, e))
slice_last (y ∷ xs) x zero e = absurd (omega (arith, e))
slice_last (y ∷ xs) x (suc i) e = slice_last xs x i (omega (arith, e))

pub index_of_get : (xs : List ℕ) (i x : ℕ) → slice_get xs i ≡ Some x → slice_index xs i ≡ x
index_of_get [] i x e = cc
index_of_get (y ∷ xs) zero x e = let one : y ≡ x = cc in one
index_of_get (y ∷ xs) (suc i) x e = index_of_get xs i x e

-- a pair that is there
pub has_old : (k : ℕ) (old new : List ℕ) (g : Graph) (pair node found : ℕ) → IsGraph k g → length g ≡ length old → new ≡ old → node < length new
    → slice_get new node ≡ Some found → (pair == found) ≡ true → HasNode k old new g g pair node
has_old k old new g pair node found graph count same within at is = record {
  graph = graph;
  count = count ∙ ap length (sym same);
  more = omega (arith, ap length same);
  within = within;
  found = index_of_get new node found at ∙ sym (eqb-true pair found is);
  kept = λ i h. ap (λ xs. slice_index xs i) same;
  others = λ i h. inl (omega (arith, h, ap length same));
  edges = λ i b. refl;
}

-- and one that is new
pub has_new : (k : ℕ) (old new : List ℕ) (g h : Graph) (pair node found : ℕ) → IsGraph k g → length g ≡ length old → new ≡ old ++ pair ∷ [] → h ≡ with_node k g
    → node < length new → slice_get new node ≡ Some found → (pair == found) ≡ true → HasNode k old new g h pair node
has_new k old new g h pair node found graph count more made within at is =
    let long : length new ≡ length old + 1 = ap length more ∙ length-append old (pair ∷ []) in
    let rows : length h ≡ length g + 1 = ap length made ∙ length-append g (replicate k None ∷ []) in record {
      graph = subst (IsGraph k) (sym made) (node_graph k g graph);
      count = omega (arith, rows, long, count);
      more = omega (arith, long);
      within = within;
      found = index_of_get new node found at ∙ sym (eqb-true pair found is);
      kept = λ i less. ap (λ xs. slice_index xs i) more ∙ slice_front old pair i less;
      others = λ i less. elim (cases_lt i (length old)) [
        | inl l ↦ inl l
        | inr m ↦ inr (ap (λ xs. slice_index xs i) more ∙ slice_last old pair i (omega (arith, m, less, long)))
      ];
      edges = λ i b. ap (λ g. target g i b) made ∙ target_node k g i b;
    }

-- the list with a pair put at its end where it was not there
pub inserted : (old new : List ℕ) (pair : ℕ) (has is_new : Bool) → is_new ≡ not has → new ≡ (if has then old else old ++ pair ∷ [])
    → (is_new ≡ true → new ≡ old ++ pair ∷ []) × (is_new ≡ false → new ≡ old)
inserted old new pair true is_new e keys = (λ t. let bad : ⊥ = cc in absurd bad, λ f. keys)
inserted old new pair false is_new e keys = (λ t. keys, λ f. let bad : ⊥ = cc in absurd bad)

same_or_not : (m n : ℕ) → (m ≡ n) ⊎ (m ≢ n)
same_or_not m n = elim (cases_lt m n) [
  | inl less ↦ inr (λ e. omega (arith, less, e))
  | inr most ↦ elim (cases_lt n m) [ inl more ↦ inr (λ e. omega (arith, more, e)) | inr none ↦ inl (omega (arith, most, none)) ]
]

-- this place and letter, or another one
this_or_other : (i b place letter : ℕ) → ((i ≡ place) × (b ≡ letter)) ⊎ ((i ≢ place) ⊎ (b ≢ letter))
this_or_other i b place letter = elim (same_or_not i place) [
  | inl same ↦ elim (same_or_not b letter) [ inl one ↦ inl (same, one) | inr other ↦ inr (inr other) ]
  | inr other ↦ inr (inl other)
]

before_next : (i b place letter : ℕ) → IsBefore i b place (letter + 1) → (i ≢ place) ⊎ (b ≢ letter) → IsBefore i b place letter
before_next i b place letter (inl less) other = inl less
before_next i b place letter (inr here) (inl other) = absurd (other here.0)
before_next i b place letter (inr here) (inr other) = inr (here.0, least b letter here.1 other)
  where
    least : (b letter : ℕ) → b < letter + 1 → b ≢ letter → b < letter
    least b letter h other = elim (cases_lt b letter) [ inl less ↦ less | inr most ↦ absurd (other (omega (arith, h, most))) ]

before_low : (i b place letter : ℕ) → IsBefore i b place letter → i ≤ place
before_low i b place letter (inl less) = omega (arith, less)
before_low i b place letter (inr here) = omega (arith, here.0)

-- one edge more
module _ (k : ℕ) (s t : Graph) (old new : List ℕ) (g h : Graph) (place letter pair node : ℕ) (begun : IsBegun k s t old g place letter)
    (has : HasNode k old new g h pair node) (inside : place < length old) (small : letter < k) where
  rows : length h ≡ length new
  rows = has.count

  pub at_place : place < length h
  at_place = omega (arith, inside, has.more, has.count)

  pub at_letter : letter < length (get_or h place [])
  at_letter = omega (arith, small, has.graph.width place [] at_place)

  pub at_node : node < length h
  at_node = omega (arith, has.within, has.count)

  abbrev edged : Graph
  edged = with_edge h place letter node

  step_kept : (i b next : ℕ) → target g i b ≡ Some next → IsStep s t (slice_index new i) b (slice_index new next)
  step_kept i b next e =
      let on = target_in k g begun.graph i b next e in
      subst₂ (λ x y. IsStep s t x b y) (sym (has.kept i (omega (arith, on.0, begun.count)))) (sym (has.kept next (omega (arith, on.2, begun.count)))) (begun.edges i b next e)

  pub begun_more : IsStep s t (slice_index old place) letter pair → pair < length s * length t → IsBegun k s t new edged place (letter + 1)
  begun_more step within = record {
    graph = graph_edged k h place letter node has.graph at_place small at_node;
    count = length-set h place (set (get_or h place []) letter (Some node)) ∙ has.count;
    some = omega (arith, begun.some, has.more);
    root = has.kept 0 begun.some ∙ begun.root;
    within = λ i less. elim (has.others i less) [
      | inl l ↦ subst (λ x. x < length s * length t) (sym (has.kept i l)) (begun.within i l)
      | inr e ↦ subst (λ x. x < length s * length t) (sym e) within
    ];
    edges = λ i b next e. elim (this_or_other i b place letter) [
      | inl here ↦ this i b next e here
      | inr other ↦ step_kept i b next (sym (has.edges i b) ∙ sym (target_other h place letter node i b at_place other) ∙ e)
    ];
    done = λ i b before less low. elim (this_or_other i b place letter) [
      | inl here ↦ (node, ap₂ (λ x y. target edged x y) here.0 here.1 ∙ target_edged h place letter node at_place at_letter)
      | inr other ↦
          let earlier = before_next i b place letter before other in
          let old = begun.done i b earlier (omega (arith, before_low i b place letter earlier, inside, begun.count)) low in
          (old.0, target_other h place letter node i b at_place other ∙ has.edges i b ∙ old.1)
    ];
  }
    where
      this : (i b next : ℕ) → target edged i b ≡ Some next → (i ≡ place) × (b ≡ letter) → IsStep s t (slice_index new i) b (slice_index new next)
      this i b next e here =
          let there : node ≡ next = some_same node next (sym (ap₂ (λ x y. target edged x y) here.0 here.1 ∙ target_edged h place letter node at_place at_letter) ∙ e) in
          let from : slice_index new i ≡ slice_index old place = ap (slice_index new) here.0 ∙ has.kept place inside in
          let to : slice_index new next ≡ pair = ap (slice_index new) (sym there) ∙ has.found in
          subst (λ x. IsStep s t x b (slice_index new next)) (sym from) (subst₂ (λ x y. IsStep s t (slice_index old place) x y) (sym here.1) (sym to) step)
        where
          some_same : (x y : ℕ) → Some x ≡ Some y → x ≡ y
          some_same x y e = cc

-- how many letters there are
pub letters_are : (k n : ℕ) (s t : Graph) → AreTables k s t → IsGraph n s → n ≡ k
letters_are k n s t both is = let graph = (table_of k s both.left).graph in sym (is.width 0 [] is.rooted) ∙ graph.width 0 [] graph.rooted

-- behind the last letter comes the next place
pub begun_next : (k n : ℕ) (s t : Graph) (pairs : List ℕ) (g : Graph) (place : ℕ) → n ≡ k → IsBegun k s t pairs g place n → IsBegun k s t pairs g (place + 1) 0
begun_next k n s t pairs g place all begun = record {
  graph = begun.graph;
  count = begun.count;
  some = begun.some;
  root = begun.root;
  within = begun.within;
  edges = begun.edges;
  done = λ i b before less low. begun.done i b (earlier i b before low) less low;
}
  where
    earlier : (i b : ℕ) → IsBefore i b (place + 1) 0 → b < k → IsBefore i b place n
    earlier i b (inl less) low = elim (cases_lt i place) [
      | inl more ↦ inl more
      | inr most ↦ inr (omega (arith, less, most), omega (arith, low, all))
    ]
    earlier i b (inr here) low = absurd (omega (arith, here.1))

all_at : (P : ℕ → Type 0) (xs : List ℕ) (j : ℕ) → AllByRecursion P xs → j < length xs → P (slice_index xs j)
all_at P [] j all h = absurd (omega arith)
all_at P (x ∷ xs) zero all h = all.0
all_at P (x ∷ xs) (suc j) all h = all_at P xs j all.1 (omega arith)

-- no number stands at two places of a list of distinct ones
distinct_at : (xs : List ℕ) (i j : ℕ) → IsDistinct eqb xs → i < j → j < length xs → slice_index xs i ≡ slice_index xs j → ⊥
unfolding IsDistinct
distinct_at [] i j apart less h e = omega (arith, h)
distinct_at (x ∷ xs) i zero apart less h e = omega (arith, less)
distinct_at (x ∷ xs) zero (suc j) apart less h e =
    let other : eqb x (slice_index xs j) ≡ false = all_at (λ y. eqb x y ≡ false) xs j apart.0 (omega arith) in
    let same : eqb x (slice_index xs j) ≡ true = (Decides-eqb x (slice_index xs j)).1 e in cc
distinct_at (x ∷ xs) (suc i) (suc j) apart less h e = distinct_at xs i j apart.1 (omega arith) (omega arith) e

one_place : (xs : List ℕ) (i j : ℕ) → IsDistinct eqb xs → i < length xs → j < length xs → slice_index xs i ≡ slice_index xs j → i ≡ j
one_place xs i j apart hi hj e = elim (cases_lt i j) [
  | inl less ↦ absurd (distinct_at xs i j apart less hj e)
  | inr most ↦ elim (cases_lt j i) [ inl more ↦ absurd (distinct_at xs j i apart more hi (sym e)) | inr none ↦ omega (arith, most, none) ]
]

among : (xs : List ℕ) (n q : ℕ) → ((i : ℕ) → i < length xs → slice_index xs i < n) → list_any (eqb q) xs ≡ true → q < n
among [] n q within h = cc
among (x ∷ xs) n q within h = elim (or_cases (eqb q x) (list_any (eqb q) xs) h) [
  | inl here ↦ let one : q ≡ x = eqb-true q x here in omega (arith, one, within 0 (omega arith))
  | inr there ↦ among xs n q (λ i less. within (suc i) (omega arith)) there
]

-- there are no more pairs than of one node and another
pub few_pairs : (k : ℕ) (s t : Graph) (pairs : List ℕ) (g : Graph) (place letter : ℕ) → IsBegun k s t pairs g place letter → IsDistinct eqb pairs
    → length pairs ≤ length s * length t
few_pairs k s t pairs g place letter begun apart =
    length-le_from_distinct_below pairs (length s * length t) apart (λ q h. among pairs (length s * length t) q begun.within h)

-- the pair of the roots
pub begun_first : (k n : ℕ) (s t : Graph) (pairs : List ℕ) (g : Graph) → AreTables k s t → n ≡ k → pairs ≡ 0 ∷ [] → g ≡ replicate n None ∷ [] → IsBegun k s t pairs g 0 0
begun_first k n s t pairs g both all is made = record {
  graph = subst (IsGraph k) (sym row) (root_graph k);
  count = ap length row ∙ sym (ap length is);
  some = omega (arith, ap length is);
  root = ap (λ xs. slice_index xs 0) is;
  within = λ i h. only i (omega (arith, h, ap length is));
  edges = λ i b next e. none i b next (sym (ap (λ g. target g i b) row) ∙ e);
  done = λ i b before h low. absurd (omega (arith, before_low i b 0 0 before, nowhere i b before));
}
  where
    row : g ≡ replicate k None ∷ []
    row = made ∙ ap (λ m. replicate m None ∷ []) all

    only : (i : ℕ) → i < 1 → slice_index pairs i < length s * length t
    only zero h =
        let first : slice_index pairs 0 ≡ 0 = ap (λ xs. slice_index xs 0) is in
        let room : 0 < length t * length s = omega (arith, mul-add-lt 0 (length t) 0 (length s) (table_of k s both.left).graph.rooted (table_of k t both.right).graph.rooted) in
        subst₂ (λ x y. x < y) (sym first) (mul_comm (length t) (length s)) room
    only (suc i) h = absurd (omega arith)

    none : (i b next : ℕ) → target (replicate k None ∷ []) i b ≡ Some next → IsStep s t (slice_index pairs i) b (slice_index pairs next)
    none i b next e = absurd (no_edge (target (replicate k None ∷ []) i b) (target_bare 1 k i b) e)
      where
        no_edge : (o : Option ℕ) → o ≡ None → o ≡ Some next → ⊥
        no_edge o e d = cc

    nowhere : (i b : ℕ) → IsBefore i b 0 0 → i < 0
    nowhere i b (inl less) = less
    nowhere i b (inr here) = absurd (omega (arith, here.1))

-- when each pair has its edges, the graph is the product
pub product_done : (k : ℕ) (s t : Graph) (pairs : List ℕ) (g : Graph) (place : ℕ) → IsBegun k s t pairs g place 0 → IsDistinct eqb pairs → length pairs ≤ place
    → IsProduct k s t g
product_done k s t pairs g place begun apart all = record {
  graph = begun.graph;
  left = λ i. slice_index pairs i / length t;
  right = λ i. slice_index pairs i % length t;
  product = record {
    left_root = ap (λ n. n / length t) begun.root ∙ zero-div (length t);
    right_root = ap (λ n. n % length t) begun.root ∙ zero-mod (length t);
    edges = λ node letter next e. let step = begun.edges node letter next e in (step.left, step.right);
    apart = λ i j hi hj l r. one_place pairs i j apart (omega (arith, hi, begun.count)) (omega (arith, hj, begun.count))
        (sym (div-add-mod (slice_index pairs i) (length t)) ∙ ap₂ (λ x y. length t * x + y) l r ∙ div-add-mod (slice_index pairs j) (length t));
  };
  complete = λ node letter h low. begun.done node letter (inl (omega (arith, h, begun.count, all))) h low;
}

-- and shows the meet
pub product_shows : (k : ℕ) (s t g : Graph) → AreTables k s t → IsProduct k s t g → PathsRelate g (Meet s t)
product_shows k s t g both is = product_meet k s t g is.left is.right is.graph is.product is.complete (table_of k s both.left)

pub meet_table : (k : ℕ) (s t g h : Graph) → AreTables k s t → IsProduct k s t g → PathsRelate h (SameEnd g) → ((k : ℕ) → IsGraph k g → AllDefined k (SameEnd g) → IsStandardGraph k h)
    → IsTableOf k (Meet s t) h
meet_table k s t g h both is same standard = record {
  standard = standard k is.graph (complete_all_defined k g is.graph is.complete);
  paths = λ u v. (
    λ e. (product_shows k s t g both is u v).0 ((same u v).0 e),
    λ e. (same u v).1 ((product_shows k s t g both is u v).1 e),
  );
}

-- what is put into an empty list
pub first_pair : (old new : List ℕ) → old ≡ [] → new ≡ (if list_any (eqb 0) old then old else old ++ 0 ∷ []) → new ≡ 0 ∷ []
first_pair old new none is = is ∙ ap (λ ks. if list_any (eqb 0) ks then ks else ks ++ 0 ∷ []) none

pub meet_found : {F : Type 0} (s t g : Graph) (r : Result Graph F) → ((k : ℕ) → AreTables k s t → IsProduct k s t g) → IfOk r (λ h. Shows h (SameEnd g))
    → IfOk r (λ h. (k : ℕ) → IsGraph k g → AllDefined k (SameEnd g) → IsStandardGraph k h) → IfOk r (λ h. (k : ℕ) → AreTables k s t → IsTableOf k (Meet s t) h)
meet_found s t g (Ok h) product shows standard = λ k both. meet_table k s t g h both (product k both) shows.paths standard
meet_found s t g (Err e) product shows standard = tt
