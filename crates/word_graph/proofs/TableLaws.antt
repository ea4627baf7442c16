-- Complete graphs as lists of targets, and their order.
use Rattle.std.proofs.Common.{◌≡◌, ℕ, zero, suc, ◌+◌, ◌*◌, ◌<◌, List, [], ◌∷◌, ◌++◌, length, map, take, drop, get_or, All, Option, Some, refl, sym, ◌∙◌, ap, arith, nat_cmp, Ordering, Less, Equal, Greater, ap₂, subst₂, min, true, false, not, ◌==◌}
use Rattle.std.specs.Ordering.{ordering_then, ordering_index}
use Rattle.std.specs.Cmp.Lexicographic.{slice_cmp}
use Rattle.std.specs.Option.{option_to_list, option_cmp}
use Rattle.std.specs.List.{flat_map}
use Rattle.std.proofs.lemmas.List.{length-map, map-append, take-map, drop-map, get_or-map, length-drop, length-take-le, take-append-drop, drop_more, nil_from_length}
use Rattle.std.proofs.lemmas.List.Elements.{All-cons, All-map}
use Rattle.std.proofs.lemmas.Grind.{flat_map-append}
use Rattle.theory.specs.Graph.{Graph, IsGraph}
use Rattle.theory.specs.LowIndex.{Rows, graph_of, entries}
use Rattle.theory.proofs.TableLaws.{target_within}
use Rattle.cells.specs.Rows.{flat, rows_of}
use Rattle.word_graph.specs.Table.{HasWidth, targets_of, cut}

-- two lists from a place on
first_decides : (s t : List ℕ) (i : ℕ) → i < length s → i < length t
    → slice_cmp nat_cmp (drop i s) (drop i t) ≡ ordering_then (nat_cmp (get_or s i 0) (get_or t i 0)) (slice_cmp nat_cmp (drop (i + 1) s) (drop (i + 1) t))
first_decides s t i hs ht = rw (drop_more s i 0 hs, drop_more t i 0 ht) refl

-- where one of them ends, the lengths decide
pub lengths_decide : (s t : List ℕ) (i : ℕ) → i ≡ min (length s) (length t) → slice_cmp nat_cmp (drop i s) (drop i t) ≡ nat_cmp (length s) (length t)
lengths_decide [] [] zero e = refl
lengths_decide [] [] (suc i) e = absurd (omega (arith, e))
lengths_decide [] (y ∷ t) zero e = sym (less (length t))
  where
    less : (n : ℕ) → nat_cmp 0 (suc n) ≡ Less
    less n = grind arith
lengths_decide [] (y ∷ t) (suc i) e = absurd (omega (arith, e))
lengths_decide (x ∷ s) [] zero e = sym (greater (length s))
  where
    greater : (n : ℕ) → nat_cmp (suc n) 0 ≡ Greater
    greater n = grind arith
lengths_decide (x ∷ s) [] (suc i) e = absurd (omega (arith, e))
lengths_decide (x ∷ s) (y ∷ t) zero e = absurd (omega (arith, e))
lengths_decide (x ∷ s) (y ∷ t) (suc i) e = lengths_decide s t i (omega (arith, e)) ∙ one_more (length s) (length t)
  where
    one_more : (m n : ℕ) → nat_cmp m n ≡ nat_cmp (suc m) (suc n)
    one_more m n = grind arith

-- what stands at a place of a list of edges
edge_at : (xs : List (Option ℕ)) (s : List ℕ) (i : ℕ) (x : Option ℕ) → xs ≡ map Some s → i < length xs → x ≡ get_or xs i x → x ≡ Some (get_or s i 0)
edge_at xs s i x e h at =
    let within : i < length s = omega (arith, h, ap length e, length-map s Some) in
    at ∙ ap (λ (z : List (Option ℕ)). get_or z i x) e ∙ get_or-map Some s i 0 x within

-- two lists of edges from a place on
pub edges_decide : (xs ys : List (Option ℕ)) (s t : List ℕ) (i : ℕ) (x y : Option ℕ) (o : Ordering) → xs ≡ map Some s → ys ≡ map Some t → i < length xs → i < length ys
    → x ≡ get_or xs i x → y ≡ get_or ys i y → o ≡ option_cmp nat_cmp x y
    → slice_cmp nat_cmp (drop i s) (drop i t) ≡ ordering_then o (slice_cmp nat_cmp (drop (i + 1) s) (drop (i + 1) t))
edges_decide xs ys s t i x y o hs ht in_one in_other at at' order =
    first_decides s t i (omega (arith, in_one, ap length hs, length-map s Some)) (omega (arith, in_other, ap length ht, length-map t Some))
    ∙ ap (λ z. ordering_then z (slice_cmp nat_cmp (drop (i + 1) s) (drop (i + 1) t)))
    (sym (order ∙ ap₂ (option_cmp nat_cmp) (edge_at xs s i x hs in_one at) (edge_at ys t i y ht in_other at')))

-- the cut rows
pub cut_long : (k n : ℕ) (es : List ℕ) → length (cut k n es) ≡ n
cut_long k zero es = refl
cut_long k (suc n) es = ap suc (cut_long k n (drop k es))

rest_long : (k n : ℕ) (es : List ℕ) → length es ≡ suc n * k → length (drop k es) ≡ n * k
rest_long k n es h = omega (arith, length-drop k es, h)

pub cut_wide : (k n : ℕ) (es : List ℕ) → length es ≡ n * k → HasWidth k (cut k n es)
cut_wide k zero es h = λ i d lt. absurd (omega arith)
cut_wide k (suc n) es h = All-cons (λ (row : List ℕ). length row ≡ k) (take k es) (cut k n (drop k es)) (length-take-le k es (omega (arith, h))) (cut_wide k n (drop k es) (rest_long k n es h))

pub cut_entries : (k n : ℕ) (es : List ℕ) → length es ≡ n * k → entries (cut k n es) ≡ es
cut_entries k zero es h = sym (nil_from_length es (omega (arith, h)))
cut_entries k (suc n) es h = ap (λ z. take k es ++ z) (cut_entries k n (drop k es) (rest_long k n es h)) ∙ take-append-drop k es

-- edges to the targets, cut into rows
pub cut_rows : (k n : ℕ) (es : List ℕ) → rows_of k n (map Some es) ≡ graph_of (cut k n es)
cut_rows k zero es = refl
cut_rows k (suc n) es =
    ap₂ (λ (row : List (Option ℕ)) (xs : List (Option ℕ)). row ∷ rows_of k n xs) (take-map Some k es) (drop-map Some k es)
    ∙ ap (λ (g : Graph). map Some (take k es) ∷ g) (cut_rows k n (drop k es))

-- complete graphs are graphs
pub graph_is : (k : ℕ) (rows : Rows) → 0 < length rows → HasWidth k rows → All (λ m. m < length rows) (entries rows) → IsGraph k (graph_of rows)
graph_is k rows some wide within = record {
  rooted = omega (arith, length-map rows (map Some));
  width = All-map (λ (row : List (Option ℕ)). length row ≡ k) (map Some) rows (All-weaken wide);
  nodes = λ node letter next e. omega (arith, length-map rows (map Some), target_within (length rows) rows node letter next within e);
}
  where
    All-weaken : HasWidth k rows → All (λ (row : List ℕ). length (map Some row) ≡ k) rows
    All-weaken w = λ i d lt. length-map (get_or rows i d) Some ∙ w i d lt

pub cut_is_graph : (k n : ℕ) (es : List ℕ) → 0 < n → length es ≡ n * k → All (λ m. m < n) es → IsGraph k (graph_of (cut k n es))
cut_is_graph k n es some full within =
    let long : length (cut k n es) ≡ n = cut_long k n es in
    graph_is k (cut k n es) (omega (arith, long)) (cut_wide k n es full)
    (subst₂ (λ (m : ℕ) (xs : List ℕ). All (λ j. j < m) xs) (sym long) (sym (cut_entries k n es full)) within)

-- the targets of complete graphs
row_targets : (row : List ℕ) → flat_map option_to_list (map Some row) ≡ row
row_targets [] = refl
row_targets (x ∷ row) = ap (λ (r : List ℕ). x ∷ r) (row_targets row)

pub targets_entries : (rows : Rows) → targets_of (graph_of rows) ≡ entries rows
targets_entries [] = refl
targets_entries (row ∷ rows) = ap₂ (λ (a b : List ℕ). a ++ b) (row_targets row) (targets_entries rows)

-- the entries of a graph, row after row
pub flat_edges : (rows : Rows) → flat (graph_of rows) ≡ map Some (entries rows)
flat_edges [] = refl
flat_edges (row ∷ rows) = ap (λ z. map Some row ++ z) (flat_edges rows) ∙ sym (map-append Some row (entries rows))

pub flat_targets : (g : Graph) → flat_map option_to_list (flat g) ≡ targets_of g
flat_targets [] = refl
flat_targets (row ∷ g) = flat_map-append option_to_list row (flat g) ∙ ap (λ z. flat_map option_to_list row ++ z) (flat_targets g)

-- an order that is followed by another
pub decided : (o p : Ordering) → true ≡ not (ordering_index o == 1) → ordering_then o p ≡ o
decided Less p h = refl
decided Equal p h = cc
decided Greater p h = refl

pub tied : (o p : Ordering) → false ≡ not (ordering_index o == 1) → ordering_then o p ≡ p
tied Less p h = cc
tied Equal p h = refl
tied Greater p h = cc
