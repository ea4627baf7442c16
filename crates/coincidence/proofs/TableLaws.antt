-- New tables, and tables with one more node.
use Rattle.std.proofs.Common.{◌≡◌, ℕ, zero, suc, ◌+◌, ◌<◌, ◌≤◌, List, [], ◌∷◌, ◌++◌, refl, sym, ◌∙◌, ap, arith, ◌⊎◌, inl, inr, Option, Some, None, length, subst, get_or, replicate, Bool, true, false, option_and_then, length-set, set}
use Rattle.std.proofs.lemmas.Bool.{cases_eq, cases_lt}
use Rattle.std.proofs.lemmas.List.{get_or_append_left, get_or_push, get_or_past, length_push}
use Rattle.theory.specs.Word.{Word}
use Rattle.theory.specs.Graph.{Graph, target, path, IsGraph}
use Rattle.theory.proofs.GraphLaws.{path_front, path_letter}
use Rattle.theory.proofs.FactsLaws.{last_letter}
use Rattle.word_graph.specs.Edges.{with_edge, with_node}
use Rattle.word_graph.proofs.EdgeLaws.{graph_edged}
use Rattle.coincidence.specs.Merging.{IsReached, EdgesReached}
use Rattle.coincidence.specs.Closing.{IsEdged}
use Rattle.coincidence.specs.Live.{IsOn, IsLiveGraph}
use Rattle.word_graph.proofs.WalkLaws.{some_same}
use Rattle.coincidence.proofs.FollowsLaws.{path_more}
use Rattle.coincidence.proofs.CloseLaws.{edged_path}
use Rattle.coincidence.proofs.FoldLaws.{bare_upto, edged_with}
use Rattle.cells.proofs.EntryLaws.{node_graph, target_bare, target_node}

pub root_graph : (k : ℕ) → IsGraph k (replicate k None ∷ [])
root_graph k = (bare_upto k (replicate k None ∷ []) [] (omega arith)).graph

root_target : (k n a : ℕ) → target (replicate k None ∷ []) n a ≡ None
root_target k n a = target_bare 1 k n a

pub root_live : (k : ℕ) → IsLiveGraph (replicate k None ∷ []) (true ∷ [])
root_live k = record { shape = refl; reached = reached; lives = lives; edges = λ n a m e. absurd (none n a m e) }
  where
    none : (n a m : ℕ) → target (replicate k None ∷ []) n a ≡ Some m → ⊥
    none n a m e = let e' : None ≡ Some m = sym (root_target k n a) ∙ e in cc

    reached : (n : ℕ) → IsOn (true ∷ []) n → IsReached (replicate k None ∷ []) n
    reached zero h = ([], refl)
    reached (suc n) h = cc

    lives : (n : ℕ) → IsReached (replicate k None ∷ []) n → IsOn (true ∷ []) n
    lives n r = go (last_letter r.0)
      where
        go : (r.0 ≡ []) ⊎ ((v : Word) × (b : ℕ) × (r.0 ≡ v ++ b ∷ [])) → IsOn (true ∷ []) n
        go (inl h) = subst (λ z. IsOn (true ∷ []) z) (some_same 0 n (sym (ap (λ z. path (replicate k None ∷ []) 0 z) h) ∙ r.1)) refl
        go (inr h) =
            let p = path_front (replicate k None ∷ []) 0 n (h.0) (h.1 ∷ []) (sym (ap (λ z. path (replicate k None ∷ []) 0 z) h.2) ∙ r.1) in
            absurd (none p.0 (h.1) n (sym (path_letter (replicate k None ∷ []) p.0 (h.1)) ∙ p.2))

pub path_same : (g h : Graph) → ((n a : ℕ) → target g n a ≡ target h n a) → (n m : ℕ) (u : Word) → path g n u ≡ Some m → path h n u ≡ Some m
path_same g h e n m [] p = p
path_same g h e n m (a ∷ u) p = go (target g n a) refl (λ t q. path_same g h e t m u q) p
  where
    go : (t : Option ℕ) → target g n a ≡ t → ((t : ℕ) → path g t u ≡ Some m → path h t u ≡ Some m) → option_and_then (λ next. path g next u) t ≡ Some m → option_and_then (λ next. path h next u) (target h n a) ≡ Some m
    go None d further p = cc
    go (Some t) d further p = let d' : target h n a ≡ Some t = sym (e n a) ∙ d in rw d' (further t p)

-- the edge to the new node
pub define_edged : (k : ℕ) (g : Graph) (n a : ℕ) → IsGraph k g → n < length g → a < k → target g n a ≡ None → IsEdged (with_node k g) (with_edge (with_node k g) n a (length g)) n a (length g)
define_edged k g n a is hn ha e =
    let inside : n < length (with_node k g) = omega (arith, hn, length_push {X = List (Option ℕ)} g (replicate k None)) in
    edged_with (with_node k g) n a (length g) inside (omega (arith, (node_graph k g is).width n [] inside, ha)) (target_node k g n a ∙ e)

pub define_graph : (k : ℕ) (g : Graph) (n a : ℕ) → IsGraph k g → n < length g → a < k → IsGraph k (with_edge (with_node k g) n a (length g))
define_graph k g n a is hn ha =
    graph_edged k (with_node k g) n a (length g) (node_graph k g is) (omega (arith, hn, length_push {X = List (Option ℕ)} g (replicate k None))) ha (omega (arith, length_push {X = List (Option ℕ)} g (replicate k None)))

pub on_inside : (g : Graph) (live : List Bool) (n : ℕ) → IsLiveGraph g live → IsOn live n → n < length g
on_inside g live n is on = go (cases_lt n (length live))
  where
    go : (n < length live) ⊎ (length live ≤ n) → n < length g
    go (inl h) = omega (arith, h, is.shape)
    go (inr h) = absurd (let e : get_or live n false ≡ false = get_or_past live n false h in let e' : false ≡ true = sym e ∙ on in let none : ⊥ = cc in none)

pub define_live : (k : ℕ) (g : Graph) (live : List Bool) (n a : ℕ) → IsGraph k g → IsLiveGraph g live → IsOn live n → a < k → target g n a ≡ None → IsLiveGraph (with_edge (with_node k g) n a (length g)) (live ++ true ∷ [])
define_live k g live n a graph is on ha none =
    record {
      shape = length_push live true ∙ ap (λ z. z + 1) is.shape ∙ sym (length_push g (replicate k None)) ∙ sym (length-set (with_node k g) n (set (get_or (with_node k g) n []) a (Some (length g))));
      reached = λ m h. go_reached m h (cases_lt m (length live));
      lives = λ m r. go_lives m (down r.0 m r.1);
      edges = edges;
    }
  where
    new : Graph
    new = with_edge (with_node k g) n a (length g)

    hn : n < length g
    hn = on_inside g live n is on

    edged : IsEdged (with_node k g) (with_edge (with_node k g) n a (length g)) n a (length g)
    edged = define_edged k g n a graph hn ha none

    up : (m : ℕ) → IsReached g m → IsReached (with_edge (with_node k g) n a (length g)) m
    up m r = (r.0, edged_path (with_node k g) (with_edge (with_node k g) n a (length g)) n a (length g) edged 0 m r.0 (path_same g (with_node k g) (λ p b. sym (target_node k g p b)) 0 m r.0 r.1))

    fresh : IsReached (with_edge (with_node k g) n a (length g)) (length g)
    fresh = let r = up n (is.reached n on) in (r.0 ++ a ∷ [], path_more (with_edge (with_node k g) n a (length g)) 0 n r.0 a r.1 ∙ edged.edge)

    go_reached : (m : ℕ) → IsOn (live ++ true ∷ []) m → (m < length live) ⊎ (length live ≤ m) → IsReached (with_edge (with_node k g) n a (length g)) m
    go_reached m h (inl l) = up m (is.reached m (sym (get_or_append_left live (true ∷ []) false m l) ∙ h))
    go_reached m h (inr l) = elim (cases_eq m (length live)) [
      | inl e ↦ subst (λ z. IsReached (with_edge (with_node k g) n a (length g)) z) (sym is.shape ∙ sym e) fresh
      | inr d ↦ absurd (let past : get_or (live ++ true ∷ []) m false ≡ false = get_or_past (live ++ true ∷ []) m false (omega (arith, l, d, length_push live true)) in let e' : false ≡ true = sym past ∙ h in let no' : ⊥ = cc in no')
    ]

    go_lives : (m : ℕ) → IsReached g m ⊎ (m ≡ length g) → IsOn (live ++ true ∷ []) m
    go_lives m (inl r) =
        let o : IsOn live m = is.lives m r in
        let l : m < length live = omega (arith, on_inside g live m is o, is.shape) in
        get_or_append_left live (true ∷ []) false m l ∙ o
    go_lives m (inr e) = get_or_push live true false m (is.shape ∙ sym e)

    down : (w : Word) (m : ℕ) → path (with_edge (with_node k g) n a (length g)) 0 w ≡ Some m → IsReached g m ⊎ (m ≡ length g)
    down w m e = go (last_letter w)
      where
        go : (w ≡ []) ⊎ ((v : Word) × (b : ℕ) × (w ≡ v ++ b ∷ [])) → IsReached g m ⊎ (m ≡ length g)
        go (inl h) = inl ([], sym (ap (λ z. path (with_edge (with_node k g) n a (length g)) 0 z) h) ∙ e)
        go (inr h) =
            let p = path_front (with_edge (with_node k g) n a (length g)) 0 m (h.0) (h.1 ∷ []) (sym (ap (λ z. path (with_edge (with_node k g) n a (length g)) 0 z) h.2) ∙ e) in
            elim (edged.back p.0 (h.1) m (sym (path_letter (with_edge (with_node k g) n a (length g)) p.0 (h.1)) ∙ p.2)) [
              | inl o ↦ let o' : target g p.0 (h.1) ≡ Some m = sym (target_node k g p.0 (h.1)) ∙ o in let r = is.edges p.0 (h.1) m o' in inl (r.0 ++ h.1 ∷ [], path_more g 0 p.0 r.0 (h.1) r.1 ∙ o')
              | inr o ↦ inr o.2
            ]

    edges : EdgesReached (with_edge (with_node k g) n a (length g))
    edges p b t e = elim (edged.back p b t e) [
      | inl o ↦ up p (is.edges p b t (sym (target_node k g p b) ∙ o))
      | inr o ↦ subst (λ z. IsReached (with_edge (with_node k g) n a (length g)) z) (sym o.0) (up n (is.reached n on))
    ]
