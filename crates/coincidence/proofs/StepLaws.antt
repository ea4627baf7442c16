-- One step of closing keeps what the loop keeps.
use Rattle.std.proofs.Common.{◌≡◌, ℕ, ◌<◌, List, [], ◌∷◌, ◌++◌, sym, ◌∙◌, ap, arith, ◌⊎◌, inl, inr, Option, Some, None, length, subst, get_or, set, Bool, length-set}
use Rattle.theory.specs.Word.{Word}
use Rattle.theory.specs.Congruence.{Congruence, IsWellFormed}
use Rattle.theory.specs.Graph.{Graph, target, path, IsGraph}
use Rattle.theory.proofs.Words.{over_right}
use Rattle.theory.proofs.Related.{side_element, element_over}
use Rattle.theory.proofs.GraphLaws.{path_append, path_front, path_letter}
use Rattle.theory.proofs.FactsLaws.{last_letter}
use Rattle.word_graph.specs.Edges.{with_edge}
use Rattle.word_graph.proofs.EdgeLaws.{graph_edged}
use Rattle.coincidence.specs.Merging.{IsReached, EdgesReached}
use Rattle.coincidence.specs.Closing.{IsEdged, IsDue, by_relation, by_pair}
use Rattle.coincidence.specs.Live.{IsOn, IsLiveGraph}
use Rattle.coincidence.proofs.FollowsLaws.{path_more}
use Rattle.coincidence.proofs.CloseLaws.{IsPlaced, IsWithin, within_edge, edged_path}
use Rattle.coincidence.proofs.FoldLaws.{edged_with}
use Rattle.word_graph.proofs.StandardLaws.{path_in}

-- both ends of what is due are reached
pub due_reached : (c : Congruence) (g : Graph) (at : Option ℕ) (j a m : ℕ) → IsDue c g at j a m → IsReached g j × IsReached g m
due_reached c g at j a m (by_relation node w here hw k) =
    ((w ++ k.s, path_append g 0 node w k.s hw ∙ k.second), (w ++ k.r, path_append g 0 node w k.r hw ∙ k.first))
due_reached c g at j a m (by_pair k) = ((k.s, k.second), (k.r, k.first))

-- and its letter is one of the alphabet
pub due_letter : (c : Congruence) (g : Graph) (at : Option ℕ) (j a m : ℕ) → IsWellFormed c → IsDue c g at j a m → a < c.presentation.letters
due_letter c g at j a m is (by_relation node w here hw k) =
    (over_right c.presentation.letters k.s (a ∷ []) (element_over c.presentation.is_monoid c.presentation.letters (k.s ++ a ∷ []) (side_element c.presentation.is_monoid c.presentation.letters c.presentation.relations k.r (k.s ++ a ∷ []) is.relations k.sides).1)).0
due_letter c g at j a m is (by_pair k) =
    (over_right c.presentation.letters k.s (a ∷ []) (element_over c.presentation.is_monoid c.presentation.letters (k.s ++ a ∷ []) (side_element c.presentation.is_monoid c.presentation.letters c.pairs k.r (k.s ++ a ∷ []) is.pairs k.sides).1)).0

pub due_inside : (c : Congruence) (g : Graph) (at : Option ℕ) (j a m : ℕ) → IsGraph c.presentation.letters g → IsWellFormed c → IsDue c g at j a m → (j < length g) × (a < length (get_or g j [])) × (m < length g)
due_inside c g at j a m graph is d =
    let r = due_reached c g at j a m d in
    let hj : j < length g = path_in c.presentation.letters g graph 0 j r.0.0 graph.rooted r.0.1 in
    let hm : m < length g = path_in c.presentation.letters g graph 0 m r.1.0 graph.rooted r.1.1 in
    (hj, omega (arith, graph.width j [] hj, due_letter c g at j a m is d), hm)

-- an edge between reached nodes keeps the graph live
pub edged_live : (old new : Graph) (live : List Bool) (j a m : ℕ) → length new ≡ length old → IsEdged old new j a m → IsReached old j → IsReached old m → IsLiveGraph old live → IsLiveGraph new live
edged_live old new live j a m len f rj rm is =
    record { shape = is.shape ∙ sym len; reached = λ n on. up n (is.reached n on); lives = λ n r. is.lives n (down r.0 n r.1); edges = edges }
  where
    up : (n : ℕ) → IsReached old n → IsReached new n
    up n r = (r.0, edged_path old new j a m f 0 n r.0 r.1)

    down : (w : Word) (n : ℕ) → path new 0 w ≡ Some n → IsReached old n
    down w n e = go (last_letter w)
      where
        go : (w ≡ []) ⊎ ((v : Word) × (b : ℕ) × (w ≡ v ++ b ∷ [])) → IsReached old n
        go (inl h) = ([], sym (ap (λ z. path new 0 z) h) ∙ e)
        go (inr h) =
            let p = path_front new 0 n (h.0) (h.1 ∷ []) (sym (ap (λ z. path new 0 z) h.2) ∙ e) in
            elim (f.back p.0 (h.1) n (sym (path_letter new p.0 (h.1)) ∙ p.2)) [
              | inl o ↦ let r = is.edges p.0 (h.1) n o in (r.0 ++ h.1 ∷ [], path_more old 0 p.0 r.0 (h.1) r.1 ∙ o)
              | inr o ↦ subst (λ z. IsReached old z) (sym o.2) rm
            ]

    edges : EdgesReached new
    edges n b t e = up n (elim (f.back n b t e) [ inl o ↦ is.edges n b t o | inr o ↦ subst (λ z. IsReached old z) (sym o.0) rj ])

pub edge_step : (c : Congruence) (first : Graph) (from : Option ℕ) (old : Graph) (at : Option ℕ) (live : List Bool) (j a m : ℕ) → IsWellFormed c → IsGraph c.presentation.letters old → IsLiveGraph old live → IsPlaced first from old at → IsWithin c first from old → IsDue c old at j a m → target old j a ≡ None
    → IsWithin c first from (with_edge old j a m) × IsLiveGraph (with_edge old j a m) live × IsGraph c.presentation.letters (with_edge old j a m)
edge_step c first from old at live j a m is graph lives placed within d none =
    let inside = due_inside c old at j a m graph is d in
    let r = due_reached c old at j a m d in
    let f : IsEdged old (with_edge old j a m) j a m = edged_with old j a m inside.0 inside.1 none in (
      within_edge c first from old at placed within (with_edge old j a m) j a m f d r.1.0 r.1.1,
      edged_live old (with_edge old j a m) live j a m (length-set old j (set (get_or old j []) a (Some m))) f r.0 r.1 lives,
      graph_edged c.presentation.letters old j a m graph inside.0 (due_letter c old at j a m is d) inside.2,
    )

-- both ends of a join are live
pub join_live : (c : Congruence) (g : Graph) (at : Option ℕ) (live : List Bool) (j a m t : ℕ) → IsLiveGraph g live → IsDue c g at j a m → target g j a ≡ Some t → IsOn live t × IsOn live m
join_live c g at live j a m t is d e =
    let r = due_reached c g at j a m d in
    (is.lives t (r.0.0 ++ a ∷ [], path_more g 0 j r.0.0 a r.0.1 ∙ e), is.lives m r.1)
