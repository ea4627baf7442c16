-- Paths of a graph with a node more, to which an edge leads.
use Rattle.std.proofs.Common.{◌≡◌, ℕ, ◌+◌, ◌<◌, ◌≤◌, List, [], ◌∷◌, ◌++◌, refl, sym, ◌∙◌, ap, arith, ◌⊎◌, inl, inr, Option, Some, None, length, subst, replicate, option_and_then, length-set, set, get_or}
use Rattle.std.proofs.lemmas.List.{length_push}
use Rattle.theory.specs.Word.{Word}
use Rattle.theory.specs.Graph.{Graph, target, path, IsGraph}
use Rattle.theory.proofs.GraphLaws.{path_front, path_letter}
use Rattle.theory.proofs.FactsLaws.{last_letter}
use Rattle.word_graph.specs.Edges.{with_edge, with_node}
use Rattle.word_graph.proofs.EdgeLaws.{target_in}
use Rattle.word_graph.proofs.WalkLaws.{some_same}
use Rattle.coincidence.specs.Closing.{IsEdged}
use Rattle.coincidence.proofs.CloseLaws.{edged_path}
use Rattle.word_graph.proofs.StandardLaws.{path_in}
use Rattle.coincidence.proofs.TableLaws.{define_edged, define_graph, path_same}
use Rattle.cells.proofs.EntryLaws.{target_node}

module _ (k : ℕ) (g : Graph) (n a : ℕ) (is : IsGraph k g) (hn : n < length g) (ha : a < k) (none : target g n a ≡ None) where
  pub edged : IsEdged (with_node k g) (with_edge (with_node k g) n a (length g)) n a (length g)
  edged = define_edged k g n a is hn ha none

  -- a path between old nodes is an old path
  pub old_path : (p m : ℕ) (u : Word) → p < length g → m < length g → path (with_edge (with_node k g) n a (length g)) p u ≡ Some m → path g p u ≡ Some m
  old_path p m [] hp hm e = e
  old_path p m (b ∷ u) hp hm e = go (target (with_edge (with_node k g) n a (length g)) p b) refl (λ q hq d. old_path q m u hq hm d) e
    where
      -- nothing leads on from the new node
      stuck : (u : Word) → path (with_edge (with_node k g) n a (length g)) (length g) u ≡ Some m → ⊥
      stuck [] d = let e : length g ≡ m = some_same (length g) m d in omega (arith, e, hm)
      stuck (b ∷ u) d = out (target (with_edge (with_node k g) n a (length g)) (length g) b) refl d
        where
          out : (t : Option ℕ) → target (with_edge (with_node k g) n a (length g)) (length g) b ≡ t → option_and_then (λ next. path (with_edge (with_node k g) n a (length g)) next u) t ≡ Some m → ⊥
          out None h d = cc
          out (Some q) h d = elim (edged.back (length g) b q h) [
            | inl o ↦ let inside = target_in k g is (length g) b q (sym (target_node k g (length g) b) ∙ o) in omega (arith, inside.0)
            | inr o ↦ omega (arith, o.0, hn)
          ]

      go : (t : Option ℕ) → target (with_edge (with_node k g) n a (length g)) p b ≡ t → ((q : ℕ) → q < length g → path (with_edge (with_node k g) n a (length g)) q u ≡ Some m → path g q u ≡ Some m) → option_and_then (λ next. path (with_edge (with_node k g) n a (length g)) next u) t ≡ Some m → option_and_then (λ next. path g next u) (target g p b) ≡ Some m
      go None h further e = cc
      go (Some q) h further e = elim (edged.back p b q h) [
        | inl o ↦
            let o' : target g p b ≡ Some q = sym (target_node k g p b) ∙ o in
            rw o' (further q (is.nodes p b q o') e)
        | inr o ↦ absurd (stuck u (subst (λ z. path (with_edge (with_node k g) n a (length g)) z u ≡ Some m) o.2 e))
      ]

  -- a path to the new node ends with the new edge
  pub new_path : (u : Word) → path (with_edge (with_node k g) n a (length g)) 0 u ≡ Some (length g) → (v : Word) × (u ≡ v ++ a ∷ []) × (path g 0 v ≡ Some n)
  new_path u e = go (last_letter u)
    where
      go : (u ≡ []) ⊎ ((v : Word) × (b : ℕ) × (u ≡ v ++ b ∷ [])) → (v : Word) × (u ≡ v ++ a ∷ []) × (path g 0 v ≡ Some n)
      go (inl h) = absurd (let e' : 0 ≡ length g = some_same 0 (length g) (sym (ap (λ z. path (with_edge (with_node k g) n a (length g)) 0 z) h) ∙ e) in omega (arith, e', is.rooted))
      go (inr h) =
          let p = path_front (with_edge (with_node k g) n a (length g)) 0 (length g) (h.0) (h.1 ∷ []) (sym (ap (λ z. path (with_edge (with_node k g) n a (length g)) 0 z) h.2) ∙ e) in
          elim (edged.back p.0 (h.1) (length g) (sym (path_letter (with_edge (with_node k g) n a (length g)) p.0 (h.1)) ∙ p.2)) [
            | inl o ↦ absurd (let inside = is.nodes p.0 (h.1) (length g) (sym (target_node k g p.0 (h.1)) ∙ o) in omega (arith, inside))
            | inr o ↦
                let at : path (with_edge (with_node k g) n a (length g)) 0 (h.0) ≡ Some n = p.1 ∙ ap (λ z. Some z) o.0 in
                (h.0, h.2 ∙ ap (λ b. h.0 ++ b ∷ []) o.1, old_path 0 n (h.0) is.rooted hn at)
          ]

  -- an old path stays
  pub kept_path : (p m : ℕ) (u : Word) → path g p u ≡ Some m → path (with_edge (with_node k g) n a (length g)) p u ≡ Some m
  kept_path p m u e = edged_path (with_node k g) (with_edge (with_node k g) n a (length g)) n a (length g) edged p m u (path_same g (with_node k g) (λ p b. sym (target_node k g p b)) p m u e)

  -- a path to no old node leads to the new one
  pub last_path : (m : ℕ) (u : Word) → length g ≤ m → path (with_edge (with_node k g) n a (length g)) 0 u ≡ Some m → path (with_edge (with_node k g) n a (length g)) 0 u ≡ Some (length g)
  last_path m u l e =
      let len : length (with_edge (with_node k g) n a (length g)) ≡ length g + 1 = length-set (with_node k g) n (set (get_or (with_node k g) n []) a (Some (length g))) ∙ length_push {X = List (Option ℕ)} g (replicate k None) in
      let graph : IsGraph k (with_edge (with_node k g) n a (length g)) = define_graph k g n a is hn ha in
      let below : m < length (with_edge (with_node k g) n a (length g)) = path_in k (with_edge (with_node k g) n a (length g)) graph 0 m u graph.rooted e in
      let same : m ≡ length g = omega (arith, below, len, l) in
      e ∙ ap (λ z. Some z) same
