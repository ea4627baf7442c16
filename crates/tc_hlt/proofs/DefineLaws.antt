-- A definition makes one word more.
use Rattle.std.proofs.Common.{◌≡◌, ◌↔◌, ℕ, ◌<◌, ◌≤◌, List, [], ◌∷◌, ◌++◌, refl, sym, ◌∙◌, ap, arith, ◌⊎◌, inl, inr, Some, None, length, subst, get_or, Contains, Bool, true, false}
use Rattle.std.proofs.lemmas.Bool.{cases_eq, cases_lt}
use Rattle.std.proofs.lemmas.List.{get_or_append_left, get_or_push, get_or_past, length_push}
use Rattle.theory.specs.Facts.{Defines}
use Rattle.theory.specs.Graph.{Graph, target, path}
use Rattle.theory.specs.Hlt.{HltDefines, Drawn}
use Rattle.word_graph.specs.Edges.{with_edge, with_node}
use Rattle.coincidence.specs.Live.{IsOn}
use Rattle.coincidence.specs.Table.{CosetTable, IsTable, IsLive, IsDefined}
use Rattle.coincidence.proofs.DefinedPaths.{edged, kept_path}
use Rattle.coincidence.proofs.TableLaws.{on_inside}
use Rattle.coset_enumeration.proofs.DefinedLaws.{new_there, new_within}
use Rattle.tc_hlt.specs.Tracing.{IsGrown, IsNext, IsWithin, NoDrawing}

-- one more node without a mark
mark_more : (marked : List Bool) (n : ℕ) → IsOn (marked ++ false ∷ []) n ↔ IsOn marked n
mark_more marked n = go (cases_lt n (length marked))
  where
    off : length marked ≤ n → IsOn (marked ++ false ∷ []) n → ⊥
    off h on = elim (cases_eq n (length marked)) [
      | inl e ↦ let is : get_or (marked ++ false ∷ []) n false ≡ false = get_or_push marked false false n (sym e) in let bad : false ≡ true = sym is ∙ on in let none : ⊥ = cc in none
      | inr d ↦ let past : get_or (marked ++ false ∷ []) n false ≡ false = get_or_past (marked ++ false ∷ []) n false (omega (arith, h, d, length_push marked false)) in let bad : false ≡ true = sym past ∙ on in let none : ⊥ = cc in none
    ]

    was_off : length marked ≤ n → IsOn marked n → ⊥
    was_off h on = let past : get_or marked n false ≡ false = get_or_past marked n false h in let bad : false ≡ true = sym past ∙ on in let none : ⊥ = cc in none

    go : (n < length marked) ⊎ (length marked ≤ n) → IsOn (marked ++ false ∷ []) n ↔ IsOn marked n
    go (inl less) = let e : get_or (marked ++ false ∷ []) n false ≡ get_or marked n false = get_or_append_left marked (false ∷ []) false n less in (λ on. sym e ∙ on, λ on. e ∙ on)
    go (inr more) = (λ on. absurd (off more on), λ on. absurd (was_off more on))

-- what the graph of a table with a definition has
module _ (old new : CosetTable) (node a made : ℕ) (is : IsTable old) (d : IsDefined old new node a made) (live : IsLive old node) (ha : a < old.congruence.presentation.letters) (none : target old.graph node a ≡ None) where
  after : Graph
  after = with_edge (with_node old.congruence.presentation.letters old.graph) node a (length old.graph)

  inside : node < length old.graph
  inside = on_inside old.graph old.live node is.live live

  graph_is : new.graph ≡ with_edge (with_node old.congruence.presentation.letters old.graph) node a (length old.graph)
  graph_is = d.graph ∙ ap (λ z. with_edge (with_node old.congruence.presentation.letters old.graph) node a z) d.fresh

  pub define_edge : target new.graph node a ≡ Some made
  define_edge =
      let edge : target new.graph node a ≡ Some (length old.graph) = subst (λ (h : Graph). target h node a ≡ Some (length old.graph)) (sym graph_is) (edged old.congruence.presentation.letters old.graph node a is.graph inside ha none).edge in
      edge ∙ ap (λ z. Some z) (sym d.fresh)

  pub define_grown : IsGrown (IsNext a) NoDrawing old new node
  define_grown = record {
    congruence = d.congruence;
    paths = λ p m u e. subst (λ (h : Graph). path h p u ≡ Some m) (sym graph_is) (kept_path old.congruence.presentation.letters old.graph node a is.graph inside ha none p m u e);
    marks = λ n. subst (λ (ms : List Bool). IsOn ms n ↔ IsOn old.marked n) (sym d.marked) (mark_more old.marked n);
    failed = d.failed;
    there = λ x v hx e.
        let at : path new.graph 0 (x ++ a ∷ []) ≡ Some (length old.graph) = subst (λ (h : Graph). path h 0 (x ++ a ∷ []) ≡ Some (length old.graph)) (sym graph_is) (new_there old.congruence.presentation.letters old.graph node a is.graph inside ha none x hx) in
        let here : path new.graph 0 v ≡ Some (length old.graph) = ap (λ z. path new.graph 0 z) e ∙ at in
        (length old.graph, here, here);
    within = λ L U x hx facts drawn within.
        subst (λ (h : Graph). IsWithin old.congruence L U h) (sym graph_is)
        (new_within old.congruence.presentation.letters old.graph node a is.graph inside ha none old.congruence.presentation.relations old.congruence.pairs (λ u v. Defines (HltDefines old.congruence U) u v ⊎ Drawn old.congruence L u v) (Contains U) x hx (facts (x ++ a ∷ []) refl) within);
  }
