-- An edge that is drawn to the end of the other side.
use Rattle.std.proofs.Common.{◌≡◌, ◌↔◌, ℕ, ◌<◌, List, [], ◌∷◌, ◌++◌, refl, sym, ◌∙◌, ap, arith, inl, inr, Option, Some, None, subst, append_assoc, append-nil, option_and_then, Bool}
use Rattle.theory.specs.Word.{Word, IsPrefix}
use Rattle.theory.specs.Congruence.{Congruence}
use Rattle.theory.specs.Graph.{Graph, target, path}
use Rattle.theory.proofs.PartLaws.{symmetric, transitive, extended}
use Rattle.theory.proofs.GraphLaws.{path_append}
use Rattle.theory.proofs.FactsLaws.{prefix_last}
use Rattle.coincidence.specs.Closing.{IsEdged}
use Rattle.coincidence.specs.Holding.{MeetAt}
use Rattle.coincidence.specs.Live.{IsOn}
use Rattle.coincidence.specs.Table.{CosetTable, IsTable, IsLive, IsDrawn}
use Rattle.coincidence.proofs.CloseLaws.{edged_path}
use Rattle.coincidence.proofs.FoldLaws.{edged_with}
use Rattle.coincidence.proofs.FollowsLaws.{path_more}
use Rattle.coincidence.proofs.TableLaws.{on_inside}
use Rattle.tc_hlt.specs.Tracing.{AreSides, IsAlong, IsGrown, IsWithin, FactsAfter}
use Rattle.tc_hlt.proofs.GrowLaws.{prefix_there}

-- an edge of the letter a from at to the node to, where x and front lead to at, and x and other to that node
module _ (c : Congruence) (L U : List Word) (g new : Graph) (at a to : ℕ) (edged : IsEdged g new at a to) (within : IsWithin c L U g) (front other : Word)
    (hf : path g 0 front ≡ Some at) (ho : path g 0 other ≡ Some to) (fact : FactsAfter c L U other (front ++ a ∷ [])) where
  -- a path in new, behind a word that is related to one with a path to its start, is related to one with a path to its end
  ends : (u done w : Word) (k n : ℕ) → path g 0 w ≡ Some k → FactsAfter c L U w done → path new k u ≡ Some n → (v : Word) × (path g 0 v ≡ Some n) × FactsAfter c L U v (done ++ u)
  ends [] done w k n leads same e = (w, leads ∙ e, subst (FactsAfter c L U w) (sym (append-nil done)) same)
  ends (b ∷ u) done w k n leads same e = go (target new k b) refl (λ w' k' l s r. ends u (done ++ b ∷ []) w' k' n l s r) e
    where
      Goal : Type 0
      Goal = (v : Word) × (path g 0 v ≡ Some n) × FactsAfter c L U v (done ++ b ∷ u)

      regroup : (v : Word) × (path g 0 v ≡ Some n) × FactsAfter c L U v ((done ++ b ∷ []) ++ u) → Goal
      regroup r = (r.0, r.1, subst (FactsAfter c L U r.0) (append_assoc done (b ∷ []) u) r.2)

      go : (o : Option ℕ) → target new k b ≡ o
          → ((w' : Word) (k' : ℕ) → path g 0 w' ≡ Some k' → FactsAfter c L U w' (done ++ b ∷ []) → path new k' u ≡ Some n → (v : Word) × (path g 0 v ≡ Some n) × FactsAfter c L U v ((done ++ b ∷ []) ++ u))
          → option_and_then (λ next. path new next u) o ≡ Some n → Goal
      go None h further r = cc
      go (Some t) h further r = elim (edged.back k b t h) [
        | inl o ↦
            let there : path g 0 (w ++ b ∷ []) ≡ Some t = path_more g 0 k w b leads ∙ o in
            let defined : FactsAfter c L U (w ++ b ∷ []) (w ++ b ∷ []) = within (w ++ b ∷ []) (w ++ b ∷ []) (t, there, there) in
            regroup (further (w ++ b ∷ []) t there (extended w done b same defined) r)
        | inr o ↦
            let defined : FactsAfter c L U (front ++ a ∷ []) (front ++ a ∷ []) = transitive (symmetric fact) fact in
            let near : FactsAfter c L U front done = transitive (within front w (at, hf, leads ∙ ap (λ z. Some z) o.0)) same in
            let last : FactsAfter c L U other (done ++ a ∷ []) = transitive fact (extended front done a near defined) in
            regroup (further other t (ho ∙ ap (λ z. Some z) (sym o.2)) (subst (λ z. FactsAfter c L U other (done ++ z ∷ [])) (sym o.1) last) r)
      ]

  pub drawn_within : FactsAfter c L U [] [] → IsWithin c L U new
  drawn_within empty u v h =
      let one = ends u [] [] 0 h.0 refl empty h.1 in
      let two = ends v [] [] 0 h.0 refl empty h.2 in
      transitive (symmetric one.2) (transitive (within one.0 two.0 (h.0, one.1, two.1)) two.2)

drawn_edge : (old new : CosetTable) (at a to : ℕ) → IsTable old → IsDrawn old new at a to → IsLive old at → a < old.congruence.presentation.letters → target old.graph at a ≡ None → IsEdged old.graph new.graph at a to
drawn_edge old new at a to is d live less none =
    let inside = on_inside old.graph old.live at is.live live in
    subst (λ (g : Graph). IsEdged old.graph g at a to) (sym d.graph) (edged_with old.graph at a to inside (omega (arith, is.graph.width at [] inside, less)) none)

-- the two sides lead to one node then
pub drawn_meets : (old new : CosetTable) (node at a to : ℕ) (front other : Word) → IsTable old → IsDrawn old new at a to → IsLive old at → a < old.congruence.presentation.letters → target old.graph at a ≡ None
    → path old.graph node front ≡ Some at → path old.graph node other ≡ Some to → MeetAt new.graph node (other, front ++ a ∷ [])
drawn_meets old new node at a to front other is d live less none hf ho =
    let edge = drawn_edge old new at a to is d live less none in
    (to, edged_path old.graph new.graph at a to edge node to other ho, path_more new.graph node at front a (edged_path old.graph new.graph at a to edge node at front hf) ∙ edge.edge)

-- what the table has then
pub drawn_grown : (old new : CosetTable) (node at a to : ℕ) (front other : Word) → IsTable old → IsDrawn old new at a to → IsLive old at → a < old.congruence.presentation.letters → target old.graph at a ≡ None
    → path old.graph node front ≡ Some at → path old.graph node other ≡ Some to → IsGrown (IsAlong (front ++ a ∷ [])) (AreSides other (front ++ a ∷ [])) old new node
drawn_grown old new node at a to front other is d live less none hf ho = record {
  congruence = d.congruence;
  paths = kept;
  marks = λ n. subst (λ (ms : List Bool). IsOn ms n ↔ IsOn old.marked n) (sym d.marked) (λ on. on, λ on. on);
  failed = d.failed;
  there = λ x v hx h. elim (prefix_last v (x ++ front) a (split x v h)) [
    | inl p ↦ let s = prefix_there old.graph v (x ++ front) at p (leads x front at hx hf) in (s.0, kept 0 s.0 v s.1, kept 0 s.0 v s.2)
    | inr e ↦ let end : path new.graph 0 v ≡ Some to = ap (λ z. path new.graph 0 z) e ∙ path_more new.graph 0 at (x ++ front) a (kept 0 at (x ++ front) (leads x front at hx hf)) ∙ edge.edge in (to, end, end)
  ];
  within = λ L U x hx facts pairs within.
      drawn_within old.congruence L U old.graph new.graph at a to edge within (x ++ front) (x ++ other) (leads x front at hx hf) (leads x other to hx ho)
      (pairs (x ++ other) ((x ++ front) ++ a ∷ []) (inl (refl, append_assoc x front (a ∷ [])))) (within [] [] (0, refl, refl));
}
  where
    edge : IsEdged old.graph new.graph at a to
    edge = drawn_edge old new at a to is d live less none

    kept : (n m : ℕ) (u : Word) → path old.graph n u ≡ Some m → path new.graph n u ≡ Some m
    kept n m u e = edged_path old.graph new.graph at a to edge n m u e

    leads : (x w : Word) (n : ℕ) → path old.graph 0 x ≡ Some node → path old.graph node w ≡ Some n → path old.graph 0 (x ++ w) ≡ Some n
    leads x w n hx hw = path_append old.graph 0 node x w hx ∙ hw

    split : (x v : Word) → IsPrefix v (x ++ (front ++ a ∷ [])) → IsPrefix v ((x ++ front) ++ a ∷ [])
    split x v h = record { after = h.after; is = append_assoc x front (a ∷ []) ∙ h.is }
