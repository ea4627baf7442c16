-- A graph with the places of a walk for its nodes shows the same, and is numbered by first appearance.
use Rattle.std.proofs.Common.{◌≡◌, ℕ, suc, ◌<◌, [], ◌∷◌, ◌++◌, length, refl, sym, ◌∙◌, ap, subst, arith, inl, inr, Option, Some, None, option_and_then}
use Rattle.std.proofs.lemmas.Bool.{cases_lt}
use Rattle.theory.specs.Word.{Word}
use Rattle.theory.specs.ShortLex.{◌≺◌}
use Rattle.theory.specs.Facts.{AllDefined}
use Rattle.theory.specs.Graph.{Graph, target, path, SameEnd, PathsRelate, IsComplete}
use Rattle.theory.proofs.GraphLaws.{path_append, path_letter, all_defined_complete}
use Rattle.word_graph.specs.Walk.{NoLater, IsBefore, Walked, IsWalk, IsRenumbering}
use Rattle.word_graph.proofs.WalkLaws.{some_same, before_edge}
use Rattle.word_graph.proofs.OrderLaws.{no_later_before}

module _ (k : ℕ) (g : Graph) (w : Walked) (h : Graph) (is : IsWalk k g w) (ren : IsRenumbering g w h) where
  -- an edge leads to the place of its target
  edge_there : (p b t j : ℕ) → p < w.count → target g (w.node p) b ≡ Some t → w.place t ≡ Some j → target h p b ≡ Some j
  edge_there p b t j hp e at = ren.edges p b hp ∙ ap (option_and_then w.place) e ∙ at

  -- and only there
  edge_back : (p b j : ℕ) → p < w.count → target h p b ≡ Some j → (t : ℕ) × (target g (w.node p) b ≡ Some t) × (w.place t ≡ Some j)
  edge_back p b j hp e = go (target g (w.node p) b) refl (sym (ren.edges p b hp) ∙ e)
    where
      go : (o : Option ℕ) → target g (w.node p) b ≡ o → option_and_then w.place o ≡ Some j → (t : ℕ) × (target g (w.node p) b ≡ Some t) × (w.place t ≡ Some j)
      go None d f = cc
      go (Some t) d f = (t, d, f)

  forward : (u : Word) (p m : ℕ) → p < w.count → path g (w.node p) u ≡ Some m → (j : ℕ) × (w.place m ≡ Some j) × (path h p u ≡ Some j)
  forward [] p m hp e = (p, subst (λ z. w.place z ≡ Some p) (some_same (w.node p) m e) (is.back p hp), refl)
  forward (b ∷ u) p m hp e = go (target g (w.node p) b) refl (λ q hq d. forward u q m hq d) e
    where
      go : (o : Option ℕ) → target g (w.node p) b ≡ o
          → ((q : ℕ) → q < w.count → path g (w.node q) u ≡ Some m → (j : ℕ) × (w.place m ≡ Some j) × (path h q u ≡ Some j))
          → option_and_then (λ next. path g next u) o ≡ Some m → (j : ℕ) × (w.place m ≡ Some j) × (path h p (b ∷ u) ≡ Some j)
      go None d further f = cc
      go (Some t) d further f =
          let found = is.found p b t hp (inl hp) d in
          let placed = is.placed t found.0 found.1 in
          let rest = further found.0 placed.0 (ap (λ z. path g z u) placed.1 ∙ f) in
          (rest.0, rest.1, ap (option_and_then (λ next. path h next u)) (edge_there p b t found.0 hp d found.1) ∙ rest.2)

  backward : (u : Word) (p j : ℕ) → p < w.count → path h p u ≡ Some j → (j < w.count) × (path g (w.node p) u ≡ Some (w.node j))
  backward [] p j hp e =
      let same : p ≡ j = some_same p j e in
      (subst (λ z. z < w.count) same hp, ap (λ z. Some (w.node z)) same)
  backward (b ∷ u) p j hp e = go (target h p b) refl (λ q hq d. backward u q j hq d) e
    where
      go : (o : Option ℕ) → target h p b ≡ o
          → ((q : ℕ) → q < w.count → path h q u ≡ Some j → (j < w.count) × (path g (w.node q) u ≡ Some (w.node j)))
          → option_and_then (λ next. path h next u) o ≡ Some j → (j < w.count) × (path g (w.node p) (b ∷ u) ≡ Some (w.node j))
      go None d further f = cc
      go (Some q) d further f =
          let back = edge_back p b q hp d in
          let placed = is.placed back.0 q back.2 in
          let rest = further q placed.0 f in
          (rest.0, ap (option_and_then (λ next. path g next u)) (back.1 ∙ ap (λ z. Some z) (sym placed.1)) ∙ rest.1)

  root_node : w.node 0 ≡ 0
  root_node = (is.placed 0 0 is.root_place).1

  place_same : (m i j : ℕ) → w.place m ≡ Some i → w.place m ≡ Some j → i ≡ j
  place_same m i j e d = some_same i j (sym e ∙ d)

  -- the same paths are equal
  pub renumbered_paths : PathsRelate h (SameEnd g)
  renumbered_paths u v = (there, here)
    where
      there : SameEnd h u v → SameEnd g u v
      there e =
          let x = backward u 0 e.0 is.some e.1 in
          let y = backward v 0 e.0 is.some e.2 in
          (w.node e.0, subst (λ z. path g z u ≡ Some (w.node e.0)) root_node x.1, subst (λ z. path g z v ≡ Some (w.node e.0)) root_node y.1)

      here : SameEnd g u v → SameEnd h u v
      here e =
          let x = forward u 0 e.0 is.some (subst (λ z. path g z u ≡ Some e.0) (sym root_node) e.1) in
          let y = forward v 0 e.0 is.some (subst (λ z. path g z v ≡ Some e.0) (sym root_node) e.2) in
          (x.0, x.2, y.2 ∙ ap (λ z. Some z) (place_same e.0 y.0 x.0 y.1 x.1))

  -- the word of a place leads to it
  pub word_leads : (n : ℕ) → n < w.count → path h 0 (w.word n) ≡ Some n
  word_leads n less =
      let x = forward (w.word n) 0 (w.node n) is.some (subst (λ z. path g z (w.word n) ≡ Some (w.node n)) (sym root_node) (is.leads n less)) in
      x.2 ∙ ap (λ z. Some z) (place_same (w.node n) x.0 n x.1 (is.back n less))

  pub renumbered_nodes : (p b j : ℕ) → target h p b ≡ Some j → j < length h
  renumbered_nodes p b j e = elim (cases_lt p w.count) [
    | inl hp ↦
        let back = edge_back p b j hp e in
        omega (arith, (is.placed back.0 j back.2).0, ren.count)
    | inr past ↦ absurd (let e' : None ≡ Some j = sym (ren.past p b past) ∙ e in let bad : ⊥ = cc in bad)
  ]

  inside : (p b j : ℕ) → target h p b ≡ Some j → p < w.count
  inside p b j e = elim (cases_lt p w.count) [
    | inl hp ↦ hp
    | inr past ↦ absurd (let e' : None ≡ Some j = sym (ren.past p b past) ∙ e in let bad : ⊥ = cc in bad)
  ]

  -- each place but the first is reached from an earlier one
  pub place_edge : (n : ℕ) → 0 < n → n < w.count → (w.parent n < n) × (w.letter n < k) × (target h (w.parent n) (w.letter n) ≡ Some n)
  place_edge n some less =
      let m = is.made n some less in
      let at : path h 0 (w.word (w.parent n)) ≡ Some (w.parent n) = word_leads (w.parent n) (omega (arith, m.1, less)) in
      let whole : path h 0 (w.word (w.parent n) ++ w.letter n ∷ []) ≡ Some n = ap (λ z. path h 0 z) (sym (m.3)) ∙ word_leads n less in
      (m.1, m.2, sym (path_letter h (w.parent n) (w.letter n)) ∙ sym (path_append h 0 (w.parent n) (w.word (w.parent n)) (w.letter n ∷ []) at) ∙ whole)

  -- the place before the one that an edge leads to appears before
  pub appears_before : (i b n : ℕ) → target h i b ≡ Some (suc (suc n)) → (p c : ℕ) × IsBefore p c i b × (target h p c ≡ Some (suc n))
  appears_before i b n e =
      let hi = inside i b (suc (suc n)) e in
      let back = edge_back i b (suc (suc n)) hi e in
      let less = (is.placed back.0 (suc (suc n)) back.2).0 in
      let found = is.found i b back.0 hi (inl hi) back.1 in
      let late : NoLater (w.word (suc (suc n))) (w.word i ++ b ∷ []) = subst (λ z. NoLater (w.word z) (w.word i ++ b ∷ [])) (place_same back.0 found.0 (suc (suc n)) found.1 back.2) found.2 in
      let hn : suc n < w.count = omega (arith, less) in
      let m = is.made (suc n) (omega arith) hn in
      let edge = place_edge (suc n) (omega arith) hn in
      let before : (w.word (w.parent (suc n)) ++ w.letter (suc n) ∷ []) ≺ (w.word i ++ b ∷ []) = subst (λ z. z ≺ (w.word i ++ b ∷ [])) (m.3) (earlier (suc n) (suc (suc n)) (omega arith) less i b late) in
      (w.parent (suc n), w.letter (suc n), before_edge k g w w.count 0 is (w.parent (suc n)) (w.letter (suc n)) i b (omega (arith, m.1, hn)) hi before, edge.2)
    where
      before_late : (u v z : Word) → u ≺ v → NoLater v z → u ≺ z
      before_late u v z h late = elim late [ inl l ↦ no_later_before u v z (inl h) l | inr e ↦ subst (λ y. u ≺ y) e h ]

      earlier : (j l : ℕ) → j < l → l < w.count → (i b : ℕ) → NoLater (w.word l) (w.word i ++ b ∷ []) → w.word j ≺ (w.word i ++ b ∷ [])
      earlier j l less hl i b late = before_late (w.word j) (w.word l) (w.word i ++ b ∷ []) (is.ascending j l less hl) late

  -- where all words are defined, no edge is missing
  pub renumbered_complete : AllDefined k (SameEnd g) → IsComplete k h
  renumbered_complete all =
      all_defined_complete k h
      (λ n less. let hn : n < w.count = omega (arith, less, ren.count) in (w.word n, is.over n hn, word_leads n hn))
      (λ v over. (renumbered_paths v v).1 (all v over))
