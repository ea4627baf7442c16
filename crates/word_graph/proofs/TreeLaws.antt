-- What a walk has found is a tree: its root, and a tree with one place more.
use Rattle.std.proofs.Common.{◌≡◌, ℕ, ◌<◌, [], ◌∷◌, ◌++◌, refl, sym, ◌∙◌, ap, subst, subst₂, arith, ◌⊎◌, inl, inr, Some, None}
use Rattle.std.proofs.lemmas.Bool.{cases_lt, cases_eq}
use Rattle.theory.specs.Word.{Word, IsOver}
use Rattle.theory.specs.ShortLex.{◌≺◌}
use Rattle.theory.specs.Graph.{Graph, target, path}
use Rattle.theory.proofs.Words.{over_append}
use Rattle.theory.proofs.GraphLaws.{path_append, path_letter}
use Rattle.word_graph.specs.Walk.{NoLater, Walked, IsFound, IsTree}

-- the root alone
pub tree_start : (k : ℕ) (g : Graph) (w : Walked) → w.count ≡ 1 → w.node 0 ≡ 0 → w.word 0 ≡ [] → w.place 0 ≡ Some 0 → ((m : ℕ) → (m ≡ 0 → ⊥) → w.place m ≡ None) → IsTree k g w
tree_start k g w one node word place none =
    record {
      root = word;
      root_place = place;
      leads = λ j h. subst (λ z. path g 0 (w.word z) ≡ Some (w.node z)) (root_at j h) (ap (path g 0) word ∙ ap Some (sym node));
      over = λ j h. subst (λ z. IsOver k (w.word z)) (root_at j h) (subst (IsOver k) (sym word) tt);
      made = λ j some h. absurd (omega (arith, one, some, h));
      placed = λ m j e. elim (cases_eq m 0) [
        | inl z ↦ let same : Some j ≡ Some 0 = sym e ∙ ap w.place z ∙ place in let e' : j ≡ 0 = cc in (omega (arith, one, e'), ap w.node e' ∙ node ∙ sym z)
        | inr not ↦ let e' : None ≡ Some j = sym (none m not) ∙ e in absurd (let bad : ⊥ = cc in bad)
      ];
      back = λ j h. subst (λ z. w.place (w.node z) ≡ Some z) (root_at j h) (ap w.place node ∙ place);
    }
  where
    root_at : (j : ℕ) → j < w.count → 0 ≡ j
    root_at j h = omega (arith, one, h)

module _ (k : ℕ) (g : Graph) (w x : Walked) (i a node : ℕ) (tree : IsTree k g w) (f : IsFound w x i a node) (hi : i < w.count) (here : target g (w.node i) a ≡ Some node) (fresh : w.place node ≡ None) where
  pub split : (j : ℕ) → j < x.count → (j < w.count) ⊎ (j ≡ w.count)
  split j hj = elim (cases_lt j w.count) [ inl l ↦ inl l | inr l ↦ inr (omega (arith, l, hj, f.count)) ]

  -- nodes keep their places
  place_kept : (m j : ℕ) → w.place m ≡ Some j → x.place m ≡ Some j
  place_kept m j e = f.places m (λ same. let e' : None ≡ Some j = sym fresh ∙ ap w.place (sym same) ∙ e in let bad : ⊥ = cc in bad) ∙ e

  pub tree_found : a < k → IsTree k g x
  tree_found ha =
      record {
        root = f.words 0 (tree.placed 0 0 tree.root_place).0 ∙ tree.root;
        root_place = place_kept 0 0 tree.root_place;
        leads = λ j hj. elim (split j hj) [
          | inl l ↦ subst₂ (λ u n. path g 0 u ≡ Some n) (sym (f.words j l)) (sym (f.nodes j l)) (tree.leads j l)
          | inr e ↦ subst (λ z. path g 0 (x.word z) ≡ Some (x.node z)) (sym e) (subst₂ (λ u n. path g 0 u ≡ Some n) (sym f.word_is) (sym f.node_is) there)
        ];
        over = λ j hj. elim (split j hj) [
          | inl l ↦ subst (IsOver k) (sym (f.words j l)) (tree.over j l)
          | inr e ↦ subst (λ z. IsOver k (x.word z)) (sym e) (subst (IsOver k) (sym f.word_is) (over_append k (w.word i) (a ∷ []) (tree.over i hi) (ha, tt)))
        ];
        made = λ j some hj. elim (split j hj) [
          | inl l ↦
              let m = tree.made j some l in
              let p : x.parent j ≡ w.parent j = f.parents j l in
              let b : x.letter j ≡ w.letter j = f.letters j l in
              let hp : w.parent j < w.count = omega (arith, m.0, l) in (
                omega (arith, p, m.0),
                omega (arith, b, m.1),
                f.words j l ∙ m.2 ∙ subst₂ (λ y z. w.word (w.parent j) ++ w.letter j ∷ [] ≡ y ++ z ∷ []) (sym (f.words (w.parent j) hp) ∙ ap x.word (sym p)) (sym b) refl,
              )
          | inr e ↦
              let p : x.parent j ≡ i = ap x.parent e ∙ f.parent_is in
              let b : x.letter j ≡ a = ap x.letter e ∙ f.letter_is in (
                omega (arith, p, e, hi),
                omega (arith, b, ha),
                ap x.word e ∙ f.word_is ∙ subst₂ (λ y z. w.word i ++ a ∷ [] ≡ y ++ z ∷ []) (sym (f.words i hi) ∙ ap x.word (sym p)) (sym b) refl,
              )
        ];
        placed = λ m j e. elim (cases_eq m node) [
          | inl same ↦
              let last : Some j ≡ Some w.count = sym e ∙ ap x.place same ∙ f.place_is in
              let e' : j ≡ w.count = cc in
              (omega (arith, e', f.count), ap x.node e' ∙ f.node_is ∙ sym same)
          | inr not ↦
              let old = tree.placed m j (sym (f.places m not) ∙ e) in
              (omega (arith, old.0, f.count), f.nodes j old.0 ∙ old.1)
        ];
        back = λ j hj. elim (split j hj) [
          | inl l ↦ ap x.place (f.nodes j l) ∙ place_kept (w.node j) j (tree.back j l)
          | inr e ↦ subst (λ z. x.place (x.node z) ≡ Some z) (sym e) (ap x.place f.node_is ∙ f.place_is)
        ];
      }
    where
      there : path g 0 (w.word i ++ a ∷ []) ≡ Some node
      there = path_append g 0 (w.node i) (w.word i) (a ∷ []) (tree.leads i hi) ∙ path_letter g (w.node i) a ∙ here

  -- words that ascend as they are read still do
  pub ascending_found : (read : Word → Word) → ((j l : ℕ) → j < l → l < w.count → read (w.word j) ≺ read (w.word l))
      → ((j : ℕ) → j < w.count → read (w.word j) ≺ read (w.word i ++ a ∷ []))
      → (j l : ℕ) → j < l → l < x.count → read (x.word j) ≺ read (x.word l)
  ascending_found read old new j l less hl = elim (split l hl) [
    | inl h ↦ subst₂ (λ u v. read u ≺ read v) (sym (f.words j (omega (arith, less, h)))) (sym (f.words l h)) (old j l less h)
    | inr e ↦
        let hj : j < w.count = omega (arith, less, e) in
        subst (λ z. read (x.word j) ≺ read (x.word z)) (sym e) (subst₂ (λ u v. read u ≺ read v) (sym (f.words j hj)) (sym f.word_is) (new j hj))
  ]

  -- what edges lead to is found, where that held of edges that were done, and now this one is
  pub edge_found : (read : Word → Word) (Done : ℕ → ℕ → Type 0)
      → ((p b m : ℕ) → Done p b → target g (w.node p) b ≡ Some m → (j : ℕ) × (w.place m ≡ Some j) × NoLater (read (w.word j)) (read (w.word p ++ b ∷ [])))
      → (p b m : ℕ) → p < w.count → Done p b ⊎ ((p ≡ i) × (b ≡ a)) → target g (x.node p) b ≡ Some m
      → (j : ℕ) × (x.place m ≡ Some j) × NoLater (read (x.word j)) (read (x.word p ++ b ∷ []))
  edge_found read Done found p b m l done e =
      let e' : target g (w.node p) b ≡ Some m = subst (λ z. target g z b ≡ Some m) (f.nodes p l) e in
      elim done [
        | inl h ↦
            let old = found p b m h e' in (
              old.0,
              place_kept m old.0 old.1,
              subst₂ (λ u v. NoLater (read u) (read (v ++ b ∷ []))) (sym (f.words old.0 (tree.placed m old.0 old.1).0)) (sym (f.words p l)) old.2,
            )
        | inr h ↦
            let e'' : target g (w.node i) a ≡ Some m = subst₂ (λ y z. target g (w.node y) z ≡ Some m) h.0 h.1 e' in
            let at : Some node ≡ Some m = sym here ∙ e'' in
            let same : node ≡ m = cc in (
              w.count,
              ap x.place (sym same) ∙ f.place_is,
              inr (ap read (f.word_is ∙ subst₂ (λ y z. w.word i ++ a ∷ [] ≡ y ++ z ∷ []) (ap w.word (sym h.0) ∙ sym (f.words p l)) (sym h.1) refl)),
            )
      ]
