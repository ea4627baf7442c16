-- Walks go on by one edge, and what a whole walk has found.
use Rattle.std.proofs.Common.{◌≡◌, ℕ, zero, suc, ◌+◌, ◌<◌, ◌≤◌, [], ◌∷◌, ◌++◌, refl, sym, ◌∙◌, ap, subst, subst₂, arith, ◌⊎◌, inl, inr, Option, Some, None, option_and_then, append_assoc, append-nil}
use Rattle.std.proofs.lemmas.Bool.{cases_lt, cases_order}
use Rattle.theory.specs.Word.{Word, IsOver}
use Rattle.theory.specs.ShortLex.{◌≺◌}
use Rattle.theory.specs.Facts.{AllDefined}
use Rattle.theory.specs.Graph.{Graph, target, path, SameEnd, IsGraph}
use Rattle.theory.proofs.Words.{before_irrefl, before_trans, over_append}
use Rattle.theory.proofs.GraphLaws.{path_append, path_letter}
use Rattle.word_graph.specs.Walk.{NoLater, IsBefore, Walked, IsWalkTo, IsWalk, IsFound, IsTree, IsFirstMissing}
use Rattle.word_graph.proofs.EdgeLaws.{target_in}
use Rattle.word_graph.proofs.TreeLaws.{tree_start, split, tree_found, ascending_found, edge_found}
use Rattle.word_graph.proofs.OrderLaws.{before_behind, letter_before, empty_first, no_later_before, no_later_trans, no_later_behind, front_no_later}

pub some_same : (n m : ℕ) → Some n ≡ Some m → n ≡ m
some_same n m e = cc

-- what comes before the next letter
pub before_next : (p b i a : ℕ) → IsBefore p b i (a + 1) → IsBefore p b i a ⊎ ((p ≡ i) × (b ≡ a))
before_next p b i a (inl h) = inl (inl h)
before_next p b i a (inr h) = go (cases_lt b a)
  where
    go : (b < a) ⊎ (a ≤ b) → IsBefore p b i a ⊎ ((p ≡ i) × (b ≡ a))
    go (inl l) = inl (inr (h.0, l))
    go (inr l) = inr (h.0, omega (arith, h.1, l))

pub before_more : (p b i a : ℕ) → IsBefore p b i a → IsBefore p b i (a + 1)
before_more p b i a (inl h) = inl h
before_more p b i a (inr h) = inr (h.0, omega (arith, h.1))

-- what a walk has found is a tree
pub walk_tree : (k : ℕ) (g : Graph) (w : Walked) (i a : ℕ) → IsWalkTo k g w i a → IsTree k g w
walk_tree k g w i a is = record {
  root = is.root;
  root_place = is.root_place;
  leads = is.leads;
  over = is.over;
  made = λ j some less. let m = is.made j some less in (m.1, m.2, m.3);
  placed = is.placed;
  back = is.back;
}

-- and such a tree, whose words ascend, is a walk
walk_of : (k : ℕ) (g : Graph) (w : Walked) (i a : ℕ) → 0 < w.count → IsTree k g w → ((j l : ℕ) → j < l → l < w.count → w.word j ≺ w.word l)
    → ((j : ℕ) → 0 < j → j < w.count → IsBefore (w.parent j) (w.letter j) i a)
    → ((p b m : ℕ) → p < w.count → IsBefore p b i a → target g (w.node p) b ≡ Some m → (j : ℕ) × (w.place m ≡ Some j) × NoLater (w.word j) (w.word p ++ b ∷ []))
    → IsWalkTo k g w i a
walk_of k g w i a some tree ascending early found = record {
  some = some;
  root = tree.root;
  root_place = tree.root_place;
  leads = tree.leads;
  over = tree.over;
  ascending = ascending;
  made = λ j h less. let m = tree.made j h less in (early j h less, m.0, m.1, m.2);
  placed = tree.placed;
  back = tree.back;
  found = found;
}

module _ (k : ℕ) (g : Graph) (w : Walked) (i a : ℕ) (is : IsWalkTo k g w i a) where
  -- words of earlier edges come before
  edge_before : (p b l c : ℕ) → p < w.count → l < w.count → IsBefore p b l c → (w.word p ++ b ∷ []) ≺ (w.word l ++ c ∷ [])
  edge_before p b l c hp hl (inl h) = before_behind (w.word p) (w.word l) b c (is.ascending p l h hl)
  edge_before p b l c hp hl (inr h) =
      subst (λ z. (w.word z ++ b ∷ []) ≺ (w.word l ++ c ∷ [])) (sym h.0) (letter_before (w.word l) b c h.1)

  -- and words that come before are those of earlier edges
  pub before_edge : (p b l c : ℕ) → p < w.count → l < w.count → (w.word p ++ b ∷ []) ≺ (w.word l ++ c ∷ []) → IsBefore p b l c
  before_edge p b l c hp hl h = go (cases_order p l) (cases_order b c)
    where
      wrong : IsBefore l c p b → ⊥
      wrong e = before_irrefl (w.word p ++ b ∷ []) (before_trans (w.word p ++ b ∷ []) (w.word l ++ c ∷ []) (w.word p ++ b ∷ []) h (edge_before l c p b hl hp e))

      go : (p ≡ l) ⊎ ((p < l) ⊎ (l < p)) → (b ≡ c) ⊎ ((b < c) ⊎ (c < b)) → IsBefore p b l c
      go (inr (inl less)) y = inl less
      go (inr (inr more)) y = absurd (wrong (inl more))
      go (inl e) (inr (inl less)) = inr (e, less)
      go (inl e) (inr (inr more)) = absurd (wrong (inr (sym e, more)))
      go (inl e) (inl d) = absurd (before_irrefl (w.word l ++ c ∷ []) (subst₂ (λ x y. (w.word x ++ y ∷ []) ≺ (w.word l ++ c ∷ [])) e d h))

  -- each word so far comes before that of the next edge
  word_before : (j : ℕ) → j < w.count → i < w.count → w.word j ≺ (w.word i ++ a ∷ [])
  word_before zero hj hi = subst (λ z. z ≺ (w.word i ++ a ∷ [])) (sym is.root) (empty_first (w.word i) a)
  word_before (suc j) hj hi =
      let m = is.made (suc j) (omega arith) hj in
      subst (λ z. z ≺ (w.word i ++ a ∷ [])) (sym (m.3)) (edge_before (w.parent (suc j)) (w.letter (suc j)) i a (omega (arith, m.1, hj)) hi m.0)

  early_more : (j : ℕ) → 0 < j → j < w.count → IsBefore (w.parent j) (w.letter j) i (a + 1)
  early_more j some less = before_more (w.parent j) (w.letter j) i a (is.made j some less).0

  -- no edge here, or one to a node that was found before
  walk_same : i < w.count → ((m : ℕ) → target g (w.node i) a ≡ Some m → (j : ℕ) × (w.place m ≡ Some j)) → IsWalkTo k g w i (a + 1)
  walk_same hi known =
      walk_of k g w i (a + 1) is.some (walk_tree k g w i a is) is.ascending early_more
      (λ p b m hp before e. elim (before_next p b i a before) [
        | inl h ↦ is.found p b m hp h e
        | inr h ↦
            let there = known m (subst₂ (λ x y. target g (w.node x) y ≡ Some m) h.0 h.1 e) in
            let late : NoLater (w.word there.0) (w.word i ++ a ∷ []) = inl (word_before there.0 (is.placed m there.0 there.1).0 hi) in
            (there.0, there.1, subst₂ (λ x y. NoLater (w.word there.0) (w.word x ++ y ∷ [])) (sym h.0) (sym h.1) late)
      ])

  pub walk_none : i < w.count → target g (w.node i) a ≡ None → IsWalkTo k g w i (a + 1)
  walk_none hi none = walk_same hi (λ m e. let e' : None ≡ Some m = sym none ∙ e in absurd (let bad : ⊥ = cc in bad))

  pub walk_known : (next j : ℕ) → i < w.count → target g (w.node i) a ≡ Some next → w.place next ≡ Some j → IsWalkTo k g w i (a + 1)
  walk_known next j hi here known = walk_same hi (λ m e. (j, subst (λ z. w.place z ≡ Some j) (some_same next m (sym here ∙ e)) known))

  -- an edge to a new node
  pub walk_found : (x : Walked) (next : ℕ) → IsFound w x i a next → i < w.count → a < k → target g (w.node i) a ≡ Some next → w.place next ≡ None → IsWalkTo k g x i (a + 1)
  walk_found x next f hi ha here fresh =
      walk_of k g x i (a + 1) (omega (arith, f.count)) (tree_found k g w x i a next tree f hi here fresh ha)
      (ascending_found k g w x i a next tree f hi here fresh (λ u. u) is.ascending (λ j hj. word_before j hj hi))
      (λ j some hj. elim (cases j hj) [
        | inl l ↦ subst₂ (λ y z. IsBefore y z i (a + 1)) (sym (f.parents j l)) (sym (f.letters j l)) (early_more j some l)
        | inr e ↦ inr (ap x.parent e ∙ f.parent_is, omega (arith, ap x.letter e ∙ f.letter_is))
      ])
      (λ p b m hp before e. elim (cases p hp) [
        | inr new ↦ absurd (beyond p b (omega (arith, new, hi)) before)
        | inl l ↦
            edge_found k g w x i a next tree f hi here fresh (λ u. u) (λ p b. (p < w.count) × IsBefore p b i a) (λ p b m d e. is.found p b m d.0 d.1 e) p b m l
            (elim (before_next p b i a before) [ inl h ↦ inl (l, h) | inr h ↦ inr h ]) e
      ])
    where
      tree : IsTree k g w
      tree = walk_tree k g w i a is

      cases : (j : ℕ) → j < x.count → (j < w.count) ⊎ (j ≡ w.count)
      cases = split k g w x i a next tree f hi here fresh

      beyond : (p b : ℕ) → i < p → IsBefore p b i (a + 1) → ⊥
      beyond p b h (inl l) = omega (arith, h, l)
      beyond p b h (inr l) = omega (arith, h, l.0)

-- the row ends
pub walk_row : (k : ℕ) (g : Graph) (w : Walked) (i : ℕ) → IsGraph k g → IsWalkTo k g w i k → IsWalkTo k g w (i + 1) 0
walk_row k g w i graph is =
    walk_of k g w (i + 1) 0 is.some (walk_tree k g w i k is) is.ascending
    (λ j some less. inl (elim (is.made j some less).0 [ inl h ↦ omega (arith, h) | inr h ↦ omega (arith, h.0) ]))
    (λ p b m hp before e. is.found p b m hp (row p b m before e) e)
  where
    row : (p b m : ℕ) → IsBefore p b (i + 1) 0 → target g (w.node p) b ≡ Some m → IsBefore p b i k
    row p b m (inr h) e = absurd (omega (arith, h.1))
    row p b m (inl h) e = go (cases_lt p i)
      where
        go : (p < i) ⊎ (i ≤ p) → IsBefore p b i k
        go (inl l) = inl l
        go (inr l) = inr (omega (arith, h, l), (target_in k g graph (w.node p) b m e).1)

-- before the first edge
pub walk_start : (k : ℕ) (g : Graph) (w : Walked) → w.count ≡ 1 → w.node 0 ≡ 0 → w.word 0 ≡ [] → w.place 0 ≡ Some 0 → ((m : ℕ) → (m ≡ 0 → ⊥) → w.place m ≡ None) → IsWalkTo k g w 0 0
walk_start k g w one node word place none =
    walk_of k g w 0 0 (omega (arith, one)) (tree_start k g w one node word place none)
    (λ j l less h. absurd (omega (arith, one, less, h))) (λ j some h. absurd (omega (arith, one, some, h)))
    (λ p b m h before e. elim before [ inl l ↦ absurd (omega (arith, l)) | inr l ↦ absurd (omega (arith, l.1)) ])

module _ (k : ℕ) (g : Graph) (w : Walked) (is : IsWalk k g w) where
  -- each node that a word leads to has a place, whose word is no later
  pub word_place : (u z : Word) (n m j : ℕ) → w.place n ≡ Some j → NoLater (w.word j) z → path g n u ≡ Some m → (l : ℕ) × (w.place m ≡ Some l) × NoLater (w.word l) (z ++ u)
  word_place [] z n m j at late e =
      let same : n ≡ m = some_same n m e in
      (j, subst (λ y. w.place y ≡ Some j) same at, subst (λ y. NoLater (w.word j) y) (sym (append-nil z)) late)
  word_place (b ∷ u) z n m j at late e = go (target g n b) refl (λ t y h v d. word_place u (z ++ b ∷ []) t m y h v d) e
    where
      go : (t : Option ℕ) → target g n b ≡ t
          → ((t y : ℕ) → w.place t ≡ Some y → NoLater (w.word y) (z ++ b ∷ []) → path g t u ≡ Some m → (l : ℕ) × (w.place m ≡ Some l) × NoLater (w.word l) ((z ++ b ∷ []) ++ u))
          → option_and_then (λ next. path g next u) t ≡ Some m
          → (l : ℕ) × (w.place m ≡ Some l) × NoLater (w.word l) (z ++ (b ∷ u))
      go None h further d = cc
      go (Some t) h further d =
          let p = is.placed n j at in
          let edge : target g (w.node j) b ≡ Some t = ap (λ y. target g y b) p.1 ∙ h in
          let f = is.found j b t p.0 (inl p.0) edge in
          let r = further t f.0 f.1 (no_later_trans (w.word f.0) (w.word j ++ b ∷ []) (z ++ b ∷ []) f.2 (no_later_behind (w.word j) z b late)) d in
          (r.0, r.1, subst (λ y. NoLater (w.word r.0) y) (append_assoc z (b ∷ []) u) r.2)

  -- where the edges for early words are there, early words have a path
  early_path : (Early : Word → Type 0) → ((u v : Word) → NoLater u v → Early v → Early u)
      → ((p b : ℕ) → p < w.count → b < k → Early (w.word p ++ b ∷ []) → (m : ℕ) × (target g (w.node p) b ≡ Some m))
      → (u z : Word) (n j : ℕ) → w.place n ≡ Some j → NoLater (w.word j) z → IsOver k u → Early (z ++ u) → (m : ℕ) × (path g n u ≡ Some m)
  early_path Early down edges [] z n j at late over early = (n, refl)
  early_path Early down edges (b ∷ u) z n j at late over early =
      let p = is.placed n j at in
      let early' : Early ((z ++ b ∷ []) ++ u) = subst Early (sym (append_assoc z (b ∷ []) u)) early in
      let behind : NoLater (w.word j ++ b ∷ []) (z ++ b ∷ []) = no_later_behind (w.word j) z b late in
      let first : Early (z ++ b ∷ []) = down (z ++ b ∷ []) ((z ++ b ∷ []) ++ u) (front_no_later (z ++ b ∷ []) u) early' in
      let edge = edges j b p.0 over.0 (down (w.word j ++ b ∷ []) (z ++ b ∷ []) behind first) in
      let f = is.found j b edge.0 p.0 (inl p.0) edge.1 in
      let here : target g n b ≡ Some edge.0 = ap (λ y. target g y b) (sym p.1) ∙ edge.1 in
      let rest = early_path Early down edges u (z ++ b ∷ []) edge.0 f.0 f.1 (no_later_trans (w.word f.0) (w.word j ++ b ∷ []) (z ++ b ∷ []) f.2 behind) over.1 early' in
      (rest.0, ap (option_and_then (λ next. path g next u)) here ∙ rest.1)

  root_no_later : NoLater (w.word 0) []
  root_no_later = inr is.root

  -- no edge is missing
  pub none_missing : ((p b : ℕ) → p < w.count → b < k → (m : ℕ) × (target g (w.node p) b ≡ Some m)) → AllDefined k (SameEnd g)
  none_missing edges u over =
      let r = early_path (λ v. Unit {0}) (λ u v h e. tt) (λ p b hp hb e. edges p b hp hb) u [] 0 0 is.root_place root_no_later over tt in
      (r.0, r.1, r.1)

  -- the first edge that is missing
  pub first_missing : (i a : ℕ) → i < w.count → a < k → target g (w.node i) a ≡ None
      → ((p b : ℕ) → p < w.count → b < k → IsBefore p b i a → (m : ℕ) × (target g (w.node p) b ≡ Some m)) → IsFirstMissing k g (w.node i) a
  first_missing i a hi ha none edges =
      record {
        word = w.word i;
        leads = is.leads i hi;
        least = record {
          over = over_append k (w.word i) (a ∷ []) (is.over i hi) (ha, tt);
          undefined = λ d.
              let e : path g 0 (w.word i ++ a ∷ []) ≡ None = path_append g 0 (w.node i) (w.word i) (a ∷ []) (is.leads i hi) ∙ path_letter g (w.node i) a ∙ none in
              let e' : None ≡ Some d.0 = sym e ∙ d.1 in
              let bad : ⊥ = cc in bad;
          least = λ v over less.
              let r = early_path (λ u. u ≺ (w.word i ++ a ∷ [])) (λ u v h e. no_later_before u v (w.word i ++ a ∷ []) h e)
              (λ p b hp hb e. edges p b hp hb (before_edge k g w w.count 0 is p b i a hp hi e)) v [] 0 0 is.root_place root_no_later over less in
              (r.0, r.1, r.1);
        };
      }
