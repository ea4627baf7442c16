-- Walks by levels go on by one edge, and what a whole walk has found.
use Rattle.std.proofs.Common.{◌≡◌, ℕ, suc, ◌+◌, ◌<◌, ◌≤◌, [], ◌∷◌, ◌++◌, length, refl, sym, ◌∙◌, ap, subst, subst₂, arith, ◌⊎◌, inl, inr, Option, Some, None, option_and_then, reverse, length-append}
use Rattle.std.proofs.lemmas.Bool.{cases_lt}
use Rattle.std.proofs.lemmas.List.{reverse-append, reverse-reverse, length-reverse}
use Rattle.theory.specs.Word.{Word, IsOver}
use Rattle.theory.specs.ShortLex.{◌≺◌}
use Rattle.theory.specs.Graph.{Graph, target, path, IsGraph}
use Rattle.theory.specs.Backwards.{AreWordsBackwards}
use Rattle.theory.proofs.Words.{nat_Less, shorter_first, letters_first, before_cons}
use Rattle.theory.proofs.KindLaws.{over_turned}
use Rattle.word_graph.specs.Walk.{NoLater, IsBefore, Walked, IsFound}
use Rattle.word_graph.specs.Levels.{Frontier, frontier_at, IsDone, IsLevelWalk}
use Rattle.word_graph.specs.Backwards.{AreAllReached}
use Rattle.word_graph.proofs.EdgeLaws.{target_in}
use Rattle.word_graph.proofs.TreeLaws.{tree_start, split, tree_found, ascending_found, edge_found}
use Rattle.word_graph.proofs.WalkLaws.{some_same, before_next, before_more}

-- a letter behind stands in front when it is read backwards
behind_front : (u : Word) (a : ℕ) → reverse (u ++ a ∷ []) ≡ a ∷ reverse u
behind_front u a = reverse-append u (a ∷ [])

less_front : (u v : Word) (b a : ℕ) → length u ≡ length v → b < a → (b ∷ u) ≺ (a ∷ v)
less_front u v b a e h = letters_first (b ∷ u) (a ∷ v) (ap suc e) (rw (nat_Less b a h) refl)

module _ (k : ℕ) (g : Graph) (w : Walked) (at : Frontier) (is : IsLevelWalk k g w at) (hf : at.from ≤ at.place) (hi : at.place < at.to) where
  split_done : (p b : ℕ) → IsDone (record at { place = at.place + 1 }) p b → IsDone at p b ⊎ ((p ≡ at.place) × (b ≡ at.letter))
  split_done p b (inl h) = inl (inl h)
  split_done p b (inr h) = elim (before_next b p at.letter at.place h.1) [ inl l ↦ inl (inr (h.0, l)) | inr e ↦ inr (e.1, e.0) ]

  -- each word so far comes before that of the next edge
  all_before : (j : ℕ) → j < w.count → reverse (w.word j) ≺ reverse (w.word at.place ++ at.letter ∷ [])
  all_before j hj = subst (λ u. reverse (w.word j) ≺ u) (sym (behind_front (w.word at.place) at.letter)) (go (cases_lt j at.to))
    where
      go : (j < at.to) ⊎ (at.to ≤ j) → reverse (w.word j) ≺ (at.letter ∷ reverse (w.word at.place))
      go (inl l) =
          shorter_first (reverse (w.word j)) (at.letter ∷ reverse (w.word at.place))
          (omega (arith, is.before j l, is.level at.place hf hi, length-reverse (w.word j), length-reverse (w.word at.place)))
      go (inr l) =
          let n = is.next j l hj in
          let m = is.tree.made j (omega (arith, l, hi)) hj in
          let front : reverse (w.word j) ≡ w.letter j ∷ reverse (w.word (w.parent j)) = ap reverse m.2 ∙ behind_front (w.word (w.parent j)) (w.letter j) in
          subst (λ u. u ≺ (at.letter ∷ reverse (w.word at.place))) (sym front) (level_before front n.0 n.1)
        where
          level_before : reverse (w.word j) ≡ w.letter j ∷ reverse (w.word (w.parent j)) → length (w.word j) ≡ is.depth + 1 → IsBefore (w.letter j) (w.parent j) at.letter at.place
              → (w.letter j ∷ reverse (w.word (w.parent j))) ≺ (at.letter ∷ reverse (w.word at.place))
          level_before front long (inl less) =
              less_front (reverse (w.word (w.parent j))) (reverse (w.word at.place)) (w.letter j) at.letter
              (omega (arith, ap length front, long, is.level at.place hf hi, length-reverse (w.word j), length-reverse (w.word at.place))) less
          level_before front long (inr h) =
              subst (λ b. (b ∷ reverse (w.word (w.parent j))) ≺ (at.letter ∷ reverse (w.word at.place))) (sym h.0)
              (before_cons at.letter (reverse (w.word (w.parent j))) (reverse (w.word at.place)) (is.ascending (w.parent j) at.place h.1 (omega (arith, hi, is.within))))

  -- no edge here, or one to a node that was found before
  pub level_same : ((m : ℕ) → target g (w.node at.place) at.letter ≡ Some m → (j : ℕ) × (w.place m ≡ Some j)) → IsLevelWalk k g w (record at { place = at.place + 1 })
  level_same known =
      record {
        depth = is.depth;
        within = is.within;
        before = is.before;
        level = is.level;
        next = λ j h l. let n = is.next j h l in (n.0, before_more (w.letter j) (w.parent j) at.letter at.place n.1);
        tree = is.tree;
        ascending = is.ascending;
        found = λ p b m done e. elim (split_done p b done) [
          | inl h ↦ is.found p b m h e
          | inr h ↦
              let there = known m (subst₂ (λ x y. target g (w.node x) y ≡ Some m) h.0 h.1 e) in
              let late : NoLater (reverse (w.word there.0)) (reverse (w.word at.place ++ at.letter ∷ [])) = inl (all_before there.0 (is.tree.placed m there.0 there.1).0) in
              (there.0, there.1, subst₂ (λ x y. NoLater (reverse (w.word there.0)) (reverse (w.word x ++ y ∷ []))) (sym h.0) (sym h.1) late)
        ];
      }

  -- an edge to a new node
  pub level_found : (x : Walked) (node : ℕ) → IsFound w x at.place at.letter node → at.letter < k → target g (w.node at.place) at.letter ≡ Some node → w.place node ≡ None → IsLevelWalk k g x (record at { place = at.place + 1 })
  level_found x node f ha here fresh =
      record {
        depth = is.depth;
        within = omega (arith, f.count, is.within);
        before = λ j h. subst (λ u. length u ≤ is.depth) (sym (f.words j (early j h))) (is.before j h);
        level = λ j h l. ap length (f.words j (early j l)) ∙ is.level j h l;
        next = λ j h l. elim (split k g w x at.place at.letter node is.tree f inside here fresh j l) [
          | inl old ↦
              let n = is.next j h old in
              (ap length (f.words j old) ∙ n.0, subst₂ (λ y z. IsBefore y z at.letter (at.place + 1)) (sym (f.letters j old)) (sym (f.parents j old)) (before_more (w.letter j) (w.parent j) at.letter at.place n.1))
          | inr e ↦
              let p : x.parent j ≡ at.place = ap x.parent e ∙ f.parent_is in (
                ap (λ z. length (x.word z)) e ∙ ap length f.word_is ∙ length-append (w.word at.place) (at.letter ∷ []) ∙ ap (λ n. n + 1) (is.level at.place hf hi),
                inr (ap x.letter e ∙ f.letter_is, omega (arith, p)),
              )
        ];
        tree = tree_found k g w x at.place at.letter node is.tree f inside here fresh ha;
        ascending = ascending_found k g w x at.place at.letter node is.tree f inside here fresh reverse is.ascending all_before;
        found = λ p b m done e. edge_found k g w x at.place at.letter node is.tree f inside here fresh reverse (IsDone at) is.found p b m (early p (done_early p b done)) (split_done p b done) e;
      }
    where
      inside : at.place < w.count
      inside = omega (arith, hi, is.within)

      early : (j : ℕ) → j < at.to → j < w.count
      early j h = omega (arith, h, is.within)

      done_early : (p b : ℕ) → IsDone (record at { place = at.place + 1 }) p b → p < at.to
      done_early p b (inl h) = omega (arith, h, hf, hi)
      done_early p b (inr h) = h.0

-- the letter is done
pub level_letter : (k : ℕ) (g : Graph) (w : Walked) (from to a : ℕ) → IsLevelWalk k g w (frontier_at from to a to) → IsLevelWalk k g w (frontier_at from to (a + 1) from)
level_letter k g w from to a is =
    record {
      depth = is.depth;
      within = is.within;
      before = is.before;
      level = is.level;
      next = λ j h l. let n = is.next j h l in (n.0, inl (elim n.1 [ inl less ↦ omega (arith, less) | inr same ↦ omega (arith, same.0) ]));
      tree = is.tree;
      ascending = is.ascending;
      found = λ p b m done e. is.found p b m (earlier p b done) e;
    }
  where
    earlier : (p b : ℕ) → IsDone (frontier_at from to (a + 1) from) p b → IsDone (frontier_at from to a to) p b
    earlier p b (inl h) = inl h
    earlier p b (inr h) = elim h.1 [
      | inl l ↦ elim (cases_lt b a) [ inl less ↦ inr (h.0, inl less) | inr more ↦ inr (h.0, inr (omega (arith, l, more), h.0)) ]
      | inr e ↦ inl e.1
    ]

-- the level is done
pub level_next : (k : ℕ) (g : Graph) (w : Walked) (from to : ℕ) → IsGraph k g → IsLevelWalk k g w (frontier_at from to k from) → IsLevelWalk k g w (frontier_at to w.count 0 to)
level_next k g w from to graph is =
    record {
      depth = is.depth + 1;
      within = omega arith;
      before = λ j h. elim (cases_lt j to) [ inl l ↦ omega (arith, is.before j l) | inr l ↦ omega (arith, (is.next j l h).0) ];
      level = λ j h l. (is.next j h l).0;
      next = λ j h l. absurd (omega (arith, h, l));
      tree = is.tree;
      ascending = is.ascending;
      found = λ p b m done e. is.found p b m (inr (earlier p b done, inl (target_in k g graph (w.node p) b m e).1)) e;
    }
  where
    earlier : (p b : ℕ) → IsDone (frontier_at to w.count 0 to) p b → p < to
    earlier p b (inl h) = h
    earlier p b (inr h) = elim h.1 [ inl l ↦ absurd (omega (arith, l)) | inr e ↦ e.1 ]

-- before the first edge
pub level_start : (k : ℕ) (g : Graph) (w : Walked) → w.count ≡ 1 → w.node 0 ≡ 0 → ((j : ℕ) → w.word j ≡ []) → w.place 0 ≡ Some 0
    → ((m : ℕ) → (m ≡ 0 → ⊥) → w.place m ≡ None) → IsLevelWalk k g w (frontier_at 0 1 0 0)
level_start k g w one node word place none =
    record {
      depth = 0;
      within = omega (arith, one);
      before = λ j h. omega (arith, ap length (word j));
      level = λ j h l. ap length (word j);
      next = λ j h l. absurd (omega (arith, one, h, l));
      tree = tree_start k g w one node (word 0) place none;
      ascending = λ j l less h. absurd (omega (arith, one, less, h));
      found = λ p b m done e. absurd (elim done [ inl h ↦ omega (arith, h) | inr h ↦ elim h.1 [ inl l ↦ omega (arith, l) | inr l ↦ omega (arith, l.1) ] ]);
    }

module _ (k : ℕ) (g : Graph) (w : Walked) (is : IsLevelWalk k g w (frontier_at w.count w.count 0 w.count)) where
  -- each node that a word leads to has a place
  word_placed : (u : Word) (n m j : ℕ) → w.place n ≡ Some j → path g n u ≡ Some m → (l : ℕ) × (w.place m ≡ Some l)
  word_placed [] n m j at e = (j, subst (λ z. w.place z ≡ Some j) (some_same n m e) at)
  word_placed (b ∷ u) n m j at e = go (target g n b) refl (λ t y h d. word_placed u t m y h d) e
    where
      go : (t : Option ℕ) → target g n b ≡ t → ((t y : ℕ) → w.place t ≡ Some y → path g t u ≡ Some m → (l : ℕ) × (w.place m ≡ Some l))
          → option_and_then (λ next. path g next u) t ≡ Some m → (l : ℕ) × (w.place m ≡ Some l)
      go None h further d = cc
      go (Some t) h further d =
          let p = is.tree.placed n j at in
          let f = is.found j b t (inl p.0) (ap (λ y. target g y b) p.1 ∙ h) in
          further t f.0 f.1 d

  module _ (all : AreAllReached g) where
    pub node_placed : (node : ℕ) → node < length g → (j : ℕ) × (w.place node ≡ Some j)
    node_placed node h = let r = all node h in word_placed r.0 0 node 0 is.tree.root_place r.1

    -- no edge leads to a node with a greater word
    pub words_backwards : (word : ℕ → Word) → IsGraph k g → ((node j : ℕ) → node < length g → w.place node ≡ Some j → word node ≡ reverse (w.word j))
        → AreWordsBackwards k g word
    words_backwards word graph same =
        record {
          root = same 0 0 graph.rooted is.tree.root_place ∙ ap reverse is.tree.root;
          over = λ node h.
              let at = node_placed node h in
              subst (λ u. IsOver k u) (sym (same node at.0 h at.1)) (over_turned k (w.word at.0) (is.tree.over at.0 (is.tree.placed node at.0 at.1).0));
          leads = λ node h.
              let at = node_placed node h in
              let p = is.tree.placed node at.0 at.1 in
              ap (λ u. path g 0 (reverse u)) (same node at.0 h at.1) ∙ ap (path g 0) (reverse-reverse (w.word at.0)) ∙ is.tree.leads at.0 p.0 ∙ ap Some p.1;
          edges = λ node letter next h l e.
              let at = node_placed node h in
              let p = is.tree.placed node at.0 at.1 in
              let f = is.found at.0 letter next (inl p.0) (ap (λ y. target g y letter) p.1 ∙ e) in
              subst₂ (λ u v. NoLater u (letter ∷ v)) (sym (same next f.0 (graph.nodes node letter next e) f.1)) (sym (same node at.0 h at.1)) (subst (NoLater (reverse (w.word f.0))) (behind_front (w.word at.0) letter) f.2);
        }
