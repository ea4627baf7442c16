-- The order of nodes, where the graph changes.
use Rattle.std.proofs.Common.{◌≡◌, ◌≢◌, ℕ, zero, suc, ◌<◌, ◌≤◌, List, [], ◌∷◌, ◌++◌, refl, sym, ◌∙◌, ap, arith, ◌⊎◌, inl, inr, Option, Some, None, subst, cond, nat_lt, Bool, true, false, option_and_then}
use Rattle.std.proofs.lemmas.Bool.{cases_eq, cases_lt}
use Rattle.theory.specs.Word.{Word}
use Rattle.theory.specs.ShortLex.{◌≺◌}
use Rattle.theory.specs.Graph.{Graph, target, path}
use Rattle.theory.proofs.Words.{before_irrefl, before_trans}
use Rattle.std.proofs.Common.{subst₂, append_assoc, append-nil}
use Rattle.theory.specs.Word.{IsOver}
use Rattle.theory.specs.Facts.{AllDefined}
use Rattle.theory.specs.Graph.{SameEnd, IsGraph}
use Rattle.theory.proofs.Words.{over_append}
use Rattle.theory.proofs.LatticeLaws.{path_over}
use Rattle.word_graph.specs.Walk.{NoLater, IsBefore, Walked, IsWalkTo, IsFirstMissing}
use Rattle.word_graph.proofs.WalkLaws.{some_same, before_edge}
use Rattle.word_graph.proofs.OrderLaws.{before_behind, letter_before, no_later_before, no_later_trans, no_later_behind, front_no_later, empty_first}
use Rattle.coincidence.specs.Live.{IsOn}
use Rattle.coincidence.specs.Ordering.{IsOrderTo, before_place, cut_walk, IsSameTo}
use Rattle.coincidence.proofs.FollowsLaws.{path_more}

-- one cell before another, and that before a third
pub before_on : (p b q c i a : ℕ) → IsBefore p b q c → IsBefore q c i a → IsBefore p b i a
before_on p b q c i a (inl h) (inl k) = inl (omega (arith, h, k))
before_on p b q c i a (inl h) (inr k) = inl (omega (arith, h, k.0))
before_on p b q c i a (inr h) (inl k) = inl (omega (arith, h.0, k))
before_on p b q c i a (inr h) (inr k) = inr (h.0 ∙ k.0, omega (arith, h.1, k.1))

-- a walk whose edges are kept goes on
module _ (k : ℕ) (old new : Graph) (w : Walked) (i a : ℕ) (is : IsWalkTo k old w i a) (same : IsSameTo old new w i a) where
  leads : (most j : ℕ) → j < most → j < w.count → path new 0 (w.word j) ≡ Some (w.node j)
  leads zero j h l = absurd (omega (arith, h))
  leads (suc most) j h l = go (leads most) (cases_eq j 0)
    where
      go : ((q : ℕ) → q < most → q < w.count → path new 0 (w.word q) ≡ Some (w.node q)) → (j ≡ 0) ⊎ (j ≢ 0) → path new 0 (w.word j) ≡ Some (w.node j)
      go up_to (inl e) =
          let none : w.word j ≡ [] = ap w.word e ∙ is.root in
          ap (path new 0) none ∙ sym (ap (path old 0) none) ∙ is.leads j l
      go up_to (inr d) =
          let m = is.made j (omega (arith, d)) l in
          let up : w.parent j < w.count = omega (arith, m.1, l) in
          let there : path new 0 (w.word (w.parent j)) ≡ Some (w.node (w.parent j)) = up_to (w.parent j) (omega (arith, m.1, h)) up in
          ap (path new 0) m.3 ∙ path_more new 0 (w.node (w.parent j)) (w.word (w.parent j)) (w.letter j) there ∙ same (w.parent j) (w.letter j) up m.0
          ∙ sym (path_more old 0 (w.node (w.parent j)) (w.word (w.parent j)) (w.letter j) (is.leads (w.parent j) up)) ∙ sym (ap (path old 0) m.3) ∙ is.leads j l

  pub walk_same : IsWalkTo k new w i a
  walk_same = record {
    some = is.some;
    root = is.root;
    root_place = is.root_place;
    leads = λ j l. leads (suc j) j (omega arith) l;
    over = is.over;
    ascending = is.ascending;
    made = is.made;
    placed = is.placed;
    back = is.back;
    found = λ p b m l before e. is.found p b m l before (sym (same p b l before) ∙ e);
  }

-- so the order stays where the edges before the stand do
pub order_stays : (k : ℕ) (old new : Graph) (w : Walked) (i a : ℕ) → ((n b t : ℕ) → target new n b ≡ Some t → b < k)
    → ((q b m : ℕ) → q < w.count → IsBefore q b i a → target old (w.node q) b ≡ Some m → target new (w.node q) b ≡ Some m)
    → IsOrderTo k old w i a → IsOrderTo k new w i a
order_stays k old new w i a letters kept o = record {
  walk = walk_same k old new w i a o.walk same;
  whole = λ p b l h before e. o.whole p b l h before (none p b l before (target old (w.node p) b) refl e);
}
  where
    none : (p b : ℕ) → p < w.count → IsBefore p b i a → (x : Option ℕ) → target old (w.node p) b ≡ x → target new (w.node p) b ≡ None → target old (w.node p) b ≡ None
    none p b l before None e f = e
    none p b l before (Some t) e f = absurd (let no : None ≡ Some t = sym f ∙ kept p b t l before e in let bot : ⊥ = cc in bot)

    same : IsSameTo old new w i a
    same p b l before = go (target old (w.node p) b) (target new (w.node p) b) refl refl
      where
        go : (x y : Option ℕ) → target old (w.node p) b ≡ x → target new (w.node p) b ≡ y → target new (w.node p) b ≡ target old (w.node p) b
        go (Some t) y e f = kept p b t l before e ∙ sym e
        go None None e f = f ∙ sym e
        go None (Some t) e f = absurd (o.whole p b l (letters (w.node p) b t f) before e)

-- the walk before a place
pub place_less : (p : ℕ) (x : Option ℕ) (j : ℕ) → before_place p x ≡ Some j → (x ≡ Some j) × (j < p)
place_less p None j e = cc
place_less p (Some n) j e = go (nat_lt n p) refl e
  where
    go : (b : Bool) → nat_lt n p ≡ b → cond b (Some n) None ≡ Some j → (Some n ≡ Some j) × (j < p)
    go true h e = let same : n ≡ j = some_same n j e in (e, let less : n < p = grind (arith, h) in omega (arith, less, same))
    go false h e = cc

pub place_same : (p : ℕ) (x : Option ℕ) (j : ℕ) → x ≡ Some j → j < p → before_place p x ≡ Some j
place_same p None j e h = cc
place_same p (Some n) j e h =
    let same : n ≡ j = some_same n j e in
    let yes : nat_lt n p ≡ true = grind (arith, same, h) in
    ap (λ b. cond b (Some n) None) yes ∙ e

pub walk_cut : (k : ℕ) (g : Graph) (w : Walked) (i a p : ℕ) → 0 < p → p < w.count → IsWalkTo k g w i a → IsWalkTo k g (cut_walk w p) (w.parent p) (w.letter p)
walk_cut k g w i a p some less is = record {
  some = some;
  root = is.root;
  root_place = place_same p (w.place 0) 0 is.root_place some;
  leads = λ j l. is.leads j (omega (arith, l, less));
  over = λ j l. is.over j (omega (arith, l, less));
  ascending = λ j l h h'. is.ascending j l h (omega (arith, h', less));
  made = λ j h l. let m = is.made j h (omega (arith, l, less)) in (earlier j h l, m.1, m.2, m.3);
  placed = λ m j e. let q = place_less p (w.place m) j e in (q.1, (is.placed m j q.0).1);
  back = λ j l. place_same p (w.place (w.node j)) j (is.back j (omega (arith, l, less))) l;
  found = λ q b m l before e.
      let f = is.found q b m (omega (arith, l, less)) (before_on q b (w.parent p) (w.letter p) i a before (is.made p some less).0) e in
      let first : f.0 < p = sooner q b m f.0 l before f.1 f.2 in
      (f.0, place_same p (w.place m) f.0 f.1 first, f.2);
}
  where
    -- cells come in the order of their words
    cells : (q b q' b' : ℕ) → q < w.count → q' < w.count → IsBefore q b q' b' → (w.word q ++ b ∷ []) ≺ (w.word q' ++ b' ∷ [])
    cells q b q' b' l l' (inl h) = before_behind (w.word q) (w.word q') b b' (is.ascending q q' h l')
    cells q b q' b' l l' (inr h) = subst (λ z. (w.word q ++ b ∷ []) ≺ (w.word z ++ b' ∷ [])) h.0 (letter_before (w.word q) b b' h.1)

    own : (w.parent p < w.count) × (w.word p ≡ w.word (w.parent p) ++ w.letter p ∷ [])
    own = let m = is.made p some less in (omega (arith, m.1, less), m.3)

    earlier : (j : ℕ) → 0 < j → j < p → IsBefore (w.parent j) (w.letter j) (w.parent p) (w.letter p)
    earlier j h l = go (cases_lt (w.parent j) (w.parent p)) (cases_lt (w.letter j) (w.letter p))
      where
        m : (w.parent j < w.count) × (w.word j ≡ w.word (w.parent j) ++ w.letter j ∷ [])
        m = let n = is.made j h (omega (arith, l, less)) in (omega (arith, n.1, l, less), n.3)

        up : w.word j ≺ w.word p
        up = is.ascending j p l less

        later : IsBefore (w.parent p) (w.letter p) (w.parent j) (w.letter j) → ⊥
        later k =
            let down : w.word p ≺ w.word j = subst (λ z. z ≺ w.word j) (sym own.1) (subst (λ z. (w.word (w.parent p) ++ w.letter p ∷ []) ≺ z) (sym m.1) (cells (w.parent p) (w.letter p) (w.parent j) (w.letter j) own.0 m.0 k)) in
            before_irrefl (w.word j) (before_trans (w.word j) (w.word p) (w.word j) up down)

        same : w.parent j ≡ w.parent p → w.letter j ≡ w.letter p → ⊥
        same e d =
            let one : w.word j ≡ w.word p = m.1 ∙ ap (λ z. w.word z ++ w.letter j ∷ []) e ∙ ap (λ z. w.word (w.parent p) ++ z ∷ []) d ∙ sym own.1 in
            before_irrefl (w.word p) (subst (λ z. z ≺ w.word p) one up)

        go : (w.parent j < w.parent p) ⊎ (w.parent p ≤ w.parent j) → (w.letter j < w.letter p) ⊎ (w.letter p ≤ w.letter j) → IsBefore (w.parent j) (w.letter j) (w.parent p) (w.letter p)
        go (inl h) y = inl h
        go (inr h) y = elim (cases_eq (w.parent j) (w.parent p)) [
          | inr d ↦ absurd (later (inl (omega (arith, h, d))))
          | inl e ↦ elim y [
            | inl f ↦ inr (e, f)
            | inr f ↦ elim (cases_eq (w.letter j) (w.letter p)) [ inl d ↦ absurd (same e d) | inr d ↦ absurd (later (inr (sym e, omega (arith, f, d)))) ]
          ]
        ]

    sooner : (q b m j : ℕ) → q < p → IsBefore q b (w.parent p) (w.letter p) → w.place m ≡ Some j → NoLater (w.word j) (w.word q ++ b ∷ []) → j < p
    sooner q b m j l before at no_later = go (cases_lt j p) (cases_eq j p)
      where
        down : w.word j ≺ w.word p
        down = no_later_before (w.word j) (w.word q ++ b ∷ []) (w.word p) no_later
            (subst (λ z. (w.word q ++ b ∷ []) ≺ z) (sym own.1) (cells q b (w.parent p) (w.letter p) (omega (arith, l, less)) own.0 before))

        go : (j < p) ⊎ (p ≤ j) → (j ≡ p) ⊎ (j ≢ p) → j < p
        go (inl h) y = h
        go (inr h) (inl e) = absurd (before_irrefl (w.word p) (subst (λ z. w.word z ≺ w.word p) e down))
        go (inr h) (inr d) = absurd (before_irrefl (w.word j) (before_trans (w.word j) (w.word p) (w.word j) down (is.ascending p j (omega (arith, h, d)) (is.placed m j at).0)))

-- cut before a place, it is an order
pub order_shorter : (k : ℕ) (g : Graph) (w : Walked) (i a p : ℕ) → 0 < p → p < w.count → IsOrderTo k g w i a → IsOrderTo k g (cut_walk w p) (w.parent p) (w.letter p)
order_shorter k g w i a p some less o = record {
  walk = walk_cut k g w i a p some less o.walk;
  whole = λ q b l h before e. o.whole q b (omega (arith, l, less)) h (before_on q b (w.parent p) (w.letter p) i a before (o.walk.made p some less).0) e;
}

-- nodes that live stay where they are
pub order_lives : (k : ℕ) (old new : Graph) (is : List Bool) (w : Walked) (i a : ℕ) → ((n b t : ℕ) → target new n b ≡ Some t → b < k)
    → ((j : ℕ) → j < w.count → IsOn is (w.node j)) → ((j b m : ℕ) → IsOn is j → IsOn is m → target old j b ≡ Some m → target new j b ≡ Some m)
    → IsOrderTo k old w i a → IsOrderTo k new w i a
order_lives k old new is w i a letters lives stays o = order_stays k old new w i a letters kept o
  where
    kept : (q b m : ℕ) → q < w.count → IsBefore q b i a → target old (w.node q) b ≡ Some m → target new (w.node q) b ≡ Some m
    kept q b m l before e =
        let f = o.walk.found q b m l before e in
        let j = o.walk.placed m f.0 f.1 in
        stays (w.node q) b m (lives q l) (subst (IsOn is) j.1 (lives f.0 j.0)) e

-- the same walk, said otherwise
pub record IsAlike (w x : Walked) : Type 0 where
  pub count : x.count ≡ w.count
  pub node_is : (j : ℕ) → j < w.count → x.node j ≡ w.node j
  pub parent_is : (j : ℕ) → j < w.count → x.parent j ≡ w.parent j
  pub letter_is : (j : ℕ) → j < w.count → x.letter j ≡ w.letter j
  pub word_is : (j : ℕ) → x.word j ≡ w.word j
  pub place_is : (m : ℕ) → x.place m ≡ w.place m

module _ (k : ℕ) (g : Graph) (w x : Walked) (i a : ℕ) (e : IsAlike w x) where
  inside : (j : ℕ) → j < x.count → j < w.count
  inside j h = omega (arith, h, e.count)

  walk_as : IsWalkTo k g w i a → IsWalkTo k g x i a
  walk_as is = record {
    some = omega (arith, e.count, is.some);
    root = e.word_is 0 ∙ is.root;
    root_place = e.place_is 0 ∙ is.root_place;
    leads = λ j h. subst₂ (λ u n. path g 0 u ≡ Some n) (sym (e.word_is j)) (sym (e.node_is j (inside j h))) (is.leads j (inside j h));
    over = λ j h. subst (IsOver k) (sym (e.word_is j)) (is.over j (inside j h));
    ascending = λ j l h h'. subst₂ (λ u v. u ≺ v) (sym (e.word_is j)) (sym (e.word_is l)) (is.ascending j l h (inside l h'));
    made = λ j some h. let m = is.made j some (inside j h) in (
      subst₂ (λ p b. IsBefore p b i a) (sym (e.parent_is j (inside j h))) (sym (e.letter_is j (inside j h))) m.0,
      omega (arith, e.parent_is j (inside j h), m.1),
      omega (arith, e.letter_is j (inside j h), m.2),
      e.word_is j ∙ m.3 ∙ subst₂ (λ p b. w.word (w.parent j) ++ w.letter j ∷ [] ≡ x.word p ++ b ∷ []) (sym (e.parent_is j (inside j h))) (sym (e.letter_is j (inside j h))) (ap (λ z. z ++ w.letter j ∷ []) (sym (e.word_is (w.parent j)))),
    );
    placed = λ m j d. let q = is.placed m j (sym (e.place_is m) ∙ d) in (omega (arith, q.0, e.count), e.node_is j q.0 ∙ q.1);
    back = λ j h. ap x.place (e.node_is j (inside j h)) ∙ e.place_is (w.node j) ∙ is.back j (inside j h);
    found = λ p b m h before d.
        let f = is.found p b m (inside p h) before (subst (λ z. target g z b ≡ Some m) (e.node_is p (inside p h)) d) in
        (f.0, e.place_is m ∙ f.1, subst₂ (λ u v. NoLater u (v ++ b ∷ [])) (sym (e.word_is f.0)) (sym (e.word_is p)) f.2);
  }

  pub order_as : IsOrderTo k g w i a → IsOrderTo k g x i a
  order_as o = record {
    walk = walk_as o.walk;
    whole = λ p b h l before d. o.whole p b (inside p h) l before (subst (λ z. target g z b ≡ None) (e.node_is p (inside p h)) d);
  }

there : (x : Option ℕ) → x ≢ None → (m : ℕ) × (x ≡ Some m)
there None h = absurd (h refl)
there (Some m) h = (m, refl)

-- at the first edge that is missing, its word has no path
order_missing : (k : ℕ) (g : Graph) (w : Walked) (i a : ℕ) → IsOrderTo k g w i a → i < w.count → a < k → target g (w.node i) a ≡ None → path g 0 (w.word i ++ a ∷ []) ≡ None
order_missing k g w i a o l h e = path_more g 0 (w.node i) (w.word i) a (o.walk.leads i l) ∙ e

-- what an order tells of words
module _ (k : ℕ) (g : Graph) (w : Walked) (i a : ℕ) (o : IsOrderTo k g w i a) where
  -- words of cells come in their order
  cells : (q b p c : ℕ) → q < w.count → p < w.count → IsBefore q b p c → (w.word q ++ b ∷ []) ≺ (w.word p ++ c ∷ [])
  cells q b p c l l' (inl h) = before_behind (w.word q) (w.word p) b c (o.walk.ascending q p h l')
  cells q b p c l l' (inr h) = subst (λ z. (w.word q ++ b ∷ []) ≺ (w.word z ++ c ∷ [])) h.0 (letter_before (w.word q) b c h.1)

  -- the words found so far come before the cell where the walk stands
  word_stand : (j : ℕ) → j < w.count → i < w.count → w.word j ≺ (w.word i ++ a ∷ [])
  word_stand zero hj hi = subst (λ z. z ≺ (w.word i ++ a ∷ [])) (sym o.walk.root) (empty_first (w.word i) a)
  word_stand (suc j) hj hi =
      let m = o.walk.made (suc j) (omega arith) hj in
      subst (λ z. z ≺ (w.word i ++ a ∷ [])) (sym (m.3)) (cells (w.parent (suc j)) (w.letter (suc j)) i a (omega (arith, m.1, hj)) hi m.0)

  -- before the cell where the walk stands, if it has not ended
  abbrev pub Early : Word → Type 0
  Early v = i < w.count → v ≺ (w.word i ++ a ∷ [])

  early_cell : (j b : ℕ) → j < w.count → Early (w.word j ++ b ∷ []) → IsBefore j b i a
  early_cell j b l early = elim (cases_lt i w.count) [
    | inl hi ↦ before_edge k g w i a o.walk j b i a l hi (early hi)
    | inr past ↦ inl (omega (arith, l, past))
  ]

  -- an early word has a path to a node that is found
  met : (u z : Word) (n j : ℕ) → w.place n ≡ Some j → NoLater (w.word j) z → IsOver k u → Early (z ++ u) → (m l : ℕ) × (path g n u ≡ Some m) × (w.place m ≡ Some l) × NoLater (w.word l) (z ++ u)
  met [] z n j at late over early = (n, j, refl, at, subst (NoLater (w.word j)) (sym (append-nil z)) late)
  met (b ∷ u) z n j at late over early =
      let p = o.walk.placed n j at in
      let early' : Early ((z ++ b ∷ []) ++ u) = subst Early (sym (append_assoc z (b ∷ []) u)) early in
      let behind : NoLater (w.word j ++ b ∷ []) (z ++ b ∷ []) = no_later_behind (w.word j) z b late in
      let no_later : NoLater (w.word j ++ b ∷ []) ((z ++ b ∷ []) ++ u) = no_later_trans (w.word j ++ b ∷ []) (z ++ b ∷ []) ((z ++ b ∷ []) ++ u) behind (front_no_later (z ++ b ∷ []) u) in
      let before : IsBefore j b i a = early_cell j b p.0 (λ hi. no_later_before (w.word j ++ b ∷ []) ((z ++ b ∷ []) ++ u) (w.word i ++ a ∷ []) no_later (early' hi)) in
      let edge = there (target g (w.node j) b) (o.whole j b p.0 over.0 before) in
      let f = o.walk.found j b edge.0 p.0 before edge.1 in
      let here : target g n b ≡ Some edge.0 = ap (λ y. target g y b) (sym p.1) ∙ edge.1 in
      let rest = met u (z ++ b ∷ []) edge.0 f.0 f.1 (no_later_trans (w.word f.0) (w.word j ++ b ∷ []) (z ++ b ∷ []) f.2 behind) over.1 early' in
      (rest.0, rest.1, ap (option_and_then (λ next. path g next u)) here ∙ rest.2, rest.3, subst (NoLater (w.word rest.1)) (append_assoc z (b ∷ []) u) rest.4)

  from_root : (v : Word) → IsOver k v → Early v → (m l : ℕ) × (path g 0 v ≡ Some m) × (w.place m ≡ Some l) × NoLater (w.word l) v
  from_root v over early = met v [] 0 0 o.walk.root_place (inr o.walk.root) over early

  -- where an edge is missing there, its word is the least without a path
  pub order_first : i < w.count → a < k → target g (w.node i) a ≡ None → IsFirstMissing k g (w.node i) a
  order_first hi ha none = record {
    word = w.word i;
    leads = o.walk.leads i hi;
    least = record {
      over = over_append k (w.word i) (a ∷ []) (o.walk.over i hi) (ha, tt);
      undefined = λ d.
          let e : path g 0 (w.word i ++ a ∷ []) ≡ None = order_missing k g w i a o hi ha none in
          let e' : None ≡ Some d.0 = sym e ∙ d.1 in
          let bad : ⊥ = cc in bad;
      least = λ v over less. let r = from_root v over (λ _. less) in (r.0, r.2, r.2);
    };
  }

  -- where the walk has ended, each word has a path
  pub order_whole : w.count ≤ i → AllDefined k (SameEnd g)
  order_whole past v over = let r = from_root v over (λ hi. absurd (omega (arith, past, hi))) in (r.0, r.2, r.2)

  -- a word no later than that of a place leads to a node that is found no later
  pub order_found : (graph : IsGraph k g) (d : ℕ) → d < w.count → (v : Word) (n : ℕ) → v ≺ w.word d → path g 0 v ≡ Some n → (l : ℕ) × (l < d) × (w.node l ≡ n)
  order_found graph d hd v n less e =
      let r = from_root v (path_over k g graph v 0 n e) (λ hi. before_trans v (w.word d) (w.word i ++ a ∷ []) less (word_stand d hd hi)) in
      let same : r.0 ≡ n = some_same r.0 n (sym r.2 ∙ e) in
      let q = o.walk.placed r.0 r.1 r.3 in
      (r.1, sooner r.1 q.0 r.4, q.1 ∙ same)
    where
      sooner : (l : ℕ) → l < w.count → NoLater (w.word l) v → l < d
      sooner l hl late = go (cases_lt l d) (cases_eq l d)
        where
          down : w.word l ≺ w.word d
          down = no_later_before (w.word l) v (w.word d) late less

          go : (l < d) ⊎ (d ≤ l) → (l ≡ d) ⊎ (l ≢ d) → l < d
          go (inl h) y = h
          go (inr h) (inl c) = absurd (before_irrefl (w.word d) (subst (λ z. w.word z ≺ w.word d) c down))
          go (inr h) (inr c) = absurd (before_irrefl (w.word l) (before_trans (w.word l) (w.word d) (w.word l) down (o.walk.ascending d l (omega (arith, h, c)) hl)))

  pub order_all : (graph : IsGraph k g) → w.count ≤ i → (v : Word) (n : ℕ) → path g 0 v ≡ Some n → (l : ℕ) × (l < w.count) × (w.node l ≡ n)
  order_all graph past v n e =
      let r = from_root v (path_over k g graph v 0 n e) (λ hi. absurd (omega (arith, past, hi))) in
      let same : r.0 ≡ n = some_same r.0 n (sym r.2 ∙ e) in
      let q = o.walk.placed r.0 r.1 r.3 in
      (r.1, q.0, q.1 ∙ same)
