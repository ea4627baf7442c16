-- One step of closing draws what follows.
use Rattle.std.proofs.Common.{◌≡◌, ℕ, [], ◌∷◌, ◌++◌, refl, sym, ◌∙◌, ap, inl, inr, Option, Some, None, append_assoc, append-nil, subst, option_and_then}
use Rattle.theory.specs.Word.{Word}
use Rattle.theory.specs.Congruence.{Congruence}
use Rattle.theory.specs.Graph.{Graph, target, path, SameEnd, IsClosedAt, PathsRelate}
use Rattle.theory.proofs.GraphLaws.{path_append}
use Rattle.theory.specs.Facts.{ClosedAt}
use Rattle.theory.proofs.PartLaws.{given, symmetric, transitive, extended, relation, pair}
use Rattle.theory.proofs.FactsLaws.{follows_least}
use Rattle.coincidence.specs.Merged.{WithPair, MergedNodes}
use Rattle.coincidence.specs.Closing.{IsEdged, IsReadAt, LeadsThere, ClosedThere, IsDue, by_relation, by_pair}
use Rattle.coincidence.proofs.FollowsLaws.{follows_letters, follows_left, graph_has_follows, path_more}

-- a word that leads to a node where relations are read
leads_there : (g : Graph) (at : Option ℕ) (node : ℕ) (w : Word) → IsReadAt at node → path g 0 w ≡ Some node → LeadsThere g at w
leads_there g None node w here h = tt
leads_there g (Some k) node w here h = h ∙ ap (λ z. Some z) here

-- a word that leads to m is related to one that leads to j, and a
pub due_related : (c : Congruence) (g : Graph) (at : Option ℕ) (j a m : ℕ) → IsDue c g at j a m → (u v : Word) → path g 0 u ≡ Some j → path g 0 v ≡ Some m → ClosedThere c g at (u ++ a ∷ []) v
due_related c g at j a m d u v hu hv = go d
  where
    -- by a word x that leads to m, and a word y that leads to j
    by : (x y : Word) → path g 0 x ≡ Some m → path g 0 y ≡ Some j → ClosedThere c g at x (y ++ a ∷ []) → ClosedThere c g at (u ++ a ∷ []) v
    by x y hx hy f =
        let next : ClosedThere c g at (y ++ a ∷ []) (u ++ a ∷ []) = extended y u a (given (j, hy, hu)) (transitive (symmetric f) f) in
        transitive (symmetric next) (transitive (symmetric f) (given (m, hx, hv)))

    go : IsDue c g at j a m → ClosedThere c g at (u ++ a ∷ []) v
    go (by_relation node w here hw k) =
        let x : path g 0 (w ++ k.r) ≡ Some m = path_append g 0 node w k.r hw ∙ k.first in
        let y : path g 0 (w ++ k.s) ≡ Some j = path_append g 0 node w k.s hw ∙ k.second in
        let f : ClosedThere c g at (w ++ k.r) (w ++ (k.s ++ a ∷ [])) = relation w w k.r k.s a (given (node, hw, hw)) (leads_there g at node w here hw) k.sides (given (m, x, x)) (given (j, y, y)) in
        by (w ++ k.r) (w ++ k.s) x y (rw append_assoc f)
    go (by_pair k) = by k.r k.s k.first k.second (pair k.r k.s a k.sides (given (m, k.first, k.first)) (given (j, k.second, k.second)))

-- where the edge leads elsewhere, the two ends hold related words
pub due_ends : (c : Congruence) (g : Graph) (at : Option ℕ) (j a m t : ℕ) → IsDue c g at j a m → (w : Word) → path g 0 w ≡ Some j → target g j a ≡ Some t → (u v : Word) → path g 0 u ≡ Some t → path g 0 v ≡ Some m → ClosedThere c g at u v
due_ends c g at j a m t d w hw e u v hu hv =
    let there : path g 0 (w ++ a ∷ []) ≡ Some t = path_more g 0 j w a hw ∙ e in
    transitive (given (t, hu, there)) (due_related c g at j a m d w v hw hv)

-- paths stay where an edge is added
pub edged_path : (old new : Graph) (j a m : ℕ) → IsEdged old new j a m → (n t : ℕ) (u : Word) → path old n u ≡ Some t → path new n u ≡ Some t
edged_path old new j a m f n t [] e = e
edged_path old new j a m f n t (b ∷ u) e = go (target old n b) refl (λ k h. edged_path old new j a m f k t u h) e
  where
    go : (x : Option ℕ) → target old n b ≡ x → ((k : ℕ) → path old k u ≡ Some t → path new k u ≡ Some t) → option_and_then (λ next. path old next u) x ≡ Some t → option_and_then (λ next. path new next u) (target new n b) ≡ Some t
    go None h further e = cc
    go (Some k) h further e = rw (f.kept n b k h) (further k e)

module _ (c : Congruence) (old new : Graph) (at : Option ℕ) (j a m : ℕ) (f : IsEdged old new j a m) (d : IsDue c old at j a m) (wm : Word) (hm : path old 0 wm ≡ Some m) where
  -- each path of the new graph ends where a related path of the old one does
  lifted : (u z w : Word) (n t : ℕ) → path old 0 w ≡ Some n → ClosedThere c old at z w → path new n u ≡ Some t → (w' : Word) × (path old 0 w' ≡ Some t) × ClosedThere c old at (z ++ u) w'
  lifted [] z w n t here rel e = (w, here ∙ e, rw append-nil rel)
  lifted (b ∷ u) z w n t here rel e = go (target new n b) refl (λ w' k h r p. lifted u (z ++ b ∷ []) w' k t h r p) e
    where
      Lift : Word → Type 0
      Lift z' = (w' : Word) × (path old 0 w' ≡ Some t) × ClosedThere c old at z' w'

      go : (x : Option ℕ) → target new n b ≡ x → ((w' : Word) (k : ℕ) → path old 0 w' ≡ Some k → ClosedThere c old at (z ++ b ∷ []) w' → path new k u ≡ Some t → Lift ((z ++ b ∷ []) ++ u)) → option_and_then (λ next. path new next u) x ≡ Some t → Lift (z ++ b ∷ u)
      go None h further e = cc
      go (Some k) h further e = elim (f.back n b k h) [
        | inl o ↦
            let there : path old 0 (w ++ b ∷ []) ≡ Some k = path_more old 0 n w b here ∙ o in
            let next : ClosedThere c old at (w ++ b ∷ []) (z ++ b ∷ []) = extended w z b (symmetric rel) (given (k, there, there)) in
            let r = further (w ++ b ∷ []) k there (symmetric next) e in
            (r.0, r.1, rw append_assoc at (r.2))
        | inr p ↦
            let at' : path old 0 w ≡ Some j = here ∙ ap (λ q. Some q) p.0 in
            let one : ClosedThere c old at (w ++ a ∷ []) wm = due_related c old at j a m d w wm at' hm in
            let one' : ClosedThere c old at (w ++ b ∷ []) wm = subst (λ q. ClosedThere c old at (w ++ q ∷ []) wm) (sym p.1) one in
            let next : ClosedThere c old at (w ++ b ∷ []) (z ++ b ∷ []) = extended w z b (symmetric rel) (follows_left c.presentation.relations c.pairs (LeadsThere old at) (SameEnd old) (w ++ b ∷ []) wm one') in
            let r = further wm k (hm ∙ ap (λ q. Some q) (sym p.2)) (transitive (symmetric next) one') e in
            (r.0, r.1, rw append_assoc at (r.2))
      ]

  -- the new graph relates nothing that does not follow
  pub edged_sound : (u v : Word) → SameEnd new u v → ClosedThere c old at u v
  edged_sound u v h =
      let start : ClosedThere c old at [] [] = given (0, refl, refl) in
      let l = lifted u [] [] 0 h.0 refl start h.1 in
      let r = lifted v [] [] 0 h.0 refl start h.2 in
      transitive (l.2) (transitive (given (h.0, l.1, r.1)) (symmetric (r.2)))

-- the node at which relations are read in g is where that of first has gone
abbrev pub IsPlaced : Graph → Option ℕ → Graph → Option ℕ → Type 0
IsPlaced first None g None = Unit {0}
IsPlaced first None g (Some k) = ⊥
IsPlaced first (Some n) g None = ⊥
IsPlaced first (Some n) g (Some k) = (w : Word) × (path first 0 w ≡ Some n) × (path g 0 w ≡ Some k)

-- g relates what first does, and only what follows from that
pub record IsWithin (c : Congruence) (first : Graph) (from : Option ℕ) (g : Graph) : Type 0 where
  pub sound : (u v : Word) → SameEnd g u v → ClosedThere c first from u v
  pub full : (u v : Word) → SameEnd first u v → SameEnd g u v

pub within_start : (c : Congruence) (g : Graph) (from : Option ℕ) → IsWithin c g from g
within_start c g from = record { sound = λ u v h. given h; full = λ u v h. h }

module _ (c : Congruence) (first : Graph) (from : Option ℕ) (old : Graph) (at : Option ℕ) (placed : IsPlaced first from old at) (within : IsWithin c first from old) where
  -- a word at which relations are read in old is related to one at which they are read in first
  read_there : (from at : Option ℕ) → IsPlaced first from old at → ((u v : Word) → SameEnd old u v → ClosedThere c first from u v) → (w : Word) → LeadsThere old at w → ClosedThere c first from w w → (x : Word) × LeadsThere first from x × ClosedThere c first from w x
  read_there None None p s w h self = (w, tt, self)
  read_there None (Some k) p s w h self = absurd p
  read_there (Some n) None p s w h self = absurd p
  read_there (Some n) (Some k) p s w h self = (p.0, p.1, s w p.0 (k, h, p.2))

  -- what follows from old follows from first
  pub follows_first : (u v : Word) → ClosedThere c old at u v → ClosedThere c first from u v
  follows_first u v = follows_least c.presentation.relations c.pairs (SameEnd old) (LeadsThere old at) (ClosedThere c first from) (record {
    given = within.sound;
    symmetric = λ u v f. symmetric f;
    transitive = λ u v w f g. transitive f g;
    extended = λ u v a f g. extended u v a f g;
    relation = λ u w r s a f m e g k. let x = read_there from at placed within.sound w m (transitive (symmetric f) f) in relation u x.0 r s a (transitive f x.2) x.1 e g k;
    pair = λ r s a e g k. pair r s a e g k;
  })

  pub within_edge : (new : Graph) (j a m : ℕ) → IsEdged old new j a m → IsDue c old at j a m → (wm : Word) → path old 0 wm ≡ Some m → IsWithin c first from new
  within_edge new j a m f d wm hm = record {
    sound = λ u v h. follows_first u v (edged_sound c old new at j a m f d wm hm u v h);
    full = λ u v h. let e = within.full u v h in (e.0, edged_path old new j a m f 0 e.0 u e.1, edged_path old new j a m f 0 e.0 v e.2);
  }

  pub within_merge : (new : Graph) (j a m t : ℕ) → PathsRelate new (MergedNodes old t m) → IsDue c old at j a m → (w : Word) → path old 0 w ≡ Some j → target old j a ≡ Some t → IsWithin c first from new
  within_merge new j a m t f d w hw e = record {
    sound = λ u v h. follows_letters c.presentation.relations c.pairs (LeadsThere first from) (WithPair old t m) (SameEnd first) based u v ((f u v).0 h);
    full = λ u v h. (f u v).1 (given (inl (within.full u v h)));
  }
    where
      based : (u v : Word) → WithPair old t m u v → ClosedThere c first from u v
      based u v (inl h) = within.sound u v h
      based u v (inr h) = follows_first u v (due_ends c old at j a m t d w hw e u v h.0 h.1)

  -- closed everywhere, or where relations are read
  pub within_end : ((w : Word) (n : ℕ) → IsReadAt at n → path old 0 w ≡ Some n → IsClosedAt c.presentation.relations old n) → IsClosedAt c.pairs old 0 → PathsRelate old (ClosedThere c first from)
  within_end closed front = λ u v. (
    within.sound u v,
    graph_has_follows c.presentation.relations c.pairs (LeadsThere first from) (SameEnd first) old within.full (λ w n m h. closed w n (there from at placed within.full w n m h) h) front u v,
  )
    where
      there : (from at : Option ℕ) → IsPlaced first from old at → ((u v : Word) → SameEnd first u v → SameEnd old u v) → (w : Word) (n : ℕ) → LeadsThere first from w → path old 0 w ≡ Some n → IsReadAt at n
      there None None p full w n m h = tt
      there None (Some k) p full w n m h = absurd p
      there (Some l) None p full w n m h = absurd p
      there (Some l) (Some k) p full w n m h = let e = full w p.0 (l, m, p.1) in let one : Some n ≡ Some k = sym h ∙ e.1 ∙ sym e.2 ∙ p.2 in cc

-- relations that are read at the words of one node are read at any one of them
pub closed_at_word : (c : Congruence) (g h : Graph) (node : ℕ) (x : Word) → path g 0 x ≡ Some node → PathsRelate h (ClosedThere c g (Some node)) → PathsRelate h (ClosedAt c (SameEnd g) x)
closed_at_word c g h node x at relates = λ u v. (λ e. forth u v ((relates u v).0 e), λ e. (relates u v).1 (back u v e))
  where
    forth : (u v : Word) → ClosedThere c g (Some node) u v → ClosedAt c (SameEnd g) x u v
    forth u v = follows_least c.presentation.relations c.pairs (SameEnd g) (LeadsThere g (Some node)) (ClosedAt c (SameEnd g) x) (record {
      given = λ u v e. given e;
      symmetric = λ u v f. symmetric f;
      transitive = λ u v w f k. transitive f k;
      extended = λ u v a f k. extended u v a f k;
      relation = λ u w r s a f m e k l. relation u x r s a (transitive f (given (node, m, at))) refl e k l;
      pair = λ r s a e k l. pair r s a e k l;
    })

    back : (u v : Word) → ClosedAt c (SameEnd g) x u v → ClosedThere c g (Some node) u v
    back u v = follows_least c.presentation.relations c.pairs (SameEnd g) (λ w. w ≡ x) (ClosedThere c g (Some node)) (record {
      given = λ u v e. given e;
      symmetric = λ u v f. symmetric f;
      transitive = λ u v w f k. transitive f k;
      extended = λ u v a f k. extended u v a f k;
      relation = λ u w r s a f m e k l. relation u w r s a f (ap (path g 0) m ∙ at) e k l;
      pair = λ r s a e k l. pair r s a e k l;
    })
