-- The graph of the classes shows the least relation that has the pair.
use Rattle.std.proofs.Common.{◌≡◌, ℕ, List, [], ◌∷◌, ◌++◌, refl, sym, ◌∙◌, ap, inl, inr, Option, Some, None, append_assoc, append-nil, subst, slice_index, option_and_then}
use Rattle.theory.specs.Word.{Word}
use Rattle.theory.specs.Graph.{Graph, target, path, SameEnd, PathsRelate}
use Rattle.theory.proofs.PartLaws.{given, symmetric, transitive, extended}
use Rattle.coincidence.specs.Merged.{WithPair, MergedNodes}
use Rattle.coincidence.specs.Merging.{IsFolded, IsClash, IsSound, EdgesReached}
use Rattle.word_graph.proofs.WalkLaws.{some_same}
use Rattle.coincidence.proofs.FollowsLaws.{graph_has_letters, path_more}

-- a path goes on in the graph of the classes
pub folded_path : (old : Graph) (class : List ℕ) (new : Graph) → IsFolded old class new → (p n : ℕ) (u : Word) → path old p u ≡ Some n → path new (slice_index class p) u ≡ Some (slice_index class n)
folded_path old class new f p n [] e = ap (λ k. Some (slice_index class k)) (some_same p n e)
folded_path old class new f p n (a ∷ u) e = go (target old p a) refl (λ m h. folded_path old class new f m n u h) e
  where
    go : (t : Option ℕ) → target old p a ≡ t → ((m : ℕ) → path old m u ≡ Some n → path new (slice_index class m) u ≡ Some (slice_index class n)) → option_and_then (λ next. path old next u) t ≡ Some n → option_and_then (λ next. path new next u) (target new (slice_index class p) a) ≡ Some (slice_index class n)
    go None h further e = cc
    go (Some m) h further e = rw (f.edge p a m h) (further m e)

module _ (old : Graph) (class : List ℕ) (new : Graph) (x y : ℕ) (f : IsFolded old class new) (reached : EdgesReached old) (sound : IsSound old class (MergedNodes old x y)) where
  -- each path of the graph of the classes ends where a related path of the old one does
  lifted : (u z w : Word) (n c : ℕ) → path old 0 w ≡ Some n → MergedNodes old x y z w → path new (slice_index class n) u ≡ Some c → (w' : Word) × (n' : ℕ) × (path old 0 w' ≡ Some n') × (slice_index class n' ≡ c) × MergedNodes old x y (z ++ u) w'
  lifted [] z w n c at rel e = (w, n, at, some_same (slice_index class n) c e, rw append-nil rel)
  lifted (a ∷ u) z w n c at rel e = go (target new (slice_index class n) a) refl (λ w' m h r k. lifted u (z ++ a ∷ []) w' m c h r k) e
    where
      Lift : Word → Type 0
      Lift z' = (w' : Word) × (n' : ℕ) × (path old 0 w' ≡ Some n') × (slice_index class n' ≡ c) × MergedNodes old x y z' w'

      go : (t : Option ℕ) → target new (slice_index class n) a ≡ t → ((w' : Word) (m : ℕ) → path old 0 w' ≡ Some m → MergedNodes old x y (z ++ a ∷ []) w' → path new (slice_index class m) u ≡ Some c → Lift ((z ++ a ∷ []) ++ u)) → option_and_then (λ next. path new next u) t ≡ Some c → Lift (z ++ a ∷ u)
      go None h further e = cc
      go (Some t) h further e =
          let b = f.back (slice_index class n) a t h in
          let r = reached b.0 a b.1 b.3 in
          let near : MergedNodes old x y w r.0 = sound w r.0 n b.0 at r.1 (sym b.2) in
          let there : path old 0 (r.0 ++ a ∷ []) ≡ Some b.1 = path_more old 0 b.0 r.0 a r.1 ∙ b.3 in
          let itself : MergedNodes old x y (r.0 ++ a ∷ []) (r.0 ++ a ∷ []) = given (inl (b.1, there, there)) in
          let next : MergedNodes old x y (z ++ a ∷ []) (r.0 ++ a ∷ []) = symmetric (extended r.0 z a (symmetric (transitive rel near)) itself) in
          let e' : path new (slice_index class b.1) u ≡ Some c = rw (b.4) e in
          let more = further (r.0 ++ a ∷ []) b.1 there next e' in
          (more.0, more.1, more.2, more.3, rw append_assoc at (more.4))

  -- the graph of the classes shows just what follows
  pub folded_relates : slice_index class 0 ≡ 0 → slice_index class x ≡ slice_index class y → PathsRelate new (MergedNodes old x y)
  folded_relates root one = λ u v. (sound_at u v, graph_has_letters (WithPair old x y) new based u v)
    where
      sound_at : (u v : Word) → SameEnd new u v → MergedNodes old x y u v
      sound_at u v h =
          let start : MergedNodes old x y [] [] = given (inl (0, refl, refl)) in
          let at_root : (w : Word) (c : ℕ) → path new 0 w ≡ Some c → path new (slice_index class 0) w ≡ Some c = λ w c e. rw root e in
          let l = lifted u [] [] 0 h.0 refl start (at_root u h.0 h.1) in
          let r = lifted v [] [] 0 h.0 refl start (at_root v h.0 h.2) in
          transitive (l.4) (transitive (sound l.0 r.0 l.1 r.1 l.2 r.2 (l.3 ∙ sym r.3)) (symmetric (r.4)))

      leads : (u : Word) (n : ℕ) → path old 0 u ≡ Some n → path new 0 u ≡ Some (slice_index class n)
      leads u n e = subst (λ k. path new k u ≡ Some (slice_index class n)) root (folded_path old class new f 0 n u e)

      based : (u v : Word) → WithPair old x y u v → SameEnd new u v
      based u v (inl h) = (slice_index class h.0, leads u h.0 h.1, leads v h.0 h.2)
      based u v (inr h) = (slice_index class x, leads u x h.0, leads v y h.1 ∙ ap (λ k. Some k) (sym one))

-- the classes of a clash hold related words
pub clash_related : (old : Graph) (class : List ℕ) (x y s t : ℕ) → EdgesReached old → IsSound old class (MergedNodes old x y) → IsClash old class s t → (u v : Word) (n m : ℕ) → path old 0 u ≡ Some n → path old 0 v ≡ Some m → slice_index class n ≡ s → slice_index class m ≡ t → MergedNodes old x y u v
clash_related old class x y s t reached sound k u v n m hu hv es et =
    let w = reached k.n k.a k.m k.first in
    let w' = reached k.n' k.a k.m' k.second in
    let p : path old 0 (w.0 ++ k.a ∷ []) ≡ Some k.m = path_more old 0 k.n w.0 k.a w.1 ∙ k.first in
    let p' : path old 0 (w'.0 ++ k.a ∷ []) ≡ Some k.m' = path_more old 0 k.n' w'.0 k.a w'.1 ∙ k.second in
    let itself : MergedNodes old x y (w.0 ++ k.a ∷ []) (w.0 ++ k.a ∷ []) = given (inl (k.m, p, p)) in
    let one : MergedNodes old x y w.0 w'.0 = sound w.0 w'.0 k.n k.n' w.1 w'.1 k.together in
    transitive (sound u (w.0 ++ k.a ∷ []) n k.m hu p (es ∙ k.s_is)) (transitive (extended w.0 w'.0 k.a one itself) (sound (w'.0 ++ k.a ∷ []) v k.m' m p' hv (sym (et ∙ k.t_is))))
