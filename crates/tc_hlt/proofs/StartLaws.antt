-- What the pairs give before any row.
use Rattle.std.proofs.Common.{◌≡◌, ℕ, zero, suc, ◌+◌, ◌<◌, ◌≤◌, List, [], ◌∷◌, ◌++◌, refl, sym, ◌∙◌, arith, ◌⊎◌, inl, inr, Some, None, length, replicate, subst, get_or, Contains, false, append-nil}
use Rattle.std.proofs.lemmas.Bool.{cases_lt}
use Rattle.std.proofs.lemmas.List.{get_or_default}
use Rattle.theory.specs.Word.{Word, IsPrefix}
use Rattle.theory.specs.ShortLex.{◌≺◌}
use Rattle.theory.specs.Congruence.{Congruence, EitherWay}
use Rattle.theory.specs.Graph.{Graph, path, SameEnd, PathsRelate}
use Rattle.theory.specs.Facts.{Defines}
use Rattle.theory.proofs.PartLaws.{given, symmetric, transitive, pair}
use Rattle.theory.specs.Hlt.{HltFacts, HltDefines, Drawn, start}
use Rattle.theory.proofs.HltLaws.{lookahead_some, hlt_first_rows}
use Rattle.theory.proofs.Words.{before_no_longer, before_irrefl}
use Rattle.theory.proofs.Related.{none_contained}
use Rattle.theory.proofs.FactsLaws.{facts_least, defines_within, last_letter}
use Rattle.theory.proofs.GraphLaws.{same_end_symm, same_end_trans, same_end_extended}
use Rattle.coincidence.specs.Live.{IsOn}
use Rattle.coincidence.specs.Marks.{KeepsMarks}
use Rattle.coincidence.specs.Merged.{WithPair, MergedNodes}
use Rattle.coincidence.specs.Table.{CosetTable, IsTable, IsLive}
use Rattle.coincidence.proofs.FollowsLaws.{follows_letters}
use Rattle.coset_enumeration.specs.Enumeration.{IsFresh}
use Rattle.coset_enumeration.proofs.RootLaws.{root_end}
use Rattle.tc_hlt.specs.Tracing.{IsGrown, IsAlong, IsWithin, NoDrawing}
use Rattle.tc_hlt.specs.Stage.{IsReady}
use Rattle.tc_hlt.proofs.GrowLaws.{grown_same, prefix_there}

-- the sides of a pair are defined all the way
pub side_fact : (c : Congruence) (U : List Word) (side s p : Word) → EitherWay c.pairs side s → IsPrefix p side → HltFacts c U p p
side_fact c U side s p is h = given (inl (refl, inr (inl (side, (s, is), h))))

-- so they are related
pub pair_fact : (c : Congruence) (U : List Word) (r s : Word) → EitherWay c.pairs r s → EitherWay c.pairs s r → HltFacts c U r s
pair_fact c U r s there back = go (last_letter s) (last_letter r)
  where
    whole : (w : Word) → IsPrefix w w
    whole w = record { after = []; is = sym (append-nil w) }

    -- all but the last letter of a side is a prefix
    last : (x y z : Word) (a : ℕ) → EitherWay c.pairs x y → EitherWay c.pairs y x → y ≡ z ++ a ∷ [] → HltFacts c U x y
    last x y z a one two e =
        let first : HltFacts c U x x = side_fact c U x y x one (whole x) in
        let front : HltFacts c U z z = side_fact c U y x z two (record { after = a ∷ []; is = e }) in
        subst (λ w. HltFacts c U x w) (sym e) (pair x z a (subst (λ w. EitherWay c.pairs x w) e one) first front)

    go : (s ≡ []) ⊎ ((v : Word) × (a : ℕ) × (s ≡ v ++ a ∷ [])) → (r ≡ []) ⊎ ((v : Word) × (a : ℕ) × (r ≡ v ++ a ∷ [])) → HltFacts c U r s
    go (inr h) k = last r s h.0 h.1 there back h.2
    go (inl e) (inr k) = symmetric (last s r k.0 k.1 back there k.2)
    go (inl e) (inl d) =
        let same : r ≡ s = d ∙ sym e in
        subst (λ w. HltFacts c U r w) same (side_fact c U r s r there (whole r))

-- the state of the start after so many pairs
pub record IsStartedTo (t : CosetTable) (c : Congruence) (i : ℕ) : Type 0 where
  pub table : IsTable t
  pub congruence : t.congruence ≡ c
  pub failed : t.failed ≡ false
  pub within : IsWithin c [] [] t.graph
  pub pairs : (k : ℕ) (p : Word × Word) → k < i → get_or c.pairs k p ≡ p → SameEnd t.graph p.0 p.1
  pub none : (n : ℕ) → IsOn t.marked n → ⊥

pub started_none : (t : CosetTable) (c : Congruence) → IsTable t → t.congruence ≡ c → IsFresh t → IsStartedTo t c 0
started_none t c is same fresh = record {
  table = is;
  congruence = same;
  failed = fresh.failed;
  within = subst (λ (g : Graph). IsWithin c [] [] g) (sym fresh.graph) (λ u v h. root u v h);
  pairs = λ k p less. absurd (omega arith);
  none = λ n on. off n (subst (λ ms. IsOn ms n) fresh.marked on);
}
  where
    root : IsWithin c [] [] (replicate t.congruence.presentation.letters None ∷ [])
    root u v h =
        let left : u ≡ [] = root_end t.congruence.presentation.letters h.0 u h.1 in
        let right : v ≡ [] = root_end t.congruence.presentation.letters h.0 v h.2 in
        subst (λ z. HltFacts c [] z v) (sym left) (subst (λ z. HltFacts c [] [] z) (sym right) (given (inl (refl, inl refl))))

    off : (n : ℕ) → IsOn (false ∷ []) n → ⊥
    off zero on = cc
    off (suc n) on = cc

-- one pair more
module _ (t first second new : CosetTable) (c : Congruence) (i x y : ℕ) (p : Word × Word) (less : i < length c.pairs) (e : p ≡ get_or c.pairs i p)
    (was : IsStartedTo t c i) (is_first : IsTable first) (f : IsGrown (IsAlong p.0) NoDrawing t first 0) (hx : path first.graph 0 p.0 ≡ Some x)
    (is_second : IsTable second) (g : IsGrown (IsAlong p.1) NoDrawing first second 0) (hy : path second.graph 0 p.1 ≡ Some y) where
  either : EitherWay c.pairs p.0 p.1
  either = inl (i, less, sym e)

  back : EitherWay c.pairs p.1 p.0
  back = inr (i, less, sym e)

  at_first : path second.graph 0 p.0 ≡ Some x
  at_first = g.paths 0 x p.0 hx

  pub first_live : IsLive second x
  first_live = is_second.live.lives x (p.0, at_first)

  pub second_live : IsLive second y
  second_live = is_second.live.lives y (p.1, hy)

  same : second.congruence ≡ c
  same = g.congruence ∙ f.congruence ∙ was.congruence

  traced_within : IsWithin c [] [] second.graph
  traced_within =
      let one : IsWithin t.congruence [] [] first.graph = f.within [] [] [] refl (λ v h. subst (λ (k : Congruence). HltFacts k [] v v) (sym was.congruence) (side_fact c [] p.0 p.1 v either h)) (λ u v h. absurd h) (subst (λ (k : Congruence). IsWithin k [] [] t.graph) (sym was.congruence) was.within) in
      let mid : first.congruence ≡ c = f.congruence ∙ was.congruence in
      let one' : IsWithin c [] [] first.graph = subst (λ (k : Congruence). IsWithin k [] [] first.graph) was.congruence one in
      let two : IsWithin first.congruence [] [] second.graph = g.within [] [] [] refl (λ v h. subst (λ (k : Congruence). HltFacts k [] v v) (sym mid) (side_fact c [] p.1 p.0 v back h)) (λ u v h. absurd h) (subst (λ (k : Congruence). IsWithin k [] [] first.graph) (sym mid) one') in
      subst (λ (k : Congruence). IsWithin k [] [] second.graph) mid two

  pub started_more : IsTable new → new.congruence ≡ second.congruence → new.failed ≡ false → PathsRelate new.graph (MergedNodes second.graph x y) → KeepsMarks second.graph second.marked new.graph new.marked
      → IsStartedTo new c (i + 1)
  started_more is now failed relates marks = record {
    table = is;
    congruence = now ∙ same;
    failed = failed;
    within = λ u v h. follows_letters c.presentation.relations c.pairs (Contains []) (WithPair second.graph x y) (λ u v. Defines (HltDefines c []) u v ⊎ Drawn c [] u v) merged u v ((relates u v).0 h);
    pairs = pairs;
    none = none;
  }
    where
      merged : (u v : Word) → WithPair second.graph x y u v → HltFacts c [] u v
      merged u v (inl h) = traced_within u v h
      merged u v (inr h) = transitive (traced_within u p.0 (x, h.0, at_first)) (transitive (pair_fact c [] p.0 p.1 either back) (traced_within p.1 v (y, hy, h.1)))

      kept : (u v : Word) → SameEnd second.graph u v → SameEnd new.graph u v
      kept u v h = (relates u v).1 (given (inl h))

      pairs : (k : ℕ) (q : Word × Word) → k < i + 1 → get_or c.pairs k q ≡ q → SameEnd new.graph q.0 q.1
      pairs k q h d = go (cases_lt k i)
        where
          go : (k < i) ⊎ (i ≤ k) → SameEnd new.graph q.0 q.1
          go (inl l) = kept q.0 q.1 (grown_same (IsAlong p.1) NoDrawing first second 0 g q.0 q.1 (grown_same (IsAlong p.0) NoDrawing t first 0 f q.0 q.1 (was.pairs k q l d)))
          go (inr l) =
              let at : k ≡ i = omega (arith, h, l) in
              let d' : get_or c.pairs i q ≡ q = subst (λ z. get_or c.pairs z q ≡ q) at d in
              let is : p ≡ q = e ∙ get_or_default c.pairs i p q less ∙ d' in
              subst (λ (z : Word × Word). SameEnd new.graph z.0 z.1) is ((relates p.0 p.1).1 (given (inr (at_first, hy))))

      none : (n : ℕ) → IsOn new.marked n → ⊥
      none n on =
          let r = is.live.reached n (is.marked failed n on) in
          let m = marks.from r.0 n r.1 on in
          was.none m.1 ((f.marks m.1).0 ((g.marks m.1).0 m.3))

-- all of them
pub started_all : (t : CosetTable) (c : Congruence) (i : ℕ) → i ≡ length c.pairs → IsStartedTo t c i → IsReady t 0 0
started_all t c i end s = record {
  rows = record {
    words = [];
    stage = start;
    earlier = λ i less. absurd (omega (arith, less));
    shows = subst (λ (k : Congruence). PathsRelate t.graph (HltFacts k [])) (sym s.congruence) shows;
    marks = λ u n hu. (λ on. absurd (s.none n on), λ met. absurd (none_contained met.0 met.1));
    failed = s.failed;
  };
  first = record {
    word = [];
    leads = refl;
    unmarked = s.none 0;
    least = λ v n less hv. absurd (nothing_before v less);
  };
  unended = λ whole. omega (arith, lookahead_some 0 whole.0);
}
  where
    nothing_before : (v : Word) → v ≺ [] → ⊥
    nothing_before [] less = before_irrefl [] less
    nothing_before (a ∷ v) less = omega (arith, before_no_longer (a ∷ v) [] less)

    sides : (r s' : Word) → EitherWay c.pairs r s' → SameEnd t.graph r s'
    sides r s' (inl m) = s.pairs m.0 (r, s') (omega (arith, m.1, end)) m.2
    sides r s' (inr m) = same_end_symm t.graph s' r (s.pairs m.0 (s', r) (omega (arith, m.1, end)) m.2)

    defined : (w : Word) → HltDefines c [] w → SameEnd t.graph w w
    defined w (inl p) = let at = sides p.0 p.1.0 p.1.1 in prefix_there t.graph w p.0 at.0 p.2 at.1
    defined w (inr r) = absurd (none_contained r.0 r.1)

    shows : PathsRelate t.graph (HltFacts c [])
    shows u v = (
      s.within u v,
      λ f. facts_least c (HltDefines c []) (Contains []) (SameEnd t.graph) (record {
        given = defines_within (HltDefines c []) (SameEnd t.graph) (0, refl, refl) defined;
        symmetric = same_end_symm t.graph;
        transitive = same_end_trans t.graph;
        extended = λ u v a h k. same_end_extended t.graph u v (a ∷ []) h k;
        relation = λ u w r s' a h m e k l. absurd (none_contained w m);
        pair = λ r s' a e h k. sides r (s' ++ a ∷ []) e;
      }) ((hlt_first_rows c [] (omega arith) u v).0 f),
    )
