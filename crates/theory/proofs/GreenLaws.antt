-- Green's relations are mutual reachability in the Cayley graphs.
use Rattle.std.proofs.Common.{◌≡◌, ℕ, ◌<◌, Bool, false, [], ◌∷◌, ◌++◌, refl, sym, subst, inl, inr, ◌↔◌, IsTrue, append-nil, append_assoc}
use Rattle.theory.specs.Word.{Word, IsOver, IsElement}
use Rattle.theory.specs.Value.{IsProduct, SameValue}
use Rattle.theory.specs.Semigroup.{Semigroup, value_of, Numbering, IsNumberOf}
use Rattle.theory.specs.Green.{IsRightMultiple, IsLeftMultiple, IsMultiple, IsGreenR, IsGreenL, IsGreenH, IsGreenJ, IsIdempotent, IsEdge, IsEdgeOfEither, Reaches, here, further, AreConnected, follow}
use Rattle.theory.proofs.Words.{over_append}
use Rattle.theory.proofs.ValueLaws.{value_shape, value_append, value_kept_right, value_kept_left}
use Rattle.theory.proofs.GeneratedLaws.{same_refl, same_symm, same_trans, element_context}

reaches_on : (Edge : ℕ → ℕ → Type 0) {i j l : ℕ} → Reaches Edge i j → Reaches Edge j l → Reaches Edge i l
reaches_on Edge here y = y
reaches_on Edge (further e x) y = further e (reaches_on Edge x y)

reaches_more : (Edge Other : ℕ → ℕ → Type 0) → ((i j : ℕ) → Edge i j → Other i j) → {i j : ℕ} → Reaches Edge i j → Reaches Other i j
reaches_more Edge Other more here = here
reaches_more Edge Other more (further {i} {j} e x) = further (more i j e) (reaches_more Edge Other more x)

module _ {V : Type 0} {shape : V → ℕ × ℕ} {product : V → V → V} {equal : V → V → Bool} (semi : Semigroup shape product equal)
    (laws : IsProduct (λ x. shape x ≡ semi.one) product equal) where
  abbrev HasShape : V → Type 0
  HasShape x = shape x ≡ semi.one

  abbrev val : Word → V
  val = value_of semi

  abbrev Same : Word → Word → Type 0
  Same = SameValue semi.letters equal (value_of semi)

  refl_at : (u : Word) → IsElement false semi.letters u → Same u u
  refl_at = same_refl semi laws

  symm_at : (u v : Word) → Same u v → Same v u
  symm_at = same_symm semi laws

  trans_at : (u v w : Word) → Same u v → Same v w → Same u w
  trans_at = same_trans semi laws

  behind_kept : (u v y : Word) → Same u v → IsOver semi.letters y → Same (u ++ y) (v ++ y)
  behind_kept = value_kept_right semi laws

  before_kept : (x u v : Word) → Same u v → IsOver semi.letters x → Same (x ++ u) (x ++ v)
  before_kept = value_kept_left semi laws

  append_value : (u v : Word) → IsElement false semi.letters u → IsElement false semi.letters v → IsTrue (equal (val (u ++ v)) (product (val u) (val v)))
  append_value = value_append semi laws

  shape_at : (u : Word) → IsElement false semi.letters u → HasShape (val u)
  shape_at = value_shape semi laws

  both_element : (u v : Word) → IsElement false semi.letters u → IsElement false semi.letters v → IsElement false semi.letters (u ++ v)
  both_element u v hu hv = element_context semi.letters [] u v tt hu hv.1

  -- Multiples by words: v has the value of u with words round it.
  abbrev Behind : Word → Word → Type 0
  Behind u v = (y : Word) × IsOver semi.letters y × Same (u ++ y) v

  abbrev Before : Word → Word → Type 0
  Before u v = (x : Word) × IsOver semi.letters x × Same (x ++ u) v

  abbrev Round : Word → Word → Type 0
  Round u v = (x : Word) × (y : Word) × IsOver semi.letters x × IsOver semi.letters y × Same (x ++ (u ++ y)) v

  right_multiple : (u v : Word) → IsElement false semi.letters u → IsElement false semi.letters v → IsRightMultiple product equal semi.letters val (val v) (val u) ↔ Behind u v
  right_multiple u v hu hv = (to, from)
    where
      to : IsRightMultiple product equal semi.letters val (val v) (val u) → Behind u v
      to (inl e) = (
        [],
        tt,
        subst (λ w. Same w v) (sym (append-nil u)) (record { left = hu; right = hv; related = laws.symmetric (val v) (val u) e }),
      )
      to (inr m) = (
        m.0,
        m.1.1,
        record {
          left = both_element u m.0 hu m.1;
          right = hv;
          related =
              laws.transitive (val (u ++ m.0)) (product (val u) (val m.0)) (val v) (append_value u m.0 hu m.1)
              (laws.symmetric (val v) (product (val u) (val m.0)) m.2);
        },
      )

      from : Behind u v → IsRightMultiple product equal semi.letters val (val v) (val u)
      from h = go h.0 h.1 h.2
        where
          go : (y : Word) → IsOver semi.letters y → Same (u ++ y) v → IsRightMultiple product equal semi.letters val (val v) (val u)
          go [] over e = inl (laws.symmetric (val u) (val v) (subst (λ w. Same w v) (append-nil u) e).related)
          go (a ∷ y) over e =
              let some : IsElement false semi.letters (a ∷ y) = (λ d. cc, over) in
              inr (
                a ∷ y,
                some,
                laws.transitive (val v) (val (u ++ a ∷ y)) (product (val u) (val (a ∷ y))) (laws.symmetric (val (u ++ a ∷ y)) (val v) e.related)
                    (append_value u (a ∷ y) hu some),
              )

  left_multiple : (u v : Word) → IsElement false semi.letters u → IsElement false semi.letters v → IsLeftMultiple product equal semi.letters val (val v) (val u) ↔ Before u v
  left_multiple u v hu hv = (to, from)
    where
      to : IsLeftMultiple product equal semi.letters val (val v) (val u) → Before u v
      to (inl e) = ([], tt, record { left = hu; right = hv; related = laws.symmetric (val v) (val u) e })
      to (inr m) = (
        m.0,
        m.1.1,
        record {
          left = both_element m.0 u m.1 hu;
          right = hv;
          related =
              laws.transitive (val (m.0 ++ u)) (product (val m.0) (val u)) (val v) (append_value m.0 u m.1 hu)
              (laws.symmetric (val v) (product (val m.0) (val u)) m.2);
        },
      )

      from : Before u v → IsLeftMultiple product equal semi.letters val (val v) (val u)
      from h = go h.0 h.1 h.2
        where
          go : (x : Word) → IsOver semi.letters x → Same (x ++ u) v → IsLeftMultiple product equal semi.letters val (val v) (val u)
          go [] over e = inl (laws.symmetric (val u) (val v) e.related)
          go (a ∷ x) over e =
              let some : IsElement false semi.letters (a ∷ x) = (λ d. cc, over) in
              inr (
                a ∷ x,
                some,
                laws.transitive (val v) (val (a ∷ (x ++ u))) (product (val (a ∷ x)) (val u)) (laws.symmetric (val (a ∷ (x ++ u))) (val v) e.related)
                    (append_value (a ∷ x) u some hu),
              )

  -- a multiple of what is equal
  right_multiple_kept : (z : V) (x y : V) → HasShape x → HasShape y → IsTrue (equal x y) → IsRightMultiple product equal semi.letters val z x
      → IsRightMultiple product equal semi.letters val z y
  right_multiple_kept z x y hx hy e (inl d) = inl (laws.transitive z x y d e)
  right_multiple_kept z x y hx hy e (inr m) =
      let s = shape_at m.0 m.1 in
      inr (
        m.0,
        m.1,
        laws.transitive z (product x (val m.0)) (product y (val m.0)) m.2
            (laws.kept x y (val m.0) (val m.0) hx hy s s e (laws.reflexive (val m.0))),
      )

  multiple : (u v : Word) → IsElement false semi.letters u → IsElement false semi.letters v → IsMultiple product equal semi.letters val (val v) (val u) ↔ Round u v
  multiple u v hu hv = (to, from)
    where
      to : IsMultiple product equal semi.letters val (val v) (val u) → Round u v
      to (inl m) = let at = (right_multiple u v hu hv).0 m in ([], at.0, tt, at.1, at.2)
      to (inr m) =
          let whole = both_element m.0 u m.1 hu in
          let moved = right_multiple_kept (val v) (product (val m.0) (val u)) (val (m.0 ++ u)) (laws.shape (val m.0) (val u) (shape_at m.0 m.1) (shape_at u hu))
          (shape_at (m.0 ++ u) whole) (laws.symmetric (val (m.0 ++ u)) (product (val m.0) (val u)) (append_value m.0 u m.1 hu)) m.2 in
          let at = (right_multiple (m.0 ++ u) v whole hv).0 moved in
          (m.0, at.0, m.1.1, at.1, subst (λ w. Same w v) (append_assoc m.0 u at.0) at.2)

      from : Round u v → IsMultiple product equal semi.letters val (val v) (val u)
      from h = go h.0 h.2 h.4
        where
          go : (x : Word) → IsOver semi.letters x → Same (x ++ (u ++ h.1)) v → IsMultiple product equal semi.letters val (val v) (val u)
          go [] over e = inl ((right_multiple u v hu hv).1 (h.1, h.3, e))
          go (a ∷ x) over e =
              let some : IsElement false semi.letters (a ∷ x) = (λ d. cc, over) in
              let whole = both_element (a ∷ x) u some hu in
              let there = (right_multiple ((a ∷ x) ++ u) v whole hv).1 (h.1, h.3, subst (λ w. Same w v) (sym (append_assoc (a ∷ x) u h.1)) e) in
              inr (
                a ∷ x,
                some,
                right_multiple_kept (val v) (val ((a ∷ x) ++ u)) (product (val (a ∷ x)) (val u)) (shape_at ((a ∷ x) ++ u) whole)
                    (laws.shape (val (a ∷ x)) (val u) (shape_at (a ∷ x) some) (shape_at u hu)) (append_value (a ∷ x) u some hu) there,
              )

  -- Numbers: edges lead to multiples by letters, and words to multiples.
  module _ (t : Numbering semi) where
    abbrev StandsFor : ℕ → Word → Type 0
    StandsFor = IsNumberOf t

    stands_same : (i j : ℕ) (u : Word) → StandsFor i u → StandsFor j u → i ≡ j
    stands_same i j u p q = t.numbered.distinct i j p.0 q.0 (trans_at (t.word i) u (t.word j) (symm_at u (t.word i) p.1) q.1)

    stands_moved : (i : ℕ) (u v : Word) → StandsFor i u → Same u v → StandsFor i v
    stands_moved i u v p e = (p.0, trans_at v u (t.word i) (symm_at u v e) p.1)

    on_right_edge : (i a : ℕ) (u : Word) → a < semi.letters → StandsFor i u → StandsFor (t.right i a) (u ++ a ∷ [])
    on_right_edge i a u l p =
        let edge = t.numbered.on_right i a p.0 l in
        stands_moved (t.right i a) (t.word i ++ a ∷ []) (u ++ a ∷ []) edge (symm_at (u ++ a ∷ []) (t.word i ++ a ∷ []) (behind_kept u (t.word i) (a ∷ []) p.1 (l, tt)))

    on_left_edge : (i a : ℕ) (u : Word) → a < semi.letters → StandsFor i u → StandsFor (t.left i a) (a ∷ u)
    on_left_edge i a u l p =
        let edge = t.numbered.on_left i a p.0 l in
        stands_moved (t.left i a) (a ∷ t.word i) (a ∷ u) edge (symm_at (a ∷ u) (a ∷ t.word i) (before_kept (a ∷ []) u (t.word i) p.1 (l, tt)))

    -- behind
    follow_stands : (y : Word) (i : ℕ) (u : Word) → IsOver semi.letters y → StandsFor i u → StandsFor (follow t.right i y) (u ++ y)
    follow_stands [] i u over p = subst (λ w. StandsFor i w) (sym (append-nil u)) p
    follow_stands (a ∷ y) i u over p =
        subst (λ w. StandsFor (follow t.right (t.right i a) y) w) (append_assoc u (a ∷ []) y)
        (follow_stands y (t.right i a) (u ++ a ∷ []) over.1 (on_right_edge i a u over.0 p))

    follow_reaches : (y : Word) (i : ℕ) → IsOver semi.letters y → Reaches (IsEdge semi.letters t.right) i (follow t.right i y)
    follow_reaches [] i over = here
    follow_reaches (a ∷ y) i over = further (a, over.0, refl) (follow_reaches y (t.right i a) over.1)

    reaches_behind : {i j : ℕ} → Reaches (IsEdge semi.letters t.right) i j → (u : Word) → StandsFor i u → (y : Word) × IsOver semi.letters y × StandsFor j (u ++ y)
    reaches_behind here u p = follow_nil u p
      where
        follow_nil : {i : ℕ} (u : Word) → StandsFor i u → (y : Word) × IsOver semi.letters y × StandsFor i (u ++ y)
        follow_nil {i} u p = ([], tt, subst (λ w. StandsFor i w) (sym (append-nil u)) p)
    reaches_behind (further {i} {j} {l} e x) u p =
        let edge = subst (λ m. StandsFor m (u ++ e.0 ∷ [])) e.2 (on_right_edge i e.0 u e.1 p) in
        let rest = reaches_behind x (u ++ e.0 ∷ []) edge in
        (e.0 ∷ rest.0, (e.1, rest.1), subst (λ w. StandsFor l w) (append_assoc u (e.0 ∷ []) rest.0) rest.2)

    behind_reached : (u v : Word) (i j : ℕ) → StandsFor i u → StandsFor j v → Behind u v ↔ Reaches (IsEdge semi.letters t.right) i j
    behind_reached u v i j p q = (
      λ h.
          let at = follow_stands h.0 i u h.1 p in
          subst (λ m. Reaches (IsEdge semi.letters t.right) i m) (stands_same (follow t.right i h.0) j v (stands_moved (follow t.right i h.0) (u ++ h.0) v at h.2) q)
          (follow_reaches h.0 i h.1),
      λ r. let at = reaches_behind r u p in (at.0, at.1, trans_at (u ++ at.0) (t.word j) v at.2.1 (symm_at v (t.word j) q.1)),
    )

    -- before
    before_reaches : (x : Word) (i : ℕ) (u : Word) → IsOver semi.letters x → StandsFor i u
        → (j : ℕ) × StandsFor j (x ++ u) × Reaches (IsEdge semi.letters t.left) i j
    before_reaches [] i u over p = (i, p, here)
    before_reaches (a ∷ x) i u over p =
        let rest = before_reaches x i u over.1 p in (
          t.left rest.0 a,
          on_left_edge rest.0 a (x ++ u) over.0 rest.1,
          reaches_on (IsEdge semi.letters t.left) rest.2 (further (a, over.0, refl) here),
        )

    reaches_before : {i j : ℕ} → Reaches (IsEdge semi.letters t.left) i j → (u : Word) → StandsFor i u → (x : Word) × IsOver semi.letters x × StandsFor j (x ++ u)
    reaches_before here u p = ([], tt, p)
    reaches_before (further {i} {j} {l} e x) u p =
        let edge = subst (λ m. StandsFor m (e.0 ∷ u)) e.2 (on_left_edge i e.0 u e.1 p) in
        let rest = reaches_before x (e.0 ∷ u) edge in (
          rest.0 ++ e.0 ∷ [],
          over_append semi.letters rest.0 (e.0 ∷ []) rest.1 (e.1, tt),
          subst (λ w. StandsFor l w) (sym (append_assoc rest.0 (e.0 ∷ []) u)) rest.2,
        )

    before_reached : (u v : Word) (i j : ℕ) → StandsFor i u → StandsFor j v → Before u v ↔ Reaches (IsEdge semi.letters t.left) i j
    before_reached u v i j p q = (
      λ h.
          let at = before_reaches h.0 i u h.1 p in
          subst (λ m. Reaches (IsEdge semi.letters t.left) i m) (stands_same at.0 j v (stands_moved at.0 (h.0 ++ u) v at.1 h.2) q) at.2,
      λ r. let at = reaches_before r u p in (at.0, at.1, trans_at (at.0 ++ u) (t.word j) v at.2.1 (symm_at v (t.word j) q.1)),
    )

    -- round
    reaches_round : {i j : ℕ} → Reaches (IsEdgeOfEither semi.letters t.right t.left) i j → (u : Word) → StandsFor i u
        → (x : Word) × (y : Word) × IsOver semi.letters x × IsOver semi.letters y × StandsFor j (x ++ (u ++ y))
    reaches_round here u p = at_once u p
      where
        at_once : {i : ℕ} (u : Word) → StandsFor i u → (x : Word) × (y : Word) × IsOver semi.letters x × IsOver semi.letters y × StandsFor i (x ++ (u ++ y))
        at_once {i} u p = ([], [], tt, tt, subst (λ w. StandsFor i w) (sym (append-nil u)) p)
    reaches_round (further {i} {j} {l} (inl e) r) u p =
        let edge = subst (λ m. StandsFor m (u ++ e.0 ∷ [])) e.2 (on_right_edge i e.0 u e.1 p) in
        let rest = reaches_round r (u ++ e.0 ∷ []) edge in (
          rest.0,
          e.0 ∷ rest.1,
          rest.2,
          (e.1, rest.3),
          subst (λ w. StandsFor l (rest.0 ++ w)) (append_assoc u (e.0 ∷ []) rest.1) rest.4,
        )
    reaches_round (further {i} {j} {l} (inr e) r) u p =
        let edge = subst (λ m. StandsFor m (e.0 ∷ u)) e.2 (on_left_edge i e.0 u e.1 p) in
        let rest = reaches_round r (e.0 ∷ u) edge in (
          rest.0 ++ e.0 ∷ [],
          rest.1,
          over_append semi.letters rest.0 (e.0 ∷ []) rest.2 (e.1, tt),
          rest.3,
          subst (λ w. StandsFor l w) (sym (append_assoc rest.0 (e.0 ∷ []) (u ++ rest.1))) rest.4,
        )

    round_reached : (u v : Word) (i j : ℕ) → StandsFor i u → StandsFor j v → Round u v ↔ Reaches (IsEdgeOfEither semi.letters t.right t.left) i j
    round_reached u v i j p q = (
      λ h.
          let first = follow_stands h.1 i u h.3 p in
          let second = before_reaches h.0 (follow t.right i h.1) (u ++ h.1) h.2 first in
          subst (λ m. Reaches (IsEdgeOfEither semi.letters t.right t.left) i m)
          (stands_same second.0 j v (stands_moved second.0 (h.0 ++ (u ++ h.1)) v second.1 h.4) q)
          (reaches_on (IsEdgeOfEither semi.letters t.right t.left) (reaches_more (IsEdge semi.letters t.right) (IsEdgeOfEither semi.letters t.right t.left) (λ a b e. inl e) (follow_reaches h.1 i h.3))
          (reaches_more (IsEdge semi.letters t.left) (IsEdgeOfEither semi.letters t.right t.left) (λ a b e. inr e) second.2)),
      λ r.
          let at = reaches_round r u p in
          (at.0, at.1, at.2, at.3, trans_at (at.0 ++ (u ++ at.1)) (t.word j) v at.4.1 (symm_at v (t.word j) q.1)),
    )

    -- Green's relations
    module _ (u v : Word) (i j : ℕ) (p : IsNumberOf t i u) (q : IsNumberOf t j v) where
      pub green_r : IsGreenR product equal semi.letters (value_of semi) (value_of semi u) (value_of semi v)
          ↔ AreConnected (IsEdge semi.letters t.right) i j
      green_r =
          let down = right_multiple v u q.1.left p.1.left in
          let up = right_multiple u v p.1.left q.1.left in
          let there = behind_reached u v i j p q in
          let back = behind_reached v u j i q p in
          (λ h. (there.0 (up.0 h.1), back.0 (down.0 h.0)), λ h. (down.1 (back.1 h.1), up.1 (there.1 h.0)))

      pub green_l : IsGreenL product equal semi.letters (value_of semi) (value_of semi u) (value_of semi v)
          ↔ AreConnected (IsEdge semi.letters t.left) i j
      green_l =
          let down = left_multiple v u q.1.left p.1.left in
          let up = left_multiple u v p.1.left q.1.left in
          let there = before_reached u v i j p q in
          let back = before_reached v u j i q p in
          (λ h. (there.0 (up.0 h.1), back.0 (down.0 h.0)), λ h. (down.1 (back.1 h.1), up.1 (there.1 h.0)))

      pub green_h : IsGreenH product equal semi.letters (value_of semi) (value_of semi u) (value_of semi v)
          ↔ (AreConnected (IsEdge semi.letters t.right) i j × AreConnected (IsEdge semi.letters t.left) i j)
      green_h = (λ h. (green_r.0 h.0, green_l.0 h.1), λ h. (green_r.1 h.0, green_l.1 h.1))

      pub green_j : IsGreenJ product equal semi.letters (value_of semi) (value_of semi u) (value_of semi v)
          ↔ AreConnected (IsEdgeOfEither semi.letters t.right t.left) i j
      green_j =
          let down = multiple v u q.1.left p.1.left in
          let up = multiple u v p.1.left q.1.left in
          let there = round_reached u v i j p q in
          let back = round_reached v u j i q p in
          (λ h. (there.0 (up.0 h.1), back.0 (down.0 h.0)), λ h. (down.1 (back.1 h.1), up.1 (there.1 h.0)))

    pub green_by_graphs : (u v : Word) (i j : ℕ) → IsNumberOf t i u → IsNumberOf t j v
        → (IsGreenR product equal semi.letters (value_of semi) (value_of semi u) (value_of semi v) ↔ AreConnected (IsEdge semi.letters t.right) i j)
        × (IsGreenL product equal semi.letters (value_of semi) (value_of semi u) (value_of semi v) ↔ AreConnected (IsEdge semi.letters t.left) i j)
        × (IsGreenH product equal semi.letters (value_of semi) (value_of semi u) (value_of semi v)
        ↔ (AreConnected (IsEdge semi.letters t.right) i j × AreConnected (IsEdge semi.letters t.left) i j))
        × (IsGreenJ product equal semi.letters (value_of semi) (value_of semi u) (value_of semi v) ↔ AreConnected (IsEdgeOfEither semi.letters t.right t.left) i j)
    green_by_graphs u v i j p q = (green_r u v i j p q, green_l u v i j p q, green_h u v i j p q, green_j u v i j p q)

    -- an element is idempotent exactly where its own word leads from its number back to it
    pub idempotent_follows : (u : Word) (i : ℕ) → IsNumberOf t i u
        → IsIdempotent product equal (value_of semi u) ↔ (follow t.right i (t.word i) ≡ i)
    idempotent_follows u i p = (to, from)
      where
        over : IsOver semi.letters (t.word i)
        over = p.1.right.1

        square : StandsFor (follow t.right i (t.word i)) (u ++ t.word i)
        square = follow_stands (t.word i) i u over p

        same : Same (u ++ t.word i) (u ++ u)
        same = before_kept u (t.word i) u (symm_at u (t.word i) p.1) p.1.left.1

        to : IsIdempotent product equal (val u) → follow t.right i (t.word i) ≡ i
        to e =
            let own : Same (u ++ u) u = record {
              left = same.right;
              right = p.1.left;
              related = laws.transitive (val (u ++ u)) (product (val u) (val u)) (val u) (append_value u u p.1.left p.1.left) e;
            } in
            stands_same (follow t.right i (t.word i)) i u
            (stands_moved (follow t.right i (t.word i)) (u ++ t.word i) u square (trans_at (u ++ t.word i) (u ++ u) u same own)) p

        from : follow t.right i (t.word i) ≡ i → IsIdempotent product equal (val u)
        from e =
            let at : StandsFor i (u ++ t.word i) = subst (λ m. StandsFor m (u ++ t.word i)) e square in
            let own : Same (u ++ u) u =
            trans_at (u ++ u) (u ++ t.word i) u (symm_at (u ++ t.word i) (u ++ u) same) (trans_at (u ++ t.word i) (t.word i) u at.1 (symm_at u (t.word i) p.1)) in
            laws.transitive (product (val u) (val u)) (val (u ++ u)) (val u)
            (laws.symmetric (val (u ++ u)) (product (val u) (val u)) (append_value u u p.1.left p.1.left)) own.related
