-- Edges of two graphs that may be followed in either order: in a finite set J is D (Howie 1995, proposition 2.1.4).
use Rattle.std.proofs.Common.{◌≡◌, ℕ, zero, suc, ◌+◌, ◌-◌, ◌<◌, [], ◌∷◌, ◌++◌, ◌↔◌, length, refl, sym, ◌∙◌, ap, subst, arith, ◌⊎◌, inl, inr}
use Rattle.std.proofs.lemmas.Bool.{cases_eq, cases_lt}
use Rattle.theory.specs.Word.{Word, IsOver}
use Rattle.theory.specs.Green.{Reaches, here, further, IsEdge, IsEdgeOfEither, AreConnected, follow}
use Rattle.theory.proofs.Counting.{no_more_numbers}
use Rattle.theory.proofs.Words.{over_append}
use Rattle.froidure_pin.specs.declared.tables.CayleyTables.{CayleyTables}
use Rattle.cayley.specs.Tables.{edge, FitTogether}
use Rattle.green.specs.Related.{AreRelated, DoCommute}
use Rattle.theory.specs.declared.Relation.TheVariants.{R, L, J}
use Rattle.green.proofs.TourLaws.{reaches_on}

-- one of the numbers below m has the property, or none
search_below : (P : ℕ → Type 0) → ((p : ℕ) → P p ⊎ (P p → ⊥)) → (m : ℕ) → ((p : ℕ) × (p < m) × P p) ⊎ ((p : ℕ) → p < m → P p → ⊥)
search_below P decide zero = inr (λ p l h. omega (arith, l))
search_below P decide (suc m) = elim (search_below P decide m) [
  | inl at ↦ inl (at.0, omega (arith, at.1), at.2)
  | inr none ↦ elim (decide m) [
    | inl h ↦ inl (m, omega arith, h)
    | inr never ↦ inr (λ p l h. elim (cases_eq p m) [
      | inl e ↦ never (subst P e h)
      | inr d ↦ none p (omega (arith, l, d)) h
    ])
  ]
]

abbrev CameBefore : (ℕ → ℕ) → ℕ → Type 0
CameBefore at q = (p : ℕ) × (p < q) × (at p ≡ at q)

-- what lies below n comes back
repeats : (n : ℕ) (at : ℕ → ℕ) → ((p : ℕ) → at p < n) → (q : ℕ) × (q < n + 1) × (p : ℕ) × (p < q) × (at p ≡ at q)
repeats n at within = elim (search_below (CameBefore at) before (n + 1)) [
  | inl found ↦ (found.0, found.1, found.2.0, found.2.1, found.2.2)
  | inr none ↦ absurd (omega (arith, no_more_numbers (λ p w. (p < n + 1) × (at p ≡ w)) (n + 1) n (apart none) (λ p l. (at p, within p, (l, refl)))))
]
  where
    before : (q : ℕ) → CameBefore at q ⊎ (CameBefore at q → ⊥)
    before q = elim (search_below (λ p. at p ≡ at q) (λ p. cases_eq (at p) (at q)) q) [
      | inl found ↦ inl found
      | inr none ↦ inr (λ b. none b.0 b.1 b.2)
    ]

    apart : ((q : ℕ) → q < n + 1 → CameBefore at q → ⊥) → (i j w : ℕ) → (i < n + 1) × (at i ≡ w) → (j < n + 1) × (at j ≡ w) → i ≡ j
    apart none i j w a b = elim (cases_lt i j) [
      | inl less ↦ absurd (none j b.0 (i, less, a.1 ∙ sym b.1))
      | inr most ↦ elim (cases_lt j i) [
        | inl more ↦ absurd (none i a.0 (j, more, b.1 ∙ sym a.1))
        | inr same ↦ omega (arith, most, same)
      ]
    ]

abbrev pub times : (ℕ → ℕ) → ℕ → ℕ → ℕ
times f zero i = i
times f (suc p) i = times f p (f i)

times_add : (f : ℕ → ℕ) (p q i : ℕ) → times f (p + q) i ≡ times f q (times f p i)
times_add f zero q i = let none : 0 + q ≡ q = omega arith in ap (λ m. times f m i) none
times_add f (suc p) q i =
    let one : suc p + q ≡ suc (p + q) = omega arith in
    ap (λ m. times f m i) one ∙ times_add f p q (f i)

-- Two maps of the numbers below n that commute, of which one takes the other back at i: each leads from i round to i.
module _ (n : ℕ) (f g : ℕ → ℕ) (f_within : (i : ℕ) → i < n → f i < n) (g_within : (i : ℕ) → i < n → g i < n)
    (commute : (i : ℕ) → i < n → f (g i) ≡ g (f i)) where
  times_within : (p i : ℕ) → i < n → times g p i < n
  times_within zero i l = l
  times_within (suc p) i l = times_within p (g i) (g_within i l)

  past_times : (p i : ℕ) → i < n → f (times g p i) ≡ times g p (f i)
  past_times zero i l = refl
  past_times (suc p) i l = past_times p (g i) (g_within i l) ∙ ap (times g p) (commute i l)

  taken_back : (p i : ℕ) → i < n → f (g i) ≡ i → times f p (times g p i) ≡ i
  taken_back zero i l e = refl
  taken_back (suc p) i l e =
      ap (times f p) (past_times p (g i) (g_within i l) ∙ ap (times g p) e) ∙ taken_back p i l e

  pub round : (i : ℕ) → i < n → f (g i) ≡ i → (p : ℕ) × (p < n) × (times f p (f i) ≡ i)
  round i l e =
      let twice = repeats n (λ p. times g p i) (λ p. times_within p i l) in
      let q = twice.0 in
      let p = twice.2 in
      let more : q ≡ p + suc (q - p - 1) = omega (arith, twice.3) in (
        q - p - 1,
        omega (arith, twice.1, twice.3),
        sym (ap (times f (suc (q - p - 1))) (taken_back p i l e))
            ∙ sym (times_add f p (suc (q - p - 1)) (times g p i))
            ∙ ap (λ m. times f m (times g p i)) (sym more) ∙ ap (times f q) twice.4 ∙ taken_back q i l e,
      )

-- words that are followed
pub follow_append : (next : ℕ → ℕ → ℕ) (u v : Word) (i : ℕ) → follow next i (u ++ v) ≡ follow next (follow next i u) v
follow_append next [] v i = refl
follow_append next (a ∷ u) v i = follow_append next u v (next i a)

module _ (n k : ℕ) (next : ℕ → ℕ → ℕ) (within : (i a : ℕ) → i < n → a < k → next i a < n) where
  pub follow_within : (u : Word) (i : ℕ) → IsOver k u → i < n → follow next i u < n
  follow_within [] i over l = l
  follow_within (a ∷ u) i over l = follow_within u (next i a) over.1 (within i a l over.0)

  pub follow_reaches : (u : Word) (i : ℕ) → IsOver k u → Reaches (IsEdge k next) i (follow next i u)
  follow_reaches [] i over = here
  follow_reaches (a ∷ u) i over = further (a, over.0, refl) (follow_reaches u (next i a) over.1)

  times_reaches : (u : Word) → IsOver k u → (p i : ℕ) → Reaches (IsEdge k next) i (times (λ m. follow next m u) p i)
  times_reaches u over zero i = here
  times_reaches u over (suc p) i = reaches_on (IsEdge k next) (follow_reaches u i over) (times_reaches u over p (follow next i u))

  -- a round by two words leads back from between them
  round_reaches : (u v : Word) (i : ℕ) → IsOver k u → IsOver k v → (p : ℕ) × (p < n) × (times (λ m. follow next m (u ++ v)) p (follow next i (u ++ v)) ≡ i)
      → AreConnected (IsEdge k next) i (follow next i u)
  round_reaches u v i over also cycle = (
    follow_reaches u i over,
    subst (Reaches (IsEdge k next) (follow next i u)) cycle.2 (reaches_on (IsEdge k next)
        (subst (Reaches (IsEdge k next) (follow next i u)) (sym (follow_append next u v i)) (follow_reaches v (follow next i u) also))
        (times_reaches (u ++ v) (over_append k u v over also) cycle.0 (follow next i (u ++ v)))),
  )

module _ (n k : ℕ) (right left : ℕ → ℕ → ℕ) (in_right : (i a : ℕ) → i < n → a < k → right i a < n) (in_left : (i a : ℕ) → i < n → a < k → left i a < n)
    (commute : (i a b : ℕ) → i < n → a < k → b < k → left (right i a) b ≡ right (left i b) a) where
  letter_past : (a : ℕ) (v : Word) (i : ℕ) → a < k → IsOver k v → i < n → follow left (right i a) v ≡ right (follow left i v) a
  letter_past a [] i m over l = refl
  letter_past a (b ∷ v) i m over l =
      ap (λ j. follow left j v) (commute i a b l m over.0) ∙ letter_past a v (left i b) m over.1 (in_left i b l over.0)

  pub word_past : (u v : Word) (i : ℕ) → IsOver k u → IsOver k v → i < n → follow left (follow right i u) v ≡ follow right (follow left i v) u
  word_past [] v i over also l = refl
  word_past (a ∷ u) v i over also l =
      word_past u v (right i a) over.1 also (in_right i a l over.0)
      ∙ ap (λ j. follow right j u) (letter_past a v i over.0 also l)

  -- a path by edges of either graph: all left ones first
  sorted : {i j : ℕ} → Reaches (IsEdgeOfEither k right left) i j → i < n
      → (v : Word) × (u : Word) × IsOver k v × IsOver k u × (follow right (follow left i v) u ≡ j)
  sorted here l = ([], [], tt, tt, refl)
  sorted (further {i} (inl e) r) l =
      let rest = sorted r (subst (λ x. x < n) e.2 (in_right i e.0 l e.1)) in (
        rest.0,
        e.0 ∷ rest.1,
        rest.2,
        (e.1, rest.3),
        ap (λ x. follow right x rest.1) (sym (letter_past e.0 rest.0 i e.1 rest.2 l) ∙ ap (λ x. follow left x rest.0) e.2) ∙ rest.4,
      )
  sorted (further {i} (inr e) r) l =
      let rest = sorted r (subst (λ x. x < n) e.2 (in_left i e.0 l e.1)) in (
        e.0 ∷ rest.0,
        rest.1,
        (e.1, rest.2),
        rest.3,
        ap (λ x. follow right (follow left x rest.0) rest.1) e.2 ∙ rest.4,
      )

  -- what is reached on the left stays so behind a word
  kept_behind : {i j : ℕ} → Reaches (IsEdge k left) i j → (u : Word) → IsOver k u → i < n → Reaches (IsEdge k left) (follow right i u) (follow right j u)
  kept_behind here u over l = here
  kept_behind (further {i} e r) u over l = further
      (e.0, e.1, word_past u (e.0 ∷ []) i over (e.1, tt) l ∙ ap (λ x. follow right x u) e.2)
      (kept_behind r u over (subst (λ x. x < n) e.2 (in_left i e.0 l e.1)))

  of_right : {i j : ℕ} → Reaches (IsEdge k right) i j → Reaches (IsEdgeOfEither k right left) i j
  of_right here = here
  of_right (further {i} e r) = further (inl e) (of_right r)

  of_left : {i j : ℕ} → Reaches (IsEdge k left) i j → Reaches (IsEdgeOfEither k right left) i j
  of_left here = here
  of_left (further {i} e r) = further (inr e) (of_left r)

  by_both : (i m j : ℕ) → AreConnected (IsEdge k right) i m → AreConnected (IsEdge k left) m j → AreConnected (IsEdgeOfEither k right left) i j
  by_both i m j p q = (
    reaches_on (IsEdgeOfEither k right left) (of_right p.0) (of_left q.0),
    reaches_on (IsEdgeOfEither k right left) (of_left q.1) (of_right p.1),
  )

  -- there and back again
  whole_round : (i : ℕ) (v u x y : Word) → IsOver k v → IsOver k u → IsOver k x → IsOver k y → i < n
      → follow right (follow left (follow right (follow left i v) u) x) y ≡ i → follow right (follow left i (v ++ x)) (u ++ y) ≡ i
  whole_round i v u x y hv hu hx hy l e =
      follow_append right u y (follow left i (v ++ x))
      ∙ ap (λ j. follow right (follow right j u) y) (follow_append left v x i)
      ∙ ap (λ j. follow right j y) (sym (word_past u x (follow left i v) hu hx (follow_within n k left in_left v i hv l))) ∙ e

  between : (i j : ℕ) → i < n → j < n → AreConnected (IsEdgeOfEither k right left) i j
      → (m : ℕ) × (m < n) × AreConnected (IsEdge k right) i m × AreConnected (IsEdge k left) m j
  between i j l m h =
      let there = sorted h.0 l in
      let back = sorted h.1 m in
      let v = there.0 in
      let u = there.1 in
      let x = back.0 in
      let y = back.1 in
      let whole : follow right (follow left i (v ++ x)) (u ++ y) ≡ i = whole_round i v u x y there.2 there.3 back.2 back.3 l
      (ap (λ s. follow right (follow left s x) y) there.4 ∙ back.4) in
      let over = over_append k v x there.2 back.2 in
      let also = over_append k u y there.3 back.3 in
      let right_round = round n (λ s. follow right s (u ++ y)) (λ s. follow left s (v ++ x)) (λ s b. follow_within n k right in_right (u ++ y) s also b)
      (λ s b. follow_within n k left in_left (v ++ x) s over b) (λ s b. sym (word_past (u ++ y) (v ++ x) s also over b)) i l whole in
      let left_round = round n (λ s. follow left s (v ++ x)) (λ s. follow right s (u ++ y)) (λ s b. follow_within n k left in_left (v ++ x) s over b)
      (λ s b. follow_within n k right in_right (u ++ y) s also b) (λ s b. word_past (u ++ y) (v ++ x) s also over b) i l
      (word_past (u ++ y) (v ++ x) i also over l ∙ whole) in
      let first = round_reaches n k left in_left v x i there.2 back.2 left_round in (
        follow right i u,
        follow_within n k right in_right u i there.3 l,
        round_reaches n k right in_right u y i there.3 back.3 right_round,
        (
          subst (Reaches (IsEdge k left) (follow right i u)) there.4 (kept_behind first.0 u there.3 l),
          subst (λ s. Reaches (IsEdge k left) s (follow right i u)) there.4
              (kept_behind first.1 u there.3 (follow_within n k left in_left v i there.2 l)),
        ),
      )

pub j_is_d : (t : CayleyTables) → FitTogether t → DoCommute t → (i j : ℕ) → i < length t.words → j < length t.words
    → AreRelated J t i j ↔ (m : ℕ) × (m < length t.words) × AreRelated R t i m × AreRelated L t m j
j_is_d t fit commute i j l m = (
  between (length t.words) (length t.letters) (edge t.right) (edge t.left) fit.right.within fit.left.within commute i j l m,
  λ h. by_both (length t.words) (length t.letters) (edge t.right) (edge t.left) fit.right.within fit.left.within commute i h.0 j h.2 h.3,
)
