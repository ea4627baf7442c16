-- Numbers that are yet to be visited: one more stands ahead of the last component, or the last one is
-- taken.
use Rattle.std.proofs.Common.{◌≡◌, ◌≢◌, ℕ, ◌+◌, ◌-◌, ◌<◌, ◌≤◌, List, [], ◌∷◌, ◌++◌, length, slice_index, refl, sym, ◌∙◌, ap, subst, arith, inl, inr}
use Rattle.std.proofs.Math.ListN.{get_or-append}
use Rattle.std.proofs.lemmas.Bool.{cases_eq, cases_lt}
use Rattle.std.proofs.lemmas.List.{get_or_push, length_push}
use Rattle.theory.specs.Green.{IsEdge}
use Rattle.green.specs.Touring.{Tour, state_at, start_at, BelongTogether, IsAhead, IsEdgeFrom, IsEdgeTo, IsLedTo, IsTourBut, IsTour, IsOnTop, with_ahead}
use Rattle.green.proofs.TourLaws.{one_place, rising}

-- One more stands ahead, where an edge of the last component leads.
module _ (n w : ℕ) (next : ℕ → ℕ → ℕ) (t : Tour) (number letter : ℕ) (h : IsTourBut n w next (IsEdgeFrom number letter) t) (top : IsOnTop t number) (less : letter < w) where
  -- all components begin up to a place of this number
  belong_here : (q : ℕ) → q < length t.path → slice_index t.path q ≡ number → BelongTogether t.starts q (length t.ahead)
  belong_here q l e k m =
      let same : top.0 ≡ q = one_place top.0 q (state_at t.states number) top.1 (ap (state_at t.states) (sym e) ∙ h.placed.on_path q l) in
      let place = top.2 k m in
      let ahead = h.starts.within k m in
      (λ _. ahead, λ _. omega (arith, place, same))

  module _ (v : ℕ) (is : v ≡ next number letter) where
    longer : length (t.ahead ++ v ∷ []) ≡ length t.ahead + 1
    longer = length_push t.ahead v

    old_ahead : (f : ℕ) → f < length t.ahead → slice_index (t.ahead ++ v ∷ []) f ≡ slice_index t.ahead f
    old_ahead f l = get_or-append t.ahead (v ∷ []) 0 f l

    last_ahead : slice_index (t.ahead ++ v ∷ []) (length t.ahead) ≡ v
    last_ahead = get_or_push t.ahead v 0 (length t.ahead) refl

    pub put_tour : IsTourBut n w next (IsEdgeFrom number (letter + 1)) (with_ahead t v)
    put_tour = record {
      count = h.count;
      placed = h.placed;
      starts = record {
        ascending = h.starts.ascending;
        places = h.starts.places;
        within = λ k l. let old = h.starts.within k l in omega (arith, old, longer);
        first = h.starts.first;
        some = h.starts.some;
      };
      done = h.done;
      upward = h.upward;
      downward = h.downward;
      edges = λ q a l m. elim (h.edges q a l m) [
        | inl s ↦ elim (cases_eq a letter) [
          | inl e ↦ inr (inl (
            length t.ahead,
            omega (arith, longer),
            last_ahead ∙ is ∙ ap (next number) (sym e) ∙ ap (λ i. next i a) (sym s.0),
            belong_here q l s.0,
          ))
          | inr d ↦ inl (s.0, omega (arith, s.1, d))
        ]
        | inr (inl f) ↦ inr (inl (f.0, omega (arith, f.1, longer), old_ahead f.0 f.1 ∙ f.2, f.3))
        | inr (inr b) ↦ inr (inr b)
      ];
      ahead = λ f l. elim (cases_lt f (length t.ahead)) [
        | inl old ↦
            let was = h.ahead f old in
            (was.0, was.1, subst (λ i. IsEdge w next (slice_index t.path was.0) i) (sym (old_ahead f old)) was.2, was.3)
        | inr most ↦
            let at = h.placed.placed number top.0 top.1 in
            let same : length t.ahead ≡ f = omega (arith, most, l, longer) in
            subst (IsAhead w next (with_ahead t v)) same (
              top.0,
              at.0,
              (letter, less, ap (λ i. next i letter) at.1 ∙ sym is ∙ sym last_ahead),
              belong_here top.0 at.0 at.1,
            )
      ];
    }

-- The last of those ahead is taken.
module _ (n w : ℕ) (next : ℕ → ℕ → ℕ) (t : Tour) (h : IsTour n w next t) (rest : List ℕ) (v : ℕ) (are : t.ahead ≡ rest ++ v ∷ []) (some : 0 < length t.starts)
    (not_all : (start_at t.starts (length t.starts - 1)).ahead ≢ length t.ahead) where
  count : length t.ahead ≡ length rest + 1
  count = ap length are ∙ length_push rest v

  last_is : slice_index t.ahead (length rest) ≡ v
  last_is = ap (λ (xs : List ℕ). slice_index xs (length rest)) are ∙ get_or_push rest v 0 (length rest) refl

  old_is : (f : ℕ) → f < length rest → slice_index t.ahead f ≡ slice_index rest f
  old_is f l = ap (λ (xs : List ℕ). slice_index xs f) are ∙ get_or-append rest (v ∷ []) 0 f l

  its : IsAhead w next t (length rest)
  its = h.ahead (length rest) (omega (arith, count))

  -- all components begin up to the place from where it is led to, and up to where it stood
  place_low : (k : ℕ) → k < length t.starts → (start_at t.starts k).place ≤ its.0
  place_low k l =
      let within = h.starts.within (length t.starts - 1) (omega (arith, some)) in
      let last = (its.3 (length t.starts - 1) (omega (arith, some))).1 (omega (arith, within, not_all, count)) in
      let low = rising n w next (λ i a. ⊥) t h k (length t.starts - 1) (omega (arith, l)) (omega (arith, l)) in
      omega (arith, last, low)

  abbrev pub taken_one : Tour
  taken_one = record { states = t.states; path = t.path; ahead = rest; starts = t.starts }

  pub taken_led : IsLedTo w next taken_one v
  taken_led = (
    slice_index t.path its.0,
    (its.0, h.placed.on_path its.0 its.1, place_low),
    subst (IsEdge w next (slice_index t.path its.0)) last_is its.2,
  )

  pub taken_tour : IsTourBut n w next (IsEdgeTo next v) taken_one
  taken_tour = record {
    count = h.count;
    placed = h.placed;
    starts = record {
      ascending = h.starts.ascending;
      places = h.starts.places;
      within = λ k l. (its.3 k l).0 (place_low k l);
      first = h.starts.first;
      some = h.starts.some;
    };
    done = h.done;
    upward = h.upward;
    downward = h.downward;
    edges = λ q a l m. elim (h.edges q a l m) [
      | inl bad ↦ absurd bad
      | inr (inr b) ↦ inr (inr b)
      | inr (inl f) ↦ elim (cases_lt f.0 (length rest)) [
        | inl less ↦ inr (inl (f.0, less, sym (old_is f.0 less) ∙ f.2, f.3))
        | inr most ↦
            let same : f.0 ≡ length rest = omega (arith, most, f.1, count) in
            inl (sym f.2 ∙ ap (slice_index t.ahead) same ∙ last_is)
      ]
    ];
    ahead = λ f l.
        let was = h.ahead f (omega (arith, l, count)) in
        (was.0, was.1, subst (IsEdge w next (slice_index t.path was.0)) (old_is f l) was.2, was.3);
  }
