-- A new number becomes the last component of the path.
use Rattle.std.proofs.Common.{◌≡◌, ◌≢◌, ℕ, ◌+◌, ◌<◌, ◌≤◌, ◌↔◌, [], ◌∷◌, length, slice_index, refl, sym, ◌∙◌, ap, subst, arith, inl, inr, ◌⊎◌, length-set}
use Rattle.std.proofs.Math.ListN.{get_or-append}
use Rattle.std.proofs.lemmas.Bool.{cases_eq, cases_lt}
use Rattle.std.proofs.lemmas.List.{get_or_push, get_or-set_same, get_or-set_other, length_push}
use Rattle.std.proofs.lemmas.List.Sums.{sum_by-set}
use Rattle.theory.specs.Green.{Reaches, here, IsEdge}
use Rattle.green.specs.Touring.{Tour, state_at, start_at, ArePlaced, AreStarts, AreDone, BelongTogether, IsAhead, IsBehind, IsCut, IsEdgeFrom, IsOnTop, IsPending, IsTourBut, entered, weight, left_over, KeepsSeen}
use Rattle.green.specs.declared.states.State.TheVariants.{Unseen, OnPath, Done}
use Rattle.green.specs.declared.depth_first.Start.{Start}
use Rattle.green.proofs.TourLaws.{unseen_or_on, unseen_or_done, on_or_done, one_place}

module _ (n w : ℕ) (next : ℕ → ℕ → ℕ) (Skip : ℕ → ℕ → Type 0) (t : Tour) (h : IsTourBut n w next Skip t) where
  -- A new number becomes the last component.
  module _ (v : ℕ) (new : state_at t.states v ≡ Unseen) (small : v < n) (from : (p : ℕ) → p < length t.path → Reaches (IsEdge w next) (slice_index t.path p) v)
      (skip : (q a : ℕ) → q < length t.path → a < w → Skip (slice_index t.path q) a → next (slice_index t.path q) a ≡ v) where
    pub at_v : state_at (entered t v).states v ≡ OnPath (length t.path)
    at_v = get_or-set_same t.states v (OnPath (length t.path)) Unseen (subst (λ m. v < m) (sym h.count) small)

    at_other : (i : ℕ) → i ≢ v → state_at (entered t v).states i ≡ state_at t.states i
    at_other i d = get_or-set_other t.states v i (OnPath (length t.path)) Unseen d

    not_new_on : (i p : ℕ) → state_at t.states i ≡ OnPath p → i ≢ v
    not_new_on i p e d = unseen_or_on p (state_at t.states i) (ap (state_at t.states) d ∙ new) e

    not_new_done : (i c : ℕ) → state_at t.states i ≡ Done c → i ≢ v
    not_new_done i c e d = unseen_or_done c (state_at t.states i) (ap (state_at t.states) d ∙ new) e

    kept_on : (i p : ℕ) → state_at t.states i ≡ OnPath p → state_at (entered t v).states i ≡ OnPath p
    kept_on i p e = at_other i (not_new_on i p e) ∙ e

    kept_done : (i c : ℕ) → state_at t.states i ≡ Done c → state_at (entered t v).states i ≡ Done c
    kept_done i c e = at_other i (not_new_done i c e) ∙ e

    old_done : (i c : ℕ) → state_at (entered t v).states i ≡ Done c → state_at t.states i ≡ Done c
    old_done i c e = elim (cases_eq i v) [
      | inl s ↦ absurd (on_or_done (length t.path) c (state_at (entered t v).states i) (ap (state_at (entered t v).states) s ∙ at_v) e)
      | inr d ↦ sym (at_other i d) ∙ e
    ]

    old_number : (p : ℕ) → p < length t.path → slice_index (entered t v).path p ≡ slice_index t.path p
    old_number p l = get_or-append t.path (v ∷ []) 0 p l

    last_number : (p : ℕ) → length t.path ≡ p → slice_index (entered t v).path p ≡ v
    last_number p e = get_or_push t.path v 0 p e

    longer : length (entered t v).path ≡ length t.path + 1
    longer = length_push t.path v

    more_starts : length (entered t v).starts ≡ length t.starts + 1
    more_starts = length_push t.starts (record { place = length t.path; ahead = length t.ahead })

    old_start : (k : ℕ) → k < length t.starts → start_at (entered t v).starts k ≡ start_at t.starts k
    old_start k l = get_or-append t.starts (record { place = length t.path; ahead = length t.ahead } ∷ []) (record { place = 0; ahead = 0 }) k l

    last_start : (k : ℕ) → length t.starts ≡ k → start_at (entered t v).starts k ≡ record { place = length t.path; ahead = length t.ahead }
    last_start k e = get_or_push t.starts (record { place = length t.path; ahead = length t.ahead }) (record { place = 0; ahead = 0 }) k e

    -- a start is an old one, or the last
    start_cases : (P : Start → Type 0) → ((k : ℕ) → k < length t.starts → P (start_at t.starts k))
        → P (record { place = length t.path; ahead = length t.ahead })
        → (k : ℕ) → k < length (entered t v).starts → P (start_at (entered t v).starts k)
    start_cases P old last k l = elim (cases_lt k (length t.starts)) [
      | inl less ↦ subst P (sym (old_start k less)) (old k less)
      | inr most ↦ subst P (sym (last_start k (omega (arith, most, l, more_starts)))) last
    ]

    entered_placed : ArePlaced (entered t v).states (entered t v).path
    entered_placed = record {
      placed = λ i p e. elim (cases_eq i v) [
        | inl s ↦
            let last : length t.path ≡ p = one_place (length t.path) p (state_at (entered t v).states v) at_v (ap (state_at (entered t v).states) (sym s) ∙ e) in
            (omega (arith, last, longer), last_number p last ∙ sym s)
        | inr d ↦
            let old = h.placed.placed i p (sym (at_other i d) ∙ e) in
            (omega (arith, old.0, longer), old_number p old.0 ∙ old.1)
      ];
      on_path = λ p l. elim (cases_lt p (length t.path)) [
        | inl less ↦ ap (state_at (entered t v).states) (old_number p less) ∙ kept_on (slice_index t.path p) p (h.placed.on_path p less)
        | inr most ↦
            let last : length t.path ≡ p = omega (arith, most, l, longer) in
            ap (state_at (entered t v).states) (last_number p last) ∙ at_v ∙ ap (λ m. OnPath m) last
      ];
    }

    entered_starts : AreStarts (entered t v).path (entered t v).ahead (entered t v).starts
    entered_starts = record {
      ascending = λ j k l m.
          let less : j < length t.starts = omega (arith, l, m, more_starts) in
          subst (λ (s : Start). s.place < (start_at (entered t v).starts k).place) (sym (old_start j less)) (elim (cases_lt k (length t.starts)) [
            | inl low ↦ subst (λ (s : Start). (start_at t.starts j).place < s.place) (sym (old_start k low)) (h.starts.ascending j k l low)
            | inr high ↦ subst (λ (s : Start). (start_at t.starts j).place < s.place) (sym (last_start k (omega (arith, high, m, more_starts)))) (h.starts.places j less)
          ]);
      places = start_cases (λ s. s.place < length (entered t v).path) (λ k l. let old = h.starts.places k l in omega (arith, old, longer)) (omega (arith, longer));
      within = start_cases (λ s. s.ahead ≤ length t.ahead) h.starts.within (omega arith);
      first = λ some. elim (cases_lt 0 (length t.starts)) [
        | inl less ↦ ap (λ (s : Start). s.place) (old_start 0 less) ∙ h.starts.first less
        | inr none ↦ elim (cases_lt 0 (length t.path)) [
          | inl bad ↦ let less = h.starts.some bad in absurd (omega (arith, less, none))
          | inr empty ↦ ap (λ (s : Start). s.place) (last_start 0 (omega (arith, none))) ∙ omega (arith, empty)
        ]
      ];
      some = λ l. omega (arith, more_starts);
    }

    entered_done : AreDone w next (entered t v).states
    entered_done = record {
      named = λ i c e. let old = h.done.named i c (old_done i c e) in (kept_done c c old.0, old.1);
      closed = λ i c a e l. let old = h.done.closed i c a (old_done i c e) l in (old.0, kept_done (next i a) old.0 old.1, old.2);
    }

    entered_upward : (p q : ℕ) → p ≤ q → q < length (entered t v).path
        → Reaches (IsEdge w next) (slice_index (entered t v).path p) (slice_index (entered t v).path q)
    entered_upward p q l m = elim (cases_lt q (length t.path)) [
      | inl less ↦
          subst (λ i. Reaches (IsEdge w next) i (slice_index (entered t v).path q)) (sym (old_number p (omega arith)))
          (subst (λ j. Reaches (IsEdge w next) (slice_index t.path p) j) (sym (old_number q less)) (h.upward p q l less))
      | inr most ↦
          let last : length t.path ≡ q = omega (arith, most, m, longer) in
          subst (λ j. Reaches (IsEdge w next) (slice_index (entered t v).path p) j) (sym (last_number q last)) (elim (cases_lt p (length t.path)) [
            | inl low ↦ subst (λ i. Reaches (IsEdge w next) i v) (sym (old_number p low)) (from p low)
            | inr high ↦ subst (λ i. Reaches (IsEdge w next) i v) (sym (last_number p (omega (arith, high, l, last)))) here
          ])
    ]

    entered_downward : (p q : ℕ) → p ≤ q → q < length (entered t v).path
        → IsCut (entered t v).starts p q ⊎ Reaches (IsEdge w next) (slice_index (entered t v).path q) (slice_index (entered t v).path p)
    entered_downward p q l m = elim (cases_lt q (length t.path)) [
      | inl less ↦ elim (h.downward p q l less) [
        | inl cut ↦ inl (
          cut.0,
          omega (arith, cut.1, more_starts),
          subst (λ (s : Start). p < s.place) (sym (old_start cut.0 cut.1)) cut.2,
          subst (λ (s : Start). s.place ≤ q) (sym (old_start cut.0 cut.1)) cut.3,
        )
        | inr r ↦ inr (subst (λ i. Reaches (IsEdge w next) i (slice_index (entered t v).path p)) (sym (old_number q less))
            (subst (λ j. Reaches (IsEdge w next) (slice_index t.path q) j) (sym (old_number p (omega arith))) r))
      ]
      | inr most ↦
          let last : length t.path ≡ q = omega (arith, most, m, longer) in
          elim (cases_lt p (length t.path)) [
            | inl low ↦ inl (
              length t.starts,
              omega (arith, more_starts),
              subst (λ (s : Start). p < s.place) (sym (last_start (length t.starts) refl)) low,
              subst (λ (s : Start). s.place ≤ q) (sym (last_start (length t.starts) refl)) (omega (arith, last)),
            )
            | inr high ↦
                let same : q ≡ p = omega (arith, high, l, last) in
                inr (subst (λ i. Reaches (IsEdge w next) (slice_index (entered t v).path q) (slice_index (entered t v).path i)) same here)
          ]
    ]

    -- a place that is no earlier than an old one
    behind_old : (q j : ℕ) → q < length t.path → IsBehind t.states t.starts q j → IsBehind (entered t v).states (entered t v).starts q j
    behind_old q j less (inl d) = inl (d.0, kept_done j d.0 d.1)
    behind_old q j less (inr b) =
        inr (b.0, kept_on j b.0 b.1, start_cases (λ s. s.place ≤ q → s.place ≤ b.0) (λ k l. b.2 k l) (λ bad. absurd (omega (arith, bad, less))))

    -- nothing that stands ahead belongs to the new component
    belong_kept : (q f : ℕ) → q < length t.path → f < length t.ahead → BelongTogether t.starts q f → BelongTogether (entered t v).starts q f
    belong_kept q f l m old =
        start_cases (λ s. (s.place ≤ q) ↔ (s.ahead ≤ f)) old (λ bad. absurd (omega (arith, bad, l)), λ bad. absurd (omega (arith, bad, m)))

    all_before : (k : ℕ) → k < length (entered t v).starts → (start_at (entered t v).starts k).place ≤ length t.path
    all_before = start_cases (λ s. s.place ≤ length t.path) (λ k l. let old = h.starts.places k l in omega (arith, old)) (omega arith)

    entered_edges : (q a : ℕ) → q < length (entered t v).path → a < w
        → IsEdgeFrom v 0 (slice_index (entered t v).path q) a ⊎ (IsPending next (entered t v) q a
        ⊎ IsBehind (entered t v).states (entered t v).starts q (next (slice_index (entered t v).path q) a))
    entered_edges q a m l = elim (cases_lt q (length t.path)) [
      | inl less ↦
          subst (λ i. IsEdgeFrom v 0 i a ⊎ (((f : ℕ) × (f < length t.ahead) × (slice_index t.ahead f ≡ next i a) × BelongTogether (entered t v).starts q f)
          ⊎ IsBehind (entered t v).states (entered t v).starts q (next i a))) (sym (old_number q less))
          (elim (h.edges q a less l) [
            | inl s ↦ inr (inr (inr (length t.path, ap (state_at (entered t v).states) (skip q a less l s) ∙ at_v, λ k m. λ _. all_before k m)))
            | inr (inl f) ↦ inr (inl (f.0, f.1, f.2, belong_kept q f.0 less f.1 f.3))
            | inr (inr b) ↦ inr (inr (behind_old q (next (slice_index t.path q) a) less b))
          ])
      | inr most ↦ inl (last_number q (omega (arith, most, m, longer)), omega arith)
    ]

    entered_ahead : (f : ℕ) → f < length t.ahead → IsAhead w next (entered t v) f
    entered_ahead f l =
        let old = h.ahead f l in (
          old.0,
          omega (arith, old.1, longer),
          subst (λ i. IsEdge w next i (slice_index t.ahead f)) (sym (old_number old.0 old.1)) old.2,
          belong_kept old.0 f old.1 l old.3,
        )

    pub entered_top : IsOnTop (entered t v) v
    entered_top = (length t.path, at_v, all_before)

    pub entered_tour : IsTourBut n w next (IsEdgeFrom v 0) (entered t v)
    entered_tour = record {
      count = length-set t.states v (OnPath (length t.path)) ∙ h.count;
      placed = entered_placed;
      starts = entered_starts;
      done = entered_done;
      upward = entered_upward;
      downward = entered_downward;
      edges = entered_edges;
      ahead = entered_ahead;
    }

    pub entered_left : left_over w (entered t v) + w ≡ left_over w t
    entered_left =
        let states = sum_by-set (weight w) t.states v (OnPath (length t.path)) Unseen (subst (λ m. v < m) (sym h.count) small) in
        let was : weight w (state_at t.states v) ≡ w + 1 = ap (weight w) new in
        omega (arith, states, was, more_starts)

    pub entered_seen : KeepsSeen t (entered t v)
    entered_seen i seen = elim (cases_eq i v) [
      | inl s ↦ λ e. unseen_or_on (length t.path) (state_at (entered t v).states i) e (ap (state_at (entered t v).states) s ∙ at_v)
      | inr d ↦ λ e. seen (sym (at_other i d) ∙ e)
    ]
