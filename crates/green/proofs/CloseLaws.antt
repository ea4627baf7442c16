-- Nothing stands ahead of the last component, and it becomes done.
use Rattle.std.proofs.Common.{◌≡◌, ◌≢◌, ℕ, ◌-◌, ◌<◌, ◌≤◌, ◌↔◌, List, length, slice_index, take, sym, ◌∙◌, ap, subst, arith, inl, inr, ◌⊎◌}
use Rattle.std.proofs.lemmas.Bool.{cases_eq, cases_lt}
use Rattle.std.proofs.lemmas.List.{get_or-take}
use Rattle.theory.specs.Green.{Reaches, here, further, IsEdge, AreConnected}
use Rattle.green.specs.Touring.{Tour, state_at, start_at, AreStarts, AreDone, BelongTogether, IsBehind, IsTour, HasClosed, left_over}
use Rattle.green.specs.declared.states.State.{State}
use Rattle.green.specs.declared.states.State.TheVariants.{Unseen, OnPath, Done}
use Rattle.green.specs.declared.depth_first.Start.{Start}
use Rattle.green.proofs.TourLaws.{unseen_or_done, on_or_done, one_place, one_name, taken, rising}

module _ (n w : ℕ) (next : ℕ → ℕ → ℕ) (t : Tour) (h : IsTour n w next t) where
  below_top : (k : ℕ) → k < length t.starts → (start_at t.starts k).place ≤ (start_at t.starts (length t.starts - 1)).place
  below_top k l = rising n w next (λ i a. ⊥) t h k (length t.starts - 1) (omega (arith, l)) (omega (arith, l))

  -- Nothing stands ahead of the last component, and it becomes done.
  module _ (some : 0 < length t.starts) (all : (start_at t.starts (length t.starts - 1)).ahead ≡ length t.ahead) (now : List State)
      (closed : HasClosed (start_at t.starts (length t.starts - 1)).place (length t.path)
      (slice_index t.path (start_at t.starts (length t.starts - 1)).place) t.states now) where
    abbrev base : ℕ
    base = (start_at t.starts (length t.starts - 1)).place

    abbrev name : ℕ
    name = slice_index t.path (start_at t.starts (length t.starts - 1)).place

    on_there : (start_at t.starts (length t.starts - 1)).place < length t.path
    on_there = h.starts.places (length t.starts - 1) (omega (arith, some))

    now_below : (i p : ℕ) → state_at t.states i ≡ OnPath p → p < base → state_at now i ≡ OnPath p
    now_below i p e l = elim (closed.at i) [
      | inl c ↦ let same = one_place p c.0 (state_at t.states i) e c.1 in absurd (omega (arith, same, l, c.2))
      | inr k ↦ k.0 ∙ e
    ]

    now_above : (i p : ℕ) → state_at t.states i ≡ OnPath p → base ≤ p → state_at now i ≡ Done name
    now_above i p e l = elim (closed.at i) [
      | inl c ↦ c.4
      | inr k ↦ let bad = k.1 p e l in let good = (h.placed.placed i p e).0 in absurd (omega (arith, bad, good))
    ]

    now_done : (i c : ℕ) → state_at t.states i ≡ Done c → state_at now i ≡ Done c
    now_done i c e = elim (closed.at i) [
      | inl b ↦ absurd (on_or_done b.0 c (state_at t.states i) b.1 e)
      | inr k ↦ k.0 ∙ e
    ]

    was_on : (i p : ℕ) → state_at now i ≡ OnPath p → (state_at t.states i ≡ OnPath p) × (p < base)
    was_on i p e = elim (closed.at i) [
      | inl c ↦ absurd (on_or_done p name (state_at now i) e c.4)
      | inr k ↦
          let was : state_at t.states i ≡ OnPath p = sym k.0 ∙ e in
          let good = (h.placed.placed i p was).0 in
          let high = k.1 p was in (
            was,
            elim (cases_lt p base) [
              | inl l ↦ l
              | inr m ↦ let bad = high m in absurd (omega (arith, bad, good))
            ],
          )
    ]

    was_done : (i c : ℕ) → state_at now i ≡ Done c
        → (state_at t.states i ≡ Done c) ⊎ ((p : ℕ) × (state_at t.states i ≡ OnPath p) × (base ≤ p) × (c ≡ name))
    was_done i c e = elim (closed.at i) [
      | inl b ↦ inr (b.0, b.1, b.2, one_name c name (state_at now i) e b.4)
      | inr k ↦ inl (sym k.0 ∙ e)
    ]

    -- what is reached from what is done is done
    done_reach : {i j : ℕ} → Reaches (IsEdge w next) i j → (c : ℕ) → state_at t.states i ≡ Done c → (d : ℕ) × (state_at t.states j ≡ Done d)
    done_reach here c e = (c, e)
    done_reach (further {i} {j} {l} edge r) c e =
        let step = h.done.closed i c edge.0 e edge.1 in
        done_reach r step.0 (subst (λ m. state_at t.states m ≡ Done step.0) edge.2 step.1)

    -- all of the last component is connected
    connected : (p : ℕ) → base ≤ p → p < length t.path → AreConnected (IsEdge w next) (slice_index t.path p) name
    connected p l m = (
      elim (h.downward base p l m) [
        | inl cut ↦ let low = below_top cut.0 cut.1 in absurd (omega (arith, low, cut.2))
        | inr r ↦ r
      ],
      h.upward base p l m,
    )

    -- its edges lead to itself, or to what is done
    edge_of : (p a : ℕ) → base ≤ p → p < length t.path → a < w → IsBehind t.states t.starts p (next (slice_index t.path p) a)
    edge_of p a l m less = elim (h.edges p a m less) [
      | inl bad ↦ absurd bad
      | inr (inr b) ↦ b
      | inr (inl f) ↦ let late = (f.3 (length t.starts - 1) (omega (arith, some))).0 l in absurd (omega (arith, late, all, f.1))
    ]

    closed_done : AreDone w next now
    closed_done = record {
      named = λ i c e. elim (was_done i c e) [
        | inl old ↦ let was = h.done.named i c old in (now_done c c was.0, was.1)
        | inr new ↦
            let at = h.placed.placed i new.0 new.1 in
            let own : state_at now name ≡ Done name = now_above name base (h.placed.on_path base on_there) (omega arith) in
            subst (λ c. (state_at now c ≡ Done c) × AreConnected (IsEdge w next) i c) (sym new.3)
            (own, subst (λ j. AreConnected (IsEdge w next) j name) at.1 (connected new.0 new.2 at.0))
      ];
      closed = λ i c a e less. elim (was_done i c e) [
        | inl old ↦ let was = h.done.closed i c a old less in (was.0, now_done (next i a) was.0 was.1, was.2)
        | inr new ↦
            let at = h.placed.placed i new.0 new.1 in
            elim (edge_of new.0 a new.2 at.0 less) [
              | inl d ↦
                  let there : state_at t.states (next i a) ≡ Done d.0 = subst (λ j. state_at t.states (next j a) ≡ Done d.0) at.1 d.1 in (
                    d.0,
                    now_done (next i a) d.0 there,
                    inr (λ r. let bad = done_reach r d.0 there in on_or_done new.0 bad.0 (state_at t.states i) new.1 bad.1),
                  )
              | inr b ↦
                  let there : state_at t.states (next i a) ≡ OnPath b.0 = subst (λ j. state_at t.states (next j a) ≡ OnPath b.0) at.1 b.1 in
                  (name, now_above (next i a) b.0 there (b.2 (length t.starts - 1) (omega (arith, some)) new.2), inl (sym new.3))
            ]
      ];
    }

    path_is : (p : ℕ) → p < base → slice_index (take base t.path) p ≡ slice_index t.path p
    path_is p l = get_or-take base t.path p 0 l

    path_long : length (take base t.path) ≡ base
    path_long = taken base t.path (omega (arith, on_there))

    starts_long : length (take (length t.starts - 1) t.starts) ≡ length t.starts - 1
    starts_long = taken (length t.starts - 1) t.starts (omega arith)

    start_is : (k : ℕ) → k < length t.starts - 1 → start_at (take (length t.starts - 1) t.starts) k ≡ start_at t.starts k
    start_is k l = get_or-take (length t.starts - 1) t.starts k (record { place = 0; ahead = 0 }) l

    -- what holds of the earlier starts
    earlier : (P : Start → Type 0) → ((k : ℕ) → k < length t.starts - 1 → P (start_at t.starts k)) → (k : ℕ)
        → k < length (take (length t.starts - 1) t.starts) → P (start_at (take (length t.starts - 1) t.starts) k)
    earlier P old k l = let less : k < length t.starts - 1 = omega (arith, l, starts_long) in subst P (sym (start_is k less)) (old k less)

    closed_starts : AreStarts (take base t.path) t.ahead (take (length t.starts - 1) t.starts)
    closed_starts = record {
      ascending = λ j k l m.
          let less : k < length t.starts - 1 = omega (arith, m, starts_long) in
          let one = ap (λ (s : Start). s.place) (start_is j (omega (arith, l, less))) in
          let two = ap (λ (s : Start). s.place) (start_is k less) in
          let up = h.starts.ascending j k l (omega (arith, less)) in
          omega (arith, one, two, up);
      places = earlier (λ s. s.place < length (take base t.path)) (λ k l.
          let up = h.starts.ascending k (length t.starts - 1) l (omega (arith, some)) in omega (arith, up, path_long));
      within = earlier (λ s. s.ahead ≤ length t.ahead) (λ k l. h.starts.within k (omega (arith, l)));
      first = λ l. ap (λ (s : Start). s.place) (start_is 0 (omega (arith, l, starts_long))) ∙ h.starts.first some;
      some = λ l. elim (cases_lt 0 (length t.starts - 1)) [
        | inl more ↦ omega (arith, more, starts_long)
        | inr none ↦
            let one : length t.starts - 1 ≡ 0 = omega (arith, none) in
            let low : base ≡ 0 = ap (λ k. (start_at t.starts k).place) one ∙ h.starts.first some in
            absurd (omega (arith, l, path_long, low))
      ];
    }

    belong_closed : (q f : ℕ) → BelongTogether t.starts q f → BelongTogether (take (length t.starts - 1) t.starts) q f
    belong_closed q f old = earlier (λ s. (s.place ≤ q) ↔ (s.ahead ≤ f)) (λ k m. old k (omega (arith, m)))

    behind_closed : (q j : ℕ) → q < base → IsBehind t.states t.starts q j → IsBehind now (take (length t.starts - 1) t.starts) q j
    behind_closed q j l (inl d) = inl (d.0, now_done j d.0 d.1)
    behind_closed q j l (inr b) = elim (cases_lt b.0 base) [
      | inl less ↦ inr (b.0, now_below j b.0 b.1 less, earlier (λ s. s.place ≤ q → s.place ≤ b.0) (λ k m. b.2 k (omega (arith, m))))
      | inr most ↦ inl (name, now_above j b.0 b.1 most)
    ]

    pub closed_tour : IsTour n w next (record {
      states = now;
      path = take (start_at t.starts (length t.starts - 1)).place t.path;
      ahead = t.ahead;
      starts = take (length t.starts - 1) t.starts;
    })
    closed_tour = record {
      count = closed.count ∙ h.count;
      placed = record {
        placed = λ i p e. let was = was_on i p e in (omega (arith, was.1, path_long), path_is p was.1 ∙ (h.placed.placed i p was.0).1);
        on_path = λ p l.
            let less : p < base = omega (arith, l, path_long) in
            ap (state_at now) (path_is p less) ∙ now_below (slice_index t.path p) p (h.placed.on_path p (omega (arith, less, on_there))) less;
      };
      starts = closed_starts;
      done = closed_done;
      upward = λ p q l m.
          let less : q < base = omega (arith, m, path_long) in
          subst (λ i. Reaches (IsEdge w next) i (slice_index (take base t.path) q)) (sym (path_is p (omega (arith, l, less))))
          (subst (λ j. Reaches (IsEdge w next) (slice_index t.path p) j) (sym (path_is q less)) (h.upward p q l (omega (arith, less, on_there))));
      downward = λ p q l m.
          let less : q < base = omega (arith, m, path_long) in
          elim (h.downward p q l (omega (arith, less, on_there))) [
            | inr r ↦ inr (subst (λ i. Reaches (IsEdge w next) i (slice_index (take base t.path) p)) (sym (path_is q less))
                (subst (λ j. Reaches (IsEdge w next) (slice_index t.path q) j) (sym (path_is p (omega (arith, l, less)))) r))
            | inl cut ↦ elim (cases_eq cut.0 (length t.starts - 1)) [
              | inl e ↦
                  let bad : base ≤ q = subst (λ k. (start_at t.starts k).place ≤ q) e cut.3 in
                  absurd (omega (arith, bad, less))
              | inr d ↦
                  let early : cut.0 < length t.starts - 1 = omega (arith, d, cut.1) in
                  inl (
                    cut.0,
                    omega (arith, early, starts_long),
                    subst (λ (s : Start). p < s.place) (sym (start_is cut.0 early)) cut.2,
                    subst (λ (s : Start). s.place ≤ q) (sym (start_is cut.0 early)) cut.3,
                  )
            ]
          ];
      edges = λ q a m l.
          let less : q < base = omega (arith, m, path_long) in
          subst (λ i. ⊥ ⊎ (((f : ℕ) × (f < length t.ahead) × (slice_index t.ahead f ≡ next i a) × BelongTogether (take (length t.starts - 1) t.starts) q f)
          ⊎ IsBehind now (take (length t.starts - 1) t.starts) q (next i a))) (sym (path_is q less))
          (elim (h.edges q a (omega (arith, less, on_there)) l) [
            | inl bad ↦ absurd bad
            | inr (inl f) ↦ inr (inl (f.0, f.1, f.2, belong_closed q f.0 f.3))
            | inr (inr b) ↦ inr (inr (behind_closed q (next (slice_index t.path q) a) less b))
          ]);
      ahead = λ f l.
          let old = h.ahead f l in
          let last = (old.3 (length t.starts - 1) (omega (arith, some))).0 in
          let low : old.0 < base = elim (cases_lt old.0 base) [ inl less ↦ less | inr most ↦ let bad = last most in absurd (omega (arith, bad, all, l)) ] in (
            old.0,
            omega (arith, low, path_long),
            subst (λ i. IsEdge w next i (slice_index t.ahead f)) (sym (path_is old.0 low)) old.2,
            belong_closed old.0 f old.3,
          );
    }

    pub closed_left : left_over w (record {
      states = now;
      path = take (start_at t.starts (length t.starts - 1)).place t.path;
      ahead = t.ahead;
      starts = take (length t.starts - 1) t.starts;
    }) < left_over w t
    closed_left = let same = closed.left w in omega (arith, same, starts_long, some)

    pub closed_seen : (i : ℕ) → state_at t.states i ≢ Unseen → state_at now i ≢ Unseen
    closed_seen i seen = elim (closed.at i) [
      | inl c ↦ λ e. unseen_or_done name (state_at now i) e c.4
      | inr k ↦ λ e. seen (sym k.0 ∙ e)
    ]
