-- The search for strongly connected components: what its steps keep.
use Rattle.std.proofs.Common.{◌≡◌, ◌≢◌, ℕ, zero, suc, ◌+◌, ◌-◌, ◌<◌, ◌≤◌, ◌↔◌, List, [], ◌∷◌, length, get_or, slice_index, take, set, refl, sym, ◌∙◌, ap, subst, arith, inl, inr, ◌⊎◌, length-set}
use Rattle.std.proofs.lemmas.Bool.{cases_eq, cases_lt}
use Rattle.std.proofs.lemmas.List.{get_or-set_same, get_or-set_other, get_or-take}
use Rattle.std.proofs.lemmas.List.Sums.{sum_by-set}
use Rattle.theory.specs.Green.{Reaches, here, further, IsEdge}
use Rattle.green.specs.Touring.{Tour, state_at, start_at, ArePlaced, BelongTogether, IsCut, IsTourBut, IsOnTop, HaveJoined, HasClosed, weight}
use Rattle.green.specs.declared.states.State.{State}
use Rattle.green.specs.declared.states.State.TheVariants.{Unseen, OnPath, Done}
use Rattle.green.specs.declared.depth_first.Start.{Start}

pub state_cases : (s : State) → (s ≡ Unseen) ⊎ (((p : ℕ) × (s ≡ OnPath p)) ⊎ ((c : ℕ) × (s ≡ Done c)))
state_cases Unseen = inl refl
state_cases (OnPath p) = inr (inl (p, refl))
state_cases (Done c) = inr (inr (c, refl))

pub unseen_or_on : (p : ℕ) (s : State) → s ≡ Unseen → s ≡ OnPath p → ⊥
unseen_or_on p s a b = cc

pub unseen_or_done : (c : ℕ) (s : State) → s ≡ Unseen → s ≡ Done c → ⊥
unseen_or_done c s a b = cc

pub on_or_done : (p c : ℕ) (s : State) → s ≡ OnPath p → s ≡ Done c → ⊥
on_or_done p c s a b = cc

pub one_place : (p q : ℕ) (s : State) → s ≡ OnPath p → s ≡ OnPath q → p ≡ q
one_place p q s a b = cc

pub one_name : (c d : ℕ) (s : State) → s ≡ Done c → s ≡ Done d → c ≡ d
one_name c d s a b = cc

past : {A : Type 0} (xs : List A) (i : ℕ) (d : A) → length xs ≤ i → get_or xs i d ≡ d
past [] i d h = refl
past (x ∷ xs) zero d h = absurd (omega arith)
past (x ∷ xs) (suc i) d h = past xs i d (omega arith)

pub taken : {A : Type 0} (m : ℕ) (xs : List A) → m ≤ length xs → length (take m xs) ≡ m
taken zero xs l = refl
taken (suc m) [] l = absurd (omega arith)
taken (suc m) (x ∷ xs) l = ap suc (taken m xs (omega arith))

-- what is seen is a number of the list
pub seen_below : (states : List State) (i : ℕ) → state_at states i ≢ Unseen → i < length states
seen_below states i seen = elim (cases_lt i (length states)) [ inl l ↦ l | inr m ↦ absurd (seen (past states i Unseen m)) ]

pub reaches_on : (Edge : ℕ → ℕ → Type 0) {i j l : ℕ} → Reaches Edge i j → Reaches Edge j l → Reaches Edge i l
reaches_on Edge here y = y
reaches_on Edge (further e x) y = further e (reaches_on Edge x y)

-- Starts are dropped from the end.
pub record AreJoining (place : ℕ) (starts now : List Start) : Type 0 where
  pub some : 0 < length now
  pub fewer : length now ≤ length starts
  pub kept : (k : ℕ) → k < length now → start_at now k ≡ start_at starts k
  pub high : (k : ℕ) → length now ≤ k → k < length starts → place < (start_at starts k).place

pub joining_start : (place : ℕ) (starts : List Start) → 0 < length starts → AreJoining place starts starts
joining_start place starts some = record { some = some; fewer = omega arith; kept = λ k l. refl; high = λ k l m. absurd (omega (arith, l, m)) }

pub joining_step : (place : ℕ) (starts now : List Start) → (start_at starts 0).place ≡ 0 → AreJoining place starts now
    → place < (start_at now (length now - 1)).place → AreJoining place starts (take (length now - 1) now)
joining_step place starts now first h above =
    let long : length (take (length now - 1) now) ≡ length now - 1 = taken (length now - 1) now (omega arith) in
    let last : length now - 1 < length now = omega (arith, h.some) in record {
      some = elim (cases_lt 0 (length now - 1)) [
        | inl more ↦ omega (arith, more, long)
        | inr none ↦
            let one : length now - 1 ≡ 0 = omega (arith, none) in
            let low : (start_at now (length now - 1)).place ≡ 0 =
            ap (λ k. (start_at now k).place) one ∙ ap (λ (s : Start). s.place) (h.kept 0 h.some) ∙ first in
            absurd (omega (arith, above, low))
      ];
      fewer = omega (arith, long, h.fewer);
      kept = λ k l.
          let less : k < length now - 1 = omega (arith, l, long) in
          get_or-take (length now - 1) now k (record { place = 0; ahead = 0 }) less ∙ h.kept k (omega (arith, less));
      high = λ k l m. elim (cases_eq k (length now - 1)) [
        | inl e ↦ subst (λ j. place < (start_at starts j).place) (sym e) (subst (λ (s : Start). place < s.place) (h.kept (length now - 1) last) above)
        | inr d ↦ h.high k (omega (arith, l, long, d)) m
      ];
    }

pub joining_end : (place : ℕ) (starts now : List Start) → AreJoining place starts now → (start_at now (length now - 1)).place ≤ place
    → HaveJoined place starts now
joining_end place starts now h low = record { some = h.some; fewer = h.fewer; kept = h.kept; low = low; high = h.high }

-- Numbers become done, place by place.
pub closed_none : (place name : ℕ) (states : List State) → HasClosed place place name states states
closed_none place name states = record { count = refl; at = λ i. inr (refl, λ p e l. l); left = λ w. refl }

pub closed_more : (place limit name : ℕ) (states : List State) (path : List ℕ) (now : List State) → ArePlaced states path → place ≤ limit → limit < length path
    → HasClosed place limit name states now → HasClosed place (limit + 1) name states (set now (slice_index path limit) (Done name))
closed_more place limit name states path now placed low high h = record {
  count = length-set now (slice_index path limit) (Done name) ∙ h.count;
  at = λ i. elim (cases_eq i (slice_index path limit)) [
    | inl e ↦ inl (
      limit,
      ap (state_at states) e ∙ on,
      low,
      omega arith,
      ap (state_at (set now (slice_index path limit) (Done name))) e ∙ get_or-set_same now (slice_index path limit) (Done name) Unseen small,
    )
    | inr d ↦ elim (h.at i) [
      | inl c ↦ inl (c.0, c.1, c.2, omega (arith, c.3), get_or-set_other now (slice_index path limit) i (Done name) Unseen d ∙ c.4)
      | inr k ↦ inr (
        get_or-set_other now (slice_index path limit) i (Done name) Unseen d ∙ k.0,
        λ p e l. elim (cases_eq p limit) [
          | inl s ↦ absurd (d (sym (placed.placed i p e).1 ∙ ap (slice_index path) s))
          | inr o ↦ let most = k.1 p e l in omega (arith, most, o)
        ],
      )
    ]
  ];
  left = λ w.
      let sums = sum_by-set (weight w) now (slice_index path limit) (Done name) Unseen small in
      let was : weight w (state_at now (slice_index path limit)) ≡ 0 = elim (h.at (slice_index path limit)) [
        | inl c ↦ ap (weight w) c.4
        | inr k ↦ ap (weight w) (k.0 ∙ on)
      ] in
      let old = h.left w in omega (arith, sums, was, old);
}
  where
    on : state_at states (slice_index path limit) ≡ OnPath limit
    on = placed.on_path limit high

    small : slice_index path limit < length now
    small = subst (λ m. slice_index path limit < m) (sym h.count)
        (seen_below states (slice_index path limit) (λ e. unseen_or_on limit (state_at states (slice_index path limit)) e on))

module _ (n w : ℕ) (next : ℕ → ℕ → ℕ) (Skip : ℕ → ℕ → Type 0) (t : Tour) (h : IsTourBut n w next Skip t) where
  -- the place of a start is not above that of a later one
  pub rising : (j k : ℕ) → j ≤ k → k < length t.starts → (start_at t.starts j).place ≤ (start_at t.starts k).place
  rising j k l m = elim (cases_lt j k) [
    | inl less ↦ let up = h.starts.ascending j k less m in omega (arith, up)
    | inr most ↦ let same : j ≡ k = omega arith in subst (λ i. (start_at t.starts j).place ≤ (start_at t.starts i).place) same (omega arith)
  ]

  -- the path leads from each of its numbers to one of the last component
  pub to_top : (x : ℕ) → IsOnTop t x → (p : ℕ) → p < length t.path → Reaches (IsEdge w next) (slice_index t.path p) x
  to_top x top p less =
      let at = h.placed.placed x top.0 top.1 in
      subst (λ m. Reaches (IsEdge w next) (slice_index t.path p) m) at.1 (elim (cases_lt p top.0) [
        | inl l ↦ h.upward p top.0 (omega arith) at.0
        | inr m ↦ elim (h.downward top.0 p m less) [
          | inl cut ↦ let low = top.2 cut.0 cut.1 in absurd (omega (arith, low, cut.2))
          | inr r ↦ r
        ]
      ])

  -- An edge from the last component leads back to a place of the path.
  module _ (Rest : ℕ → ℕ → Type 0) (x : ℕ) (top : IsOnTop t x) (v place : ℕ) (at : state_at t.states v ≡ OnPath place) (edge : IsEdge w next x v)
      (skip : (q a : ℕ) → q < length t.path → a < w → Skip (slice_index t.path q) a → Rest (slice_index t.path q) a ⊎ (next (slice_index t.path q) a ≡ v))
      (now : List Start) (joined : HaveJoined place t.starts now) where
    all_low : (k : ℕ) → k < length now → (start_at now k).place ≤ place
    all_low k l =
        let last : length now - 1 < length now = omega (arith, joined.some) in
        let up = rising k (length now - 1) (omega (arith, l)) (omega (arith, last, joined.fewer)) in
        let one = ap (λ (s : Start). s.place) (joined.kept k l) in
        let two = ap (λ (s : Start). s.place) (joined.kept (length now - 1) last) in
        omega (arith, up, one, two, joined.low)

    joined_downward : (p q : ℕ) → p ≤ q → q < length t.path → IsCut now p q ⊎ Reaches (IsEdge w next) (slice_index t.path q) (slice_index t.path p)
    joined_downward p q l m = elim (h.downward p q l m) [
      | inr r ↦ inr r
      | inl cut ↦ elim (cases_lt cut.0 (length now)) [
        | inl less ↦ inl (
          cut.0,
          less,
          subst (λ (s : Start). p < s.place) (sym (joined.kept cut.0 less)) cut.2,
          subst (λ (s : Start). s.place ≤ q) (sym (joined.kept cut.0 less)) cut.3,
        )
        | inr most ↦
            let high = joined.high cut.0 most cut.1 in
            let back : Reaches (IsEdge w next) (slice_index t.path q) (slice_index t.path place) =
            reaches_on (IsEdge w next) (to_top x top q m)
            (subst (λ i. Reaches (IsEdge w next) x i) (sym (h.placed.placed v place at).1) (further edge here)) in
            elim (cases_lt p place) [
              | inr low ↦ inr (reaches_on (IsEdge w next) back (h.upward place p low (omega arith)))
              | inl up ↦ elim (h.downward p place (omega arith) (h.placed.placed v place at).0) [
                | inr r ↦ inr (reaches_on (IsEdge w next) back r)
                | inl other ↦ elim (cases_lt other.0 (length now)) [
                  | inl less ↦ inl (
                    other.0,
                    less,
                    subst (λ (s : Start). p < s.place) (sym (joined.kept other.0 less)) other.2,
                    subst (λ (s : Start). s.place ≤ q) (sym (joined.kept other.0 less)) (omega (arith, other.3, high, cut.3)),
                  )
                  | inr more ↦ let bad = joined.high other.0 more other.1 in absurd (omega (arith, bad, other.3))
                ]
              ]
            ]
      ]
    ]

    begun_joined : (q f : ℕ) → BelongTogether t.starts q f → BelongTogether now q f
    begun_joined q f old k k_in =
        subst (λ (s : Start). (s.place ≤ q) ↔ (s.ahead ≤ f)) (sym (joined.kept k k_in)) (old k (omega (arith, k_in, joined.fewer)))

    pub joined_top : (y : ℕ) → IsOnTop t y → IsOnTop (record { states = t.states; path = t.path; ahead = t.ahead; starts = now }) y
    joined_top y on = (
      on.0,
      on.1,
      λ k k_in. subst (λ (s : Start). s.place ≤ on.0) (sym (joined.kept k k_in)) (on.2 k (omega (arith, k_in, joined.fewer))),
    )

    pub joined_tour : IsTourBut n w next Rest (record { states = t.states; path = t.path; ahead = t.ahead; starts = now })
    joined_tour = record {
      count = h.count;
      placed = h.placed;
      starts = record {
        ascending = λ j k l m.
            let low : j < length now = omega (arith, l, m) in
            let one = ap (λ (s : Start). s.place) (joined.kept j low) in
            let two = ap (λ (s : Start). s.place) (joined.kept k m) in
            let up = h.starts.ascending j k l (omega (arith, m, joined.fewer)) in
            omega (arith, one, two, up);
        places = λ k l. subst (λ (s : Start). s.place < length t.path) (sym (joined.kept k l)) (h.starts.places k (omega (arith, l, joined.fewer)));
        within = λ k l. subst (λ (s : Start). s.ahead ≤ length t.ahead) (sym (joined.kept k l)) (h.starts.within k (omega (arith, l, joined.fewer)));
        first = λ l. ap (λ (s : Start). s.place) (joined.kept 0 l) ∙ h.starts.first (omega (arith, l, joined.fewer));
        some = λ l. joined.some;
      };
      done = h.done;
      upward = h.upward;
      downward = joined_downward;
      edges = λ q a l m. elim (h.edges q a l m) [
        | inl s ↦ elim (skip q a l m s) [
          | inl r ↦ inl r
          | inr e ↦ inr (inr (inr (place, ap (state_at t.states) e ∙ at, λ k k_in. λ _. all_low k k_in)))
        ]
        | inr (inl f) ↦ inr (inl (f.0, f.1, f.2, begun_joined q f.0 f.3))
        | inr (inr (inl d)) ↦ inr (inr (inl d))
        | inr (inr (inr b)) ↦ inr (inr (inr (
          b.0,
          b.1,
          λ k k_in.
              subst (λ (s : Start). s.place ≤ q → s.place ≤ b.0) (sym (joined.kept k k_in)) (b.2 k (omega (arith, k_in, joined.fewer))),
        )))
      ];
      ahead = λ f l. let old = h.ahead f l in (old.0, old.1, old.2, begun_joined old.0 f old.3);
    }

  -- An edge leads to what is done.
  pub passed_tour : (Rest : ℕ → ℕ → Type 0) → ((q a : ℕ) → q < length t.path → a < w → Skip (slice_index t.path q) a
      → Rest (slice_index t.path q) a ⊎ ((d : ℕ) × (state_at t.states (next (slice_index t.path q) a) ≡ Done d))) → IsTourBut n w next Rest t
  passed_tour Rest skip = record {
    count = h.count;
    placed = h.placed;
    starts = h.starts;
    done = h.done;
    upward = h.upward;
    downward = h.downward;
    edges = λ q a l m. elim (h.edges q a l m) [
      | inl s ↦ elim (skip q a l m s) [ inl r ↦ inl r | inr d ↦ inr (inr (inl d)) ]
      | inr r ↦ inr r
    ];
    ahead = h.ahead;
  }
