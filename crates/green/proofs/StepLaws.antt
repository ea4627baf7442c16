-- The steps of the search for strongly connected components.
use Rattle.std.proofs.Common.{◌≡◌, ◌≢◌, ℕ, ◌+◌, ◌-◌, ◌<◌, ◌≤◌, ◌⊎◌, List, [], ◌∷◌, ◌++◌, length, slice_index, take, inl, inr, sym, ◌∙◌, ap, subst, arith}
use Rattle.std.proofs.lemmas.Bool.{cases_eq}
use Rattle.std.proofs.lemmas.List.{length_push}
use Rattle.theory.specs.Green.{here, further, IsEdge}
use Rattle.green.specs.Touring.{Tour, state_at, start_at, DoesLeadTo, IsEdgeFrom, IsEdgeTo, IsLedTo, IsTourBut, IsTour, IsOnTop, entered, with_ahead, without_start, HaveJoined, HasClosed, KeepsSeen, left_over}
use Rattle.green.specs.declared.states.State.{State}
use Rattle.green.specs.declared.states.State.TheVariants.{Unseen, OnPath, Done}
use Rattle.green.specs.declared.depth_first.Start.{Start}
use Rattle.green.proofs.TourLaws.{seen_below, unseen_or_on, reaches_on, to_top, joined_tour, joined_top, passed_tour}
use Rattle.green.proofs.EnterLaws.{at_v, entered_tour, entered_top, entered_left, entered_seen}
use Rattle.green.proofs.AheadLaws.{put_tour, taken_tour, taken_led}
use Rattle.green.proofs.CloseLaws.{closed_tour, closed_left, closed_seen}

-- a tour with other starts
abbrev pub with_starts : Tour → List Start → Tour
with_starts t starts = record { states = t.states; path = t.path; ahead = t.ahead; starts = starts }

pub starts_alone : (t u : Tour) → u.states ≡ t.states → u.path ≡ t.path → u.ahead ≡ t.ahead → u ≡ with_starts t u.starts
starts_alone t u states path ahead =
    ap (λ (s : List State). record { states = s; path = u.path; ahead = u.ahead; starts = u.starts }) states
    ∙ ap (λ (p : List ℕ). record { states = t.states; path = p; ahead = u.ahead; starts = u.starts }) path
    ∙ ap (λ (f : List ℕ). record { states = t.states; path = t.path; ahead = f; starts = u.starts }) ahead

-- what is on top of the path is a number, and components have started
module _ (n w : ℕ) (next : ℕ → ℕ → ℕ) (Skip : ℕ → ℕ → Type 0) (t : Tour) (h : IsTourBut n w next Skip t) (x : ℕ) (top : IsOnTop t x) where
  pub top_small : x < n
  top_small =
      let seen = seen_below t.states x (λ e. unseen_or_on top.0 (state_at t.states x) e top.1) in
      omega (arith, seen, h.count)

  pub some_start : 0 < length t.starts
  some_start = let at = (h.placed.placed x top.0 top.1).0 in h.starts.some (omega (arith, at))

  -- an edge leads to a number
  pub led_below : ((i a : ℕ) → i < n → a < w → next i a < n) → (v : ℕ) → IsEdge w next x v → v < n
  led_below within v edge = let small = within x edge.0 top_small edge.1 in omega (arith, small, edge.2)

  pub led_small : ((i a : ℕ) → i < n → a < w → next i a < n) → (v : ℕ) → IsEdge w next x v → v < length t.states
  led_small within v edge = let below = led_below within v edge in omega (arith, below, h.count)

-- An edge of the last component is looked along.
module _ (n w : ℕ) (next : ℕ → ℕ → ℕ) (t : Tour) (number letter : ℕ) (h : IsTourBut n w next (IsEdgeFrom number letter) t) (top : IsOnTop t number) (less : letter < w)
    (v : ℕ) (is : v ≡ next number letter) where
  leads : IsEdge w next number v
  leads = (letter, less, sym is)

  -- what is skipped is this edge, or is still skipped
  later : (q a : ℕ) → IsEdgeFrom number letter (slice_index t.path q) a
      → IsEdgeFrom number (letter + 1) (slice_index t.path q) a ⊎ (next (slice_index t.path q) a ≡ v)
  later q a s = elim (cases_eq a letter) [
    | inl e ↦ inr (ap (λ i. next i a) s.0 ∙ ap (next number) e ∙ sym is)
    | inr d ↦ inl (s.0, omega (arith, s.1, d))
  ]

  -- an edge looked along: what is said of it then
  abbrev pub Looked : Tour → Type 0
  Looked u = IsTourBut n w next (IsEdgeFrom number (letter + 1)) u × IsOnTop u number × (left_over w u ≤ left_over w t + 1)

  pub new_looked : (u : Tour) → u ≡ with_ahead t v → Looked u
  new_looked u e = subst Looked (sym e) (put_tour n w next t number letter h top less v is, top, (let long = length_push t.ahead v in omega (arith, long)))

  pub back_looked : (u : Tour) (place : ℕ) → state_at t.states v ≡ OnPath place → HaveJoined place t.starts u.starts → u.states ≡ t.states → u.path ≡ t.path
      → u.ahead ≡ t.ahead → Looked u
  back_looked u place at joined states path ahead =
      subst Looked (sym (starts_alone t u states path ahead)) (
        joined_tour n w next (IsEdgeFrom number letter) t h (IsEdgeFrom number (letter + 1)) number top v place at leads (λ q a l m s. later q a s) u.starts joined,
        joined_top n w next (IsEdgeFrom number letter) t h (IsEdgeFrom number (letter + 1)) number top v place at leads (λ q a l m s. later q a s) u.starts joined number top,
        omega (arith, joined.fewer),
      )

  pub done_looked : (d : ℕ) → state_at t.states v ≡ Done d → Looked t
  done_looked d at = (
    passed_tour n w next (IsEdgeFrom number letter) t h (IsEdgeFrom number (letter + 1)) (λ q a l m s. elim (later q a s) [
      | inl r ↦ inl r
      | inr e ↦ inr (d, ap (state_at t.states) e ∙ at)
    ]),
    top,
    omega arith,
  )

-- no edge of a number is skipped behind the last letter
pub all_looked : (n w m : ℕ) (next : ℕ → ℕ → ℕ) (t : Tour) (number : ℕ) → IsTourBut n w next (IsEdgeFrom number m) t → w ≤ m → IsTour n w next t
all_looked n w m next t number h all =
    passed_tour n w next (IsEdgeFrom number m) t h (λ i a. ⊥) (λ q a l less s. absurd (omega (arith, s.1, less, all)))

-- A number that is new is entered.
module _ (n w : ℕ) (next : ℕ → ℕ → ℕ) (t : Tour) (v : ℕ) (h : IsTourBut n w next (IsEdgeTo next v) t) (new : state_at t.states v ≡ Unseen) (small : v < n)
    (led : DoesLeadTo w next t v) where
  -- what is said of a tour that enters it
  abbrev pub Entered : Tour → Type 0
  Entered u = IsTourBut n w next (IsEdgeFrom v 0) u × IsOnTop u v × (left_over w u + w ≤ left_over w t) × KeepsSeen t u × (state_at u.states v ≢ Unseen)

  pub now_entered : (u : Tour) → u ≡ entered t v → Entered u
  now_entered u e = subst Entered (sym e) (
    entered_tour n w next (IsEdgeTo next v) t h v new small led (λ q a l m s. s),
    entered_top n w next (IsEdgeTo next v) t h v new small led (λ q a l m s. s),
    (let same = entered_left n w next (IsEdgeTo next v) t h v new small led (λ q a l m s. s) in omega (arith, same)),
    entered_seen n w next (IsEdgeTo next v) t h v new small led (λ q a l m s. s),
    λ d. unseen_or_on (length t.path) (state_at (entered t v).states v) d (at_v n w next (IsEdgeTo next v) t h v new small led (λ q a l m s. s)),
  )

-- The search comes to a number where an edge of the last component leads.
module _ (n w : ℕ) (next : ℕ → ℕ → ℕ) (t : Tour) (v : ℕ) (h : IsTourBut n w next (IsEdgeTo next v) t) (led : IsLedTo w next t v) where
  pub path_leads : DoesLeadTo w next t v
  path_leads p l = reaches_on (IsEdge w next) (to_top n w next (IsEdgeTo next v) t h led.0 led.1 p l) (further led.2 here)

  pub back_arrived : (u : Tour) (place : ℕ) → state_at t.states v ≡ OnPath place → HaveJoined place t.starts u.starts → u.states ≡ t.states → u.path ≡ t.path
      → u.ahead ≡ t.ahead → IsTour n w next u
  back_arrived u place at joined states path ahead =
      subst (IsTour n w next) (sym (starts_alone t u states path ahead))
      (joined_tour n w next (IsEdgeTo next v) t h (λ i a. ⊥) led.0 led.1 v place at led.2 (λ q a l m s. inr s) u.starts joined)

  pub done_arrived : (d : ℕ) → state_at t.states v ≡ Done d → IsTour n w next t
  done_arrived d at = passed_tour n w next (IsEdgeTo next v) t h (λ i a. ⊥) (λ q a l m s. inr (d, ap (state_at t.states) s ∙ at))

-- components are joined: nothing costs more
pub joined_left : (w place : ℕ) (t u : Tour) → HaveJoined place t.starts u.starts → u.states ≡ t.states → u.path ≡ t.path → u.ahead ≡ t.ahead → left_over w u ≤ left_over w t
joined_left w place t u joined states path ahead =
    let same = ap (left_over w) (starts_alone t u states path ahead) in
    omega (arith, same, joined.fewer)

-- what is said of a tour one step later
abbrev pub Stepped : (n w : ℕ) (next : ℕ → ℕ → ℕ) → Tour → Tour → Type 0
Stepped n w next t u = IsTour n w next u × KeepsSeen t u × (left_over w u < left_over w t)

-- what is said of a tour when a number ahead of it is taken
abbrev pub Taken : (n w : ℕ) (next : ℕ → ℕ → ℕ) → ℕ → Tour → Tour → Type 0
Taken n w next v t u = IsTourBut n w next (IsEdgeTo next v) u × IsLedTo w next u v × (left_over w u < left_over w t) × KeepsSeen t u

module _ (n w : ℕ) (next : ℕ → ℕ → ℕ) (t : Tour) (h : IsTour n w next t) (some : 0 < length t.starts) where
  -- The last component ends.
  pub ended : (start : Start) → start ≡ start_at t.starts (length t.starts - 1) → length t.ahead ≡ start.ahead
      → (u v : Tour) → HasClosed start.place (length t.path) (slice_index t.path start.place) t.states u.states
      → u.path ≡ take start.place t.path → u.ahead ≡ t.ahead → u.starts ≡ t.starts → v ≡ without_start u → Stepped n w next t v
  ended start is all u v closed path ahead starts e =
      let whole : v ≡ record { states = u.states; path = take (start_at t.starts (length t.starts - 1)).place t.path; ahead = t.ahead; starts = take (length t.starts - 1) t.starts } =
      e ∙ ap (λ (p : List ℕ). record { states = u.states; path = p; ahead = u.ahead; starts = take (length u.starts - 1) u.starts }) (path ∙ ap (λ (s : Start). take s.place t.path) is)
      ∙ ap (λ (f : List ℕ). record { states = u.states; path = take (start_at t.starts (length t.starts - 1)).place t.path; ahead = f; starts = take (length u.starts - 1) u.starts }) ahead
      ∙ ap (λ (s : List Start). record { states = u.states; path = take (start_at t.starts (length t.starts - 1)).place t.path; ahead = t.ahead; starts = take (length s - 1) s }) starts in
      let last : (start_at t.starts (length t.starts - 1)).ahead ≡ length t.ahead = ap (λ (s : Start). s.ahead) (sym is) ∙ sym all in
      let its = subst (λ (s : Start). HasClosed s.place (length t.path) (slice_index t.path s.place) t.states u.states) is closed in
      subst (Stepped n w next t) (sym whole) (
        closed_tour n w next t h some last u.states its,
        closed_seen n w next t h some last u.states its,
        closed_left n w next t h some last u.states its,
      )

  -- The last number ahead is taken.
  module _ (rest : List ℕ) (v : ℕ) (are : t.ahead ≡ rest ++ v ∷ []) (start : Start) (is : start ≡ start_at t.starts (length t.starts - 1)) (not_all : length t.ahead ≢ start.ahead) where
    not_last : (start_at t.starts (length t.starts - 1)).ahead ≢ length t.ahead
    not_last e = not_all (sym (ap (λ (s : Start). s.ahead) is ∙ e))

    pub number_taken : Taken n w next v t (record { states = t.states; path = t.path; ahead = rest; starts = t.starts })
    number_taken = (
      taken_tour n w next t h rest v are some not_last,
      taken_led n w next t h rest v are some not_last,
      (let long : length t.ahead ≡ length rest + 1 = ap length are ∙ length_push rest v in omega (arith, long)),
      λ i seen. seen,
    )

-- A search begins at a number.
module _ (n w : ℕ) (next : ℕ → ℕ → ℕ) (t : Tour) (h : IsTour n w next t) (rest : t.starts ≡ []) (v : ℕ) where
  no_path : (p : ℕ) → p < length t.path → ⊥
  no_path p l = let some = h.starts.some (omega (arith, l)) in omega (arith, some, ap length rest)

  pub begun_led : DoesLeadTo w next t v
  begun_led p l = absurd (no_path p l)

  pub begun_tour : IsTourBut n w next (IsEdgeTo next v) t
  begun_tour = passed_tour n w next (λ i a. ⊥) t h (IsEdgeTo next v) (λ q a l m s. absurd s)
