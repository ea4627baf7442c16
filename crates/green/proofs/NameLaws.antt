-- Names of strongly connected components, when all are done.
use Rattle.std.proofs.Common.{◌≡◌, ◌≢◌, ℕ, ◌+◌, ◌<◌, List, [], ◌∷◌, ◌++◌, length, slice_index, sym, ◌∙◌, ap, subst, arith, inl, inr}
use Rattle.std.proofs.Math.ListN.{get_or-append}
use Rattle.std.proofs.lemmas.Bool.{cases_lt}
use Rattle.std.proofs.lemmas.List.{get_or_push, length_push}
use Rattle.theory.specs.Green.{Reaches, here, further, IsEdge, AreConnected}
use Rattle.green.specs.Naming.{AreNames}
use Rattle.green.specs.Touring.{Tour, state_at, IsTour, KeepsSeen}
use Rattle.green.specs.declared.states.State.{State}
use Rattle.green.specs.declared.states.State.TheVariants.{Unseen, Done}
use Rattle.green.proofs.TourLaws.{state_cases, seen_below, unseen_or_done, reaches_on}

-- one number more is seen
pub seen_more : (old new : Tour) (number : ℕ) → ((i : ℕ) → i < number → state_at old.states i ≢ Unseen) → KeepsSeen old new
    → state_at new.states number ≢ Unseen → (i : ℕ) → i < number + 1 → state_at new.states i ≢ Unseen
seen_more old new number seen kept this i l = elim (cases_lt i number) [
  | inl less ↦ kept i (seen i less)
  | inr most ↦ let same : number ≡ i = omega (arith, l, most) in subst (λ j. state_at new.states j ≢ Unseen) same this
]

module _ (n w : ℕ) (next : ℕ → ℕ → ℕ) (t : Tour) (h : IsTour n w next t) (rest : t.starts ≡ []) (seen : (i : ℕ) → i < n → state_at t.states i ≢ Unseen) where
  -- no path is left
  pub all_done : (i : ℕ) → i < n → (c : ℕ) × (state_at t.states i ≡ Done c)
  all_done i l = elim (state_cases (state_at t.states i)) [
    | inl e ↦ absurd (seen i l e)
    | inr (inl p) ↦
        let at = (h.placed.placed i p.0 p.1).0 in
        let some = h.starts.some (omega (arith, at)) in
        absurd (omega (arith, some, ap length rest))
    | inr (inr c) ↦ c
  ]

  name_below : (i c : ℕ) → state_at t.states i ≡ Done c → c < n
  name_below i c e =
      let own = (h.done.named i c e).0 in
      let small = seen_below t.states c (λ d. unseen_or_done c (state_at t.states c) d own) in
      omega (arith, small, h.count)

  -- what is connected has one name
  kept_name : {i j : ℕ} → Reaches (IsEdge w next) i j → Reaches (IsEdge w next) j i → (c : ℕ) → state_at t.states i ≡ Done c → state_at t.states j ≡ Done c
  kept_name here back c e = e
  kept_name (further {i} {j} {l} edge r) back c e =
      let step = h.done.closed i c edge.0 e edge.1 in
      let there : state_at t.states j ≡ Done step.0 = subst (λ m. state_at t.states m ≡ Done step.0) edge.2 step.1 in
      let return : Reaches (IsEdge w next) l j = reaches_on (IsEdge w next) back (further edge here) in
      elim step.2 [
        | inl same ↦ kept_name r return c (there ∙ ap (λ d. Done d) same)
        | inr never ↦ absurd (never (subst (λ m. Reaches (IsEdge w next) m i) (sym edge.2) (reaches_on (IsEdge w next) r back)))
      ]

  pub are_names : (names : List ℕ) → length names ≡ n → ((i c : ℕ) → i < n → state_at t.states i ≡ Done c → slice_index names i ≡ c)
      → AreNames n (AreConnected (IsEdge w next)) names
  are_names names count at = record {
    count = count;
    within = λ i l. let c = all_done i l in subst (λ m. m < n) (sym (at i c.0 l c.1)) (name_below i c.0 c.1);
    same = λ i j l m.
        let c = all_done i l in
        let d = all_done j m in (
          λ e.
              let one : c.0 ≡ d.0 = sym (at i c.0 l c.1) ∙ e ∙ at j d.0 m d.1 in
              let left = (h.done.named i c.0 c.1).1 in
              let right = subst (λ x. AreConnected (IsEdge w next) j x) (sym one) (h.done.named j d.0 d.1).1 in
              (reaches_on (IsEdge w next) left.0 right.1, reaches_on (IsEdge w next) right.0 left.1),
          λ r.
              let one : state_at t.states j ≡ Done c.0 = kept_name r.0 r.1 c.0 c.1 in
              at i c.0 l c.1 ∙ sym (at j c.0 m one),
        );
  }

-- one name more
pub names_more : (states : List State) (names now : List ℕ) (number name : ℕ) → length names ≡ number
    → ((i c : ℕ) → i < number → state_at states i ≡ Done c → slice_index names i ≡ c)
    → ((c : ℕ) → state_at states number ≡ Done c → name ≡ c) → now ≡ names ++ name ∷ []
    → (length now ≡ number + 1) × ((i c : ℕ) → i < number + 1 → state_at states i ≡ Done c → slice_index now i ≡ c)
names_more states names now number name count at this is = (
  ap length is ∙ length_push names name ∙ ap (λ m. m + 1) count,
  λ i c l e. ap (λ (xs : List ℕ). slice_index xs i) is ∙ elim (cases_lt i number) [
    | inl less ↦ get_or-append names (name ∷ []) 0 i (omega (arith, less, count)) ∙ at i c less e
    | inr most ↦
        let same : i ≡ number = omega (arith, l, most) in
        get_or_push names name 0 i (omega (arith, same, count)) ∙ this c (ap (state_at states) (sym same) ∙ e)
  ],
)
