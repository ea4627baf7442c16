-- Each kind of step keeps the rule of the winner word.
use Rattle.std.proofs.Common.{◌≡◌, ◌≢◌, ℕ, zero, suc, ◌+◌, ◌-◌, ◌<◌, ◌≤◌, ◌==◌, ◌⊎◌, inl, inr, Bool, true, false, List, [], ◌∷◌, ◌++◌, length, set, Contains, refl, sym, ap, ◌∙◌, subst, arith, eq-eqb, ne_eqb, eqb}
use Rattle.std.specs.Prelude.{slice_index, slice_index_or, slice_set, if◌then◌else◌}
use Rattle.std.proofs.lemmas.List.Elements.{Contains-append_cases, Contains-append_left, Contains-append_right, Contains-push_cases}
use mathlib.Core.Logic.{dite}
use mathlib.Core.Option.{some, none, some-injective, some-ne-none}
use native.Mathlib.Decide.{ℕ_discrete}
use prog.Atomic.{either}
use lib.ListN.{get_elem?}
use Rattle.atomic_table.specs.Table.{State, Me, Step, step, Act, keeps, stepped, opening, Allows, Splits, Joins, Seen}
use Rattle.race.proofs.Keeps.{not_zero}
use Rattle.race.specs.Lanes.{looked}
use Rattle.race.specs.Winner.{phase_of, entry, keeper, lane_view, spent, seat_given, newcomer, gained, moves, looks, publishes, total, entries, has_number, keeps_one, next_of, IsEntry, PhaseFits, WordFits, IsRuled}
use Rattle.race.specs.declared.winner.Phase.{Phase}
use Rattle.race.specs.declared.winner.Phase.TheVariants as phase
use Rattle.race.specs.declared.winner.Entry.{Entry}
use Rattle.race.specs.declared.winner.View.{View}
use Rattle.race.specs.declared.lanes.LaneState.{LaneState}

module _ {X : Type 0} where
  pub total_set : (f : X → ℕ) (xs : List X) (k : ℕ) (x y : X) → get_elem? xs k ≡ some x → total f (set xs k y) + f x ≡ total f xs + f y
  total_set f [] k x y e = absurd (some-ne-none x (sym e))
  total_set f (z ∷ xs) zero x y e = let h = ap f (some-injective z x e) in omega arith
  total_set f (z ∷ xs) (suc k) x y e = let h = total_set f xs k x y e in omega arith

  pub total_append : (f : X → ℕ) (xs ys : List X) → total f (xs ++ ys) ≡ total f xs + total f ys
  total_append f [] ys = omega arith
  total_append f (x ∷ xs) ys = let h = total_append f xs ys in omega arith

  -- what one of them counts is counted
  pub of_one : (f : X → ℕ) (xs : List X) (x : X) → Contains xs x → f x ≤ total f xs
  of_one f xs x h = go xs h.0 h.1 h.2
    where
      go : (xs : List X) (k : ℕ) → k < length xs → slice_index_or xs k x ≡ x → f x ≤ total f xs
      go [] k l e = absurd (omega arith)
      go (z ∷ xs) zero l e = let h = ap f e in omega arith
      go (z ∷ xs) (suc k) l e = let h = go xs k (omega arith) e in omega arith

  behind : (y : X) (xs : List X) (z : X) → Contains xs z → Contains (y ∷ xs) z
  behind y xs z h = let l = h.1 in (suc h.0, omega arith, h.2)

  -- what stands at a place is one of them
  pub here : (xs : List X) (k : ℕ) (x : X) → get_elem? xs k ≡ some x → Contains xs x
  here [] k x e = absurd (some-ne-none x (sym e))
  here (z ∷ xs) zero x e = (0, omega arith, some-injective z x e)
  here (z ∷ xs) (suc k) x e = behind z xs x (here xs k x e)

  set_here : (xs : List X) (k : ℕ) (x y : X) → get_elem? xs k ≡ some x → get_elem? (set xs k y) k ≡ some y
  set_here [] k x y e = absurd (some-ne-none x (sym e))
  set_here (z ∷ xs) zero x y e = refl
  set_here (z ∷ xs) (suc k) x y e = set_here xs k x y e

  set_else : (xs : List X) (j k : ℕ) (y : X) → j ≢ k → get_elem? (set xs k y) j ≡ get_elem? xs j
  set_else [] j k y n = refl
  set_else (z ∷ xs) zero zero y n = absurd (n refl)
  set_else (z ∷ xs) zero (suc k) y n = refl
  set_else (z ∷ xs) (suc j) zero y n = refl
  set_else (z ∷ xs) (suc j) (suc k) y n = set_else xs j k y (λ e. n (ap suc e))

  -- one of a list with one place changed
  in_set : (xs : List X) (k : ℕ) (y z : X) → Contains (set xs k y) z → (z ≡ y) ⊎ Contains xs z
  in_set xs k y z h = go xs k h.0 h.1 h.2
    where
      go : (xs : List X) (k j : ℕ) → j < length (set xs k y) → slice_index_or (set xs k y) j z ≡ z → (z ≡ y) ⊎ Contains xs z
      go [] k j l e = absurd (omega arith)
      go (x ∷ xs) zero zero l e = inl (sym e)
      go (x ∷ xs) zero (suc j) l e = inr (suc j, l, e)
      go (x ∷ xs) (suc k) zero l e = inr (0, omega arith, e)
      go (x ∷ xs) (suc k) (suc j) l e = elim (go xs k j (omega arith) e) [ inl d ↦ inl d | inr c ↦ inr (behind x xs z c) ]

  in_kept : (xs : List X) (k : ℕ) (x y z : X) → get_elem? xs k ≡ some x → Contains xs z → (z ≡ x) ⊎ Contains (set xs k y) z
  in_kept xs k x y z at h = go xs k at h.0 h.1 h.2
    where
      go : (xs : List X) (k : ℕ) → get_elem? xs k ≡ some x → (j : ℕ) → j < length xs → slice_index_or xs j z ≡ z → (z ≡ x) ⊎ Contains (set xs k y) z
      go [] k at j l e = absurd (omega arith)
      go (v ∷ xs) zero at zero l e = inl (sym e ∙ some-injective v x at)
      go (v ∷ xs) zero at (suc j) l e = inr (suc j, l, e)
      go (v ∷ xs) (suc k) at zero l e = inr (0, omega arith, e)
      go (v ∷ xs) (suc k) at (suc j) l e = elim (go xs k at j (omega arith) e) [ inl d ↦ inl d | inr c ↦ inr (behind v (set xs k y) z c) ]

  single : (x z : X) → Contains (x ∷ []) z → z ≡ x
  single x z h = go h.0 h.1 h.2
    where
      go : (k : ℕ) → k < 1 → slice_index_or (x ∷ []) k z ≡ z → z ≡ x
      go zero l e = sym e
      go (suc k) l e = absurd (omega arith)

abbrev counted : (Entry → ℕ) → View → ℕ
counted f v = total f v.entries

-- the entries of views of which one has changed
pub entry_at : (vs : List View) (k : ℕ) (v : View) (e : Entry) → get_elem? vs k ≡ some v → Contains v.entries e → IsEntry vs e
entry_at vs k v e at m = (v, here vs k v at, m)

entry_from : (vs : List View) (k : ℕ) (w : View) (e : Entry) → IsEntry (set vs k w) e → Contains w.entries e ⊎ IsEntry vs e
entry_from vs k w e h = elim (in_set vs k w h.0 h.1) [
  | inl d ↦ inl (subst (λ (u : View). Contains u.entries e) d h.2)
  | inr m ↦ inr (h.0, m, h.2)
]

pub entry_kept : (vs : List View) (k : ℕ) (v w : View) (e : Entry) → get_elem? vs k ≡ some v → IsEntry vs e → Contains v.entries e ⊎ IsEntry (set vs k w) e
entry_kept vs k v w e at h = elim (in_kept vs k v w h.0 at h.1) [
  | inl d ↦ inl (subst (λ (u : View). Contains u.entries e) d h.2)
  | inr m ↦ inr (h.0, m, h.2)
]

-- an entry is counted
pub counts : (f : Entry → ℕ) (vs : List View) (e : Entry) → IsEntry vs e → f e ≤ entries f vs
counts f vs e h =
    let inner = of_one f h.0.entries e h.2 in
    let outer = of_one (counted f) vs h.0 h.1 in omega arith

abbrev S : Type 0
S = State (Unit {0}) View

-- other entries that fit the word, with the winner's
fits_kept : (w : ℕ) (H K : Entry → Type 0) → ((e : Entry) → K e → H e ⊎ PhaseFits w e.number e.phase) → ((e : Entry) → e.phase ≡ phase.Won → H e → K e) → WordFits w H → WordFits w K
fits_kept w H K back on h = record {
  small = h.small;
  each = λ e k. elim (back e k) [ inl m ↦ h.each e m | inr f ↦ f ];
  winner = elim h.winner [ inl z ↦ inl z | inr m ↦ inr (m.0, m.1, on (entry m.0 phase.Won) refl m.2) ];
}

phase_fits : (w i : ℕ) (p : Phase) (e : Entry) → PhaseFits w i p → e ≡ entry i p → PhaseFits w e.number e.phase
phase_fits w i p e f d = subst (λ (x : Entry). PhaseFits w x.number x.phase) (sym d) f

pub begins : IsRuled (opening (0 ∷ []) [] (keeper 0 []))
begins = record { word = 0; word_is = refl; keepers = refl; most = omega arith; apart = λ n. omega arith; below = λ n h. refl; fits = record { small = omega arith; each = λ e h. absurd (none e (single (keeper 0 []) h.0 h.1) h.2); winner = inl refl } }
  where
    none : (e : Entry) {v : View} → v ≡ keeper 0 [] → Contains v.entries e → ⊥
    none e is h = let m = subst (λ (u : View). Contains u.entries e) is h in let l = m.1 in omega arith

-- where no view is the keeper's, no next number is counted
no_keeper : (vs : List View) → total keeps_one vs ≡ 0 → total next_of vs ≡ 0
no_keeper [] h = refl
no_keeper (v ∷ vs) h = let a = no_keeper vs (omega arith) in let b = none_there v.keeps v.next (omega arith) in omega arith
  where
    none_there : (b : Bool) (n : ℕ) → ◌≡◌ {A = ℕ} (if b then 1 else 0) 0 → ◌≡◌ {A = ℕ} (if b then n else 0) 0
    none_there true n h = absurd (omega arith)
    none_there false n h = refl

keeper_next : (v : View) → v.keeps ≡ true → (keeps_one v ≡ 1) × (next_of v ≡ v.next)
keeper_next v e = (rw e refl, rw e refl)

-- the next number is the keeper's
pub only : (vs : List View) (k : ℕ) (v : View) → get_elem? vs k ≡ some v → v.keeps ≡ true → total keeps_one vs ≡ 1 → total next_of vs ≡ v.next
only vs k v at is h =
    let a = total_set keeps_one vs k v spent at in
    let b = total_set next_of vs k v spent at in
    let c = keeper_next v is in
    let c0 = c.0 in let c1 = c.1 in
    let z = no_keeper (set vs k spent) (omega arith) in
    omega arith

same_number : (n m : ℕ) (p : Phase) → ((m ≡ n) × (has_number n (entry m p) ≡ 1)) ⊎ ((m ≢ n) × (has_number n (entry m p) ≡ 0))
same_number n m p = dite (ℕ_discrete m n) (λ e. inl (e, rw (eq-eqb m n e) refl)) (λ ne. inr (ne, rw (ne_eqb m n ne) refl))

pub seats : (id : ℕ) (v : View) → v.keeps ≡ true → v.next < 64 → Splits IsRuled id v (seat_given v) (newcomer v)
seats id v is room s r at =
    let n0 = only s.views id v at is r.keepers in
    let kn = keeper_next v is in let kn0 = kn.0 in let kn1 = kn.1 in
    let ks = keeper_next (seat_given v) is in let ks0 = ks.0 in let ks1 = ks.1 in
    let vs = set s.views id (seat_given v) in
    let snoc : (f : View → ℕ) → total f (vs ++ newcomer v ∷ []) ≡ total f vs + f (newcomer v) = λ f. let h = total_append f vs (newcomer v ∷ []) in omega arith in
    let put : (f : View → ℕ) → total f vs + f v ≡ total f s.views + f (seat_given v) = λ f. total_set f s.views id v (seat_given v) at in
    let back : (e : Entry) → IsEntry (vs ++ newcomer v ∷ []) e → IsEntry s.views e ⊎ PhaseFits r.word e.number e.phase =
    λ e h. elim (Contains-push_cases vs (newcomer v) h.0 h.1) [
      | inl m ↦ elim (entry_from s.views id (seat_given v) e (h.0, m, h.2)) [ inl n ↦ inl (entry_at s.views id v e at n) | inr n ↦ inl n ]
      | inr d ↦ inr (phase_fits r.word v.next phase.Looking e tt (single (entry v.next phase.Looking) e (subst (λ (u : View). Contains u.entries e) (sym d) h.2)))
    ] in
    let on : (e : Entry) → IsEntry s.views e → IsEntry (vs ++ newcomer v ∷ []) e =
    λ e h.
    let m : IsEntry vs e = elim (entry_kept s.views id v (seat_given v) e at h) [
      | inl n ↦ entry_at vs id (seat_given v) e (set_here s.views id v (seat_given v) at) n
      | inr n ↦ n
    ] in
    (m.0, Contains-append_left vs (newcomer v ∷ []) m.0 m.1, m.2) in
    record {
      word = r.word;
      word_is = r.word_is;
      keepers = let a = snoc keeps_one in let b = put keeps_one in let c = r.keepers in omega arith;
      most = let a = snoc next_of in let b = put next_of in omega arith;
      apart = λ n.
          let a = snoc (counted (has_number n)) in let b = put (counted (has_number n)) in let c = r.apart n in
          elim (same_number n v.next phase.Looking) [ inl h ↦ let h0 = h.0 in let h1 = h.1 in let z = r.below n (omega arith) in omega arith | inr h ↦ let h1 = h.1 in omega arith ];
      below = λ n le.
          let a = snoc (counted (has_number n)) in let b = put (counted (has_number n)) in
          let la = snoc next_of in let lb = put next_of in
          let z = r.below n (omega arith) in
          elim (same_number n v.next phase.Looking) [ inl h ↦ let h0 = h.0 in absurd (omega arith) | inr h ↦ let h1 = h.1 in omega arith ];
      fits = fits_kept r.word (IsEntry s.views) (IsEntry (vs ++ newcomer v ∷ [])) back (λ e won. on e) r.fits;
    }

pub collects : (id : ℕ) (v : View) (other : ℕ) (w : View) → w.keeps ≡ false → Joins IsRuled id v other w (gained v w) spent
collects id v other w idle s r at apart there =
    let vs = set s.views id (gained v w) in
    let one_put : (f : View → ℕ) → total f vs + f v ≡ total f s.views + f (gained v w) = λ f. total_set f s.views id v (gained v w) at in
    let two_put : (f : View → ℕ) → total f (set vs other spent) + f w ≡ total f vs + f spent = λ f. total_set f vs other w spent there in
    let idle1 : keeps_one w ≡ 0 = rw idle refl in
    let idle2 : next_of w ≡ 0 = rw idle refl in
    let whole : (f : Entry → ℕ) → entries f (set vs other spent) ≡ entries f s.views =
    λ f. let a = one_put (counted f) in let b = two_put (counted f) in let c = total_append f v.entries w.entries in omega arith in
    let w_at : get_elem? s.views other ≡ some w = sym (set_else s.views other id (gained v w) apart) ∙ there in
    let both_at : get_elem? (set vs other spent) id ≡ some (gained v w) =
    set_else vs id other spent (λ d. apart (sym d)) ∙ set_here s.views id v (gained v w) at in
    let back : (e : Entry) → IsEntry (set vs other spent) e → IsEntry s.views e ⊎ PhaseFits r.word e.number e.phase =
    λ e h. elim (entry_from vs other spent e h) [
      | inl n ↦ let l = n.1 in absurd (omega arith)
      | inr m ↦ elim (entry_from s.views id (gained v w) e m) [
        | inl n ↦ elim (Contains-append_cases v.entries w.entries e n) [ inl x ↦ inl (entry_at s.views id v e at x) | inr x ↦ inl (entry_at s.views other w e w_at x) ]
        | inr n ↦ inl n
      ]
    ] in
    let on : (e : Entry) → IsEntry s.views e → IsEntry (set vs other spent) e =
    λ e h. elim (entry_kept s.views id v (gained v w) e at h) [
      | inl n ↦ entry_at (set vs other spent) id (gained v w) e both_at (Contains-append_left v.entries w.entries e n)
      | inr m ↦ elim (entry_kept vs other w spent e there m) [
        | inl n ↦ entry_at (set vs other spent) id (gained v w) e both_at (Contains-append_right v.entries w.entries e n)
        | inr n ↦ n
      ]
    ] in
    let ks = let a = one_put keeps_one in let b = two_put keeps_one in
    let same : keeps_one (gained v w) ≡ keeps_one v = refl in
    let x : total keeps_one (set vs other spent) ≡ total keeps_one s.views = omega arith in x in
    let ns = let a = one_put next_of in let b = two_put next_of in
    let same : next_of (gained v w) ≡ next_of v = refl in
    let x : total next_of (set vs other spent) ≡ total next_of s.views = omega arith in x in
    record {
      word = r.word;
      word_is = r.word_is;
      keepers = ks ∙ r.keepers;
      most = let a = r.most in omega arith;
      apart = λ n. let a = r.apart n in let b = whole (has_number n) in omega arith;
      below = λ n le. whole (has_number n) ∙ r.below n (omega arith);
      fits = fits_kept r.word (IsEntry s.views) (IsEntry (set vs other spent)) back (λ e won. on e) r.fits;
    }

-- the seat's view becomes that of another phase, and the word w
one_moves : (s : S) (id i w : ℕ) (p q : Phase) (r : IsRuled s) → get_elem? s.views id ≡ some (lane_view i p) → WordFits w (IsEntry (set s.views id (lane_view i q))) → IsRuled (stepped s 0 w id [] (lane_view i q) keeps)
one_moves s id i w p q r at fits =
    let put : (f : View → ℕ) → total f (set s.views id (lane_view i q)) + f (lane_view i p) ≡ total f s.views + f (lane_view i q) = λ f. total_set f s.views id (lane_view i p) (lane_view i q) at in
    let numbers_same : (n : ℕ) → entries (has_number n) (set s.views id (lane_view i q)) ≡ entries (has_number n) s.views =
    λ n. let a = put (counted (has_number n)) in let e : counted (has_number n) (lane_view i p) ≡ counted (has_number n) (lane_view i q) = refl in omega arith in
    let nexts = put next_of in
    record {
      word = w;
      word_is = ap (λ (ws : List ℕ). slice_set ws 0 w) r.word_is;
      keepers = let a = put keeps_one in let b = r.keepers in omega arith;
      most = let a = r.most in omega arith;
      apart = λ n. let a = r.apart n in let b = numbers_same n in omega arith;
      below = λ n le. numbers_same n ∙ r.below n (omega arith);
      fits = fits;
    }

word_here : (s : S) (r : IsRuled s) → slice_index s.words 0 ≡ r.word
word_here s r = ap (λ (ws : List ℕ). slice_index ws 0) r.word_is

moved_here : (f : ℕ → LaneState) (n i : ℕ) (p : Phase) → moves f n (lane_view i p) ≡ lane_view i (phase_of (f n))
moved_here f n i p = refl

-- a lane that was Looking comes so far at the same word
stays_fits : (s : S) (id i w : ℕ) (q : Phase) → WordFits w (IsEntry s.views) → get_elem? s.views id ≡ some (lane_view i phase.Looking) → PhaseFits w i q → WordFits w (IsEntry (set s.views id (lane_view i q)))
stays_fits s id i w q fits at f =
    fits_kept w (IsEntry s.views) (IsEntry (set s.views id (lane_view i q)))
    (λ e h. elim (entry_from s.views id (lane_view i q) e h) [ inl n ↦ inr (phase_fits w i q e f (single (entry i q) e n)) | inr m ↦ inl m ])
    (λ e won h. elim (entry_kept s.views id (lane_view i phase.Looking) (lane_view i q) e at h) [
      | inl n ↦ let d = ap (λ (x : Entry). x.phase) (single (entry i phase.Looking) e n) in absurd (cc)
      | inr m ↦ m
    ])
    fits

-- what a look makes of the rule
look_fits : (s : S) (id i n : ℕ) (r : IsRuled s) → n ≡ r.word → get_elem? s.views id ≡ some (lane_view i phase.Looking) → WordFits n (IsEntry (set s.views id (lane_view i (phase_of (looked n)))))
look_fits s id i n r is at = stays_fits s id i n (phase_of (looked n)) (subst (λ (m : ℕ). WordFits m (IsEntry s.views)) (sym is) r.fits) at (told n)
  where
    told : (n : ℕ) → PhaseFits n i (phase_of (looked n))
    told zero = tt
    told (suc j) = rw (not_zero j) (omega arith)

pub look_allowed : (slots id i : ℕ) → Allows IsRuled slots id (lane_view i phase.Looking, []) 0 (λ n. n) (looks (step slots 0 0 0 none) (lane_view i phase.Looking, []))
look_allowed slots id i s r homes at lt =
    let n = slice_index s.words 0 in
    let is = word_here s r in
    let w = lane_view i (phase_of (looked n)) in
    let fits = look_fits s id i n r is at in
    (w, keeps, tt, one_moves s id i n phase.Looking (phase_of (looked n)) r at fits, (fits.small, refl))

-- an entry's number is below 64
number_small : (s : S) (id i : ℕ) (p : Phase) (r : IsRuled s) → get_elem? s.views id ≡ some (lane_view i p) → i < 64
number_small s id i p r at =
    let a = counts (has_number i) s.views (entry i p) (entry_at s.views id (lane_view i p) (entry i p) at (0, omega arith, refl)) in
    let b : has_number i (entry i p) ≡ 1 = rw (eq-eqb i i refl) refl in
    let m = r.most in
    elim (lt_or i (total next_of s.views)) [ inl h ↦ omega arith | inr h ↦ let z = r.below i h in absurd (omega arith) ]
  where
    lt_or : (x y : ℕ) → (x < y) ⊎ (y ≤ x)
    lt_or x y = grind arith

-- where the word is 0 what fits it fits any
any_word : (w n : ℕ) (p : Phase) → PhaseFits 0 n p → PhaseFits w n p
any_word w n phase.Looking f = tt
any_word w n phase.Won f = absurd (omega arith)
any_word w n (phase.Lost j) f = absurd (omega arith)
any_word w n (phase.Cancelled j) f = absurd (omega arith)

won_fits : (s : S) (id i : ℕ) (r : IsRuled s) → r.word ≡ 0 → get_elem? s.views id ≡ some (lane_view i phase.Looking) → WordFits (i + 1) (IsEntry (set s.views id (lane_view i phase.Won)))
won_fits s id i r is at =
    let small = number_small s id i phase.Looking r at in
    let won : Entry = entry i phase.Won in
    record {
      small = omega arith;
      each = λ e h. elim (entry_from s.views id (lane_view i phase.Won) e h) [
        | inl n ↦ phase_fits (i + 1) i phase.Won e refl (single won e n)
        | inr m ↦ any_word (i + 1) e.number e.phase (subst (λ (w : ℕ). PhaseFits w e.number e.phase) is (r.fits.each e m))
      ];
      winner = inr (
        i,
        refl,
        entry_at (set s.views id (lane_view i phase.Won)) id (lane_view i phase.Won) won
            (set_here s.views id (lane_view i phase.Looking) (lane_view i phase.Won) at) (0, omega arith, refl),
      );
    }

publish_from : (s : S) (slots id i n : ℕ) (r : IsRuled s) → n ≡ r.word → get_elem? s.views id ≡ some (lane_view i phase.Looking)
    → (w : View) × (a : Act (Unit {0})) × Rattle.atomic_table.specs.Table.Valid s.homes [] a × IsRuled (stepped s 0 (either (eqb n 0) (i + 1) n) id [] w a) × publishes (step slots 0 0 (i + 1) none) (lane_view i phase.Looking, []) n (w, Rattle.atomic_table.specs.Table.carried_after [] a)
publish_from s slots id i zero r is at =
    (lane_view i phase.Won, keeps, tt, one_moves s id i (i + 1) phase.Looking phase.Won r at (won_fits s id i r (sym is) at), (omega arith, refl))
publish_from s slots id i (suc j) r is at =
    let small = r.fits.small in
    rw (not_zero j) (lane_view i (phase.Lost (suc j - 1)), keeps, tt, one_moves s id i (suc j) phase.Looking (phase.Lost (suc j - 1)) r at (stays_fits s id i (suc j) (phase.Lost (suc j - 1)) (subst (λ (m : ℕ). WordFits m (IsEntry s.views)) (sym is) r.fits) at (omega arith)), (omega arith, refl))

pub publish_allowed : (slots id i : ℕ) → Allows IsRuled slots id (lane_view i phase.Looking, []) 0 (λ n. either (n == 0) (i + 1) n) (publishes (step slots 0 0 (i + 1) none) (lane_view i phase.Looking, []))
publish_allowed slots id i s r homes at lt = publish_from s slots id i (slice_index s.words 0) r (word_here s r) at
