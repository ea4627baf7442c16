-- Events of which each lane's own are whole turns leave the state that those turns leave one after another.
use Rattle.std.proofs.Common.{◌≡◌, ◌≢◌, ℕ, zero, suc, ◌==◌, ◌⊎◌, inl, inr, true, false, List, [], ◌∷◌, ◌++◌, refl, sym, ap, ◌∙◌, subst, eq-eqb, ne_eqb}
use Rattle.std.specs.Prelude.{if◌then◌else◌}
use mathlib.Core.Logic.{dite}
use native.Mathlib.Decide.{ℕ_discrete}
use Rattle.race.proofs.Lists.{changed_else}
use Rattle.race.specs.Lanes.{step_of, advanced, looks, publishes}
use Rattle.race.specs.Machine.{changed, RaceState, state_at, happens, word_at, run, turn_of, Event, Advances, Looks, Publishes}
use Rattle.race.specs.WholeTurns.{Turn, turn, lane_of, own, Finishes, EachIsWhole, begun, without, placed, turns_from, turns_in_order, one_by_one}
use Rattle.race.specs.declared.engines.Progress.{Progress}
use Rattle.race.specs.declared.engines.Progress.TheVariants as said
use Rattle.race.specs.declared.lanes.Step.{Step}
use Rattle.race.specs.declared.lanes.Step.TheVariants.{Load, Exchange, Ended}
use Rattle.race.specs.declared.lanes.Lane.{Lane}

same_or : (i j : ℕ) → ((i ≡ j) × ((i == j) ≡ true)) ⊎ ((i ≢ j) × ((i == j) ≡ false))
same_or i j = dite (ℕ_discrete i j) (λ e. inl (e, eq-eqb i j e)) (λ n. inr (n, ne_eqb i j n))

changed_swap : {X : Type 0} (xs : List X) (i j : ℕ) (f g : X → X) → i ≢ j → changed (changed xs i f) j g ≡ changed (changed xs j g) i f
changed_swap [] i j f g n = refl
changed_swap (x ∷ xs) zero zero f g n = absurd (n refl)
changed_swap (x ∷ xs) zero (suc j) f g n = refl
changed_swap (x ∷ xs) (suc i) zero f g n = refl
changed_swap {X} (x ∷ xs) (suc i) (suc j) f g n = ap (λ (zs : List X). x ∷ zs) (changed_swap xs i j f g (λ e. n (ap suc e)))

module _ {A : Type 0} where
  abbrev advance : Turn A → Event A
  advance q = Advances q.lane q.answer q.racer

  -- an advance of one lane and an event of another
  swap : (s : RaceState A) (e : Event A) (q : Turn A) → lane_of e ≢ q.lane → happens (happens s (advance q)) e ≡ happens (happens s e) (advance q)
  swap s (Advances i p r) q n = ap (λ (ls : List (Lane A)). state_at s.word ls) (changed_swap s.lanes q.lane i (λ l. advanced l q.answer q.racer) (λ l. advanced l p r) (λ e. n (sym e)))
  swap s (Looks i) q n = ap (λ (ls : List (Lane A)). state_at s.word ls) (changed_swap s.lanes q.lane i (λ l. advanced l q.answer q.racer) (λ l. looks l s.word) (λ e. n (sym e)))
  swap s (Publishes i) q n =
      let w = changed_else s.lanes q.lane i (λ l. advanced l q.answer q.racer) n in
      let c = changed_swap s.lanes q.lane i (λ l. advanced l q.answer q.racer) (λ l. publishes l s.word) (λ e. n (sym e)) in
      λ k. state_at (word_at (w k) i s.word) (c k)

  -- the state with the advances of turns that are begun, the last one first
  abbrev mid : List (Turn A) → RaceState A → RaceState A
  mid [] t = t
  mid (q ∷ qs) t = happens (mid qs t) (advance q)

  -- the step that is due of lane i
  abbrev due : ℕ → List (Turn A) → Step
  due i [] = Ended
  due i (q ∷ qs) = if q.lane == i then step_of q.answer else due i qs

  abbrev Apart : List (Turn A) → Type 0
  Apart [] = Unit {0}
  Apart (q ∷ qs) = (begun q.lane qs ≡ []) × (step_of q.answer ≢ Ended) × Apart qs

  abbrev AllFinish : List (Turn A) → List (Event A) → Type 0
  AllFinish qs es = (i : ℕ) → Finishes (due i qs) (own i es)

  -- an event of a lane that has begun no turn
  passes : (qs : List (Turn A)) (t : RaceState A) (e : Event A) → begun (lane_of e) qs ≡ [] → happens (mid qs t) e ≡ mid qs (happens t e)
  passes [] t e none = refl
  passes (q ∷ qs) t e none = elim (same_or q.lane (lane_of e)) [
    | inl h ↦ absurd (let bad : q ∷ [] ≡ [] = rw h.1 at none in cc)
    | inr h ↦
        let rest : begun (lane_of e) qs ≡ [] = rw h.1 at none in
        swap (mid qs t) e q (λ k. h.0 (sym k)) ∙ ap (λ (u : RaceState A). happens u (advance q)) (passes qs t e rest)
  ]

  -- the second event of a turn that is begun
  ends : (qs : List (Turn A)) (t : RaceState A) (e : Event A) (q : Turn A) → Apart qs → begun (lane_of e) qs ≡ q ∷ [] → happens (mid qs t) e ≡ mid (without (lane_of e) qs) (happens (happens t (advance q)) e)
  ends [] t e q apart is = absurd (cc)
  ends (p ∷ qs) t e q apart is = elim (same_or p.lane (lane_of e)) [
    | inl h ↦
        let same : p ∷ [] ≡ q ∷ [] = rw h.1 at is in
        let pq : p ≡ q = cc in
        let none : begun (lane_of e) qs ≡ [] = subst (λ (i : ℕ). begun i qs ≡ []) h.0 apart.0 in
        let none' : begun (lane_of (advance p)) qs ≡ [] = apart.0 in
        rw h.1 (ap (λ (u : RaceState A). happens u e) (passes qs t (advance p) none') ∙ passes qs (happens t (advance p)) e none ∙ ap (λ (x : Turn A). mid qs (happens (happens t (advance x)) e)) pq)
    | inr h ↦
        let is' : begun (lane_of e) qs ≡ q ∷ [] = rw h.1 at is in
        rw h.1 (swap (mid qs t) e p (λ k. h.0 (sym k)) ∙ ap (λ (u : RaceState A). happens u (advance p)) (ends qs t e q apart.2 is'))
  ]

  none_due : (qs : List (Turn A)) (i : ℕ) → Apart qs → due i qs ≡ Ended → begun i qs ≡ []
  none_due [] i apart d = refl
  none_due (q ∷ qs) i apart d = elim (same_or q.lane i) [
    | inl h ↦ absurd (apart.1 (rw h.1 at d))
    | inr h ↦ let d' : due i qs ≡ Ended = rw h.1 at d in rw h.1 (none_due qs i apart.2 d')
  ]

  -- the turn of which a step is due
  one_due : (qs : List (Turn A)) (i : ℕ) (t : Step) → t ≢ Ended → due i qs ≡ t → (q : Turn A) × (begun i qs ≡ q ∷ []) × (q.lane ≡ i) × (step_of q.answer ≡ t)
  one_due [] i t ne d = absurd (ne (sym d))
  one_due (q ∷ qs) i t ne d = elim (same_or q.lane i) [
    | inl h ↦ let d' : step_of q.answer ≡ t = rw h.1 at d in (q, rw h.1 refl, h.0, d')
    | inr h ↦ let d' : due i qs ≡ t = rw h.1 at d in let o = one_due qs i t ne d' in (o.0, rw h.1 o.1, o.2, o.3)
  ]

  begun_without : (qs : List (Turn A)) (i j : ℕ) → begun j qs ≡ [] → begun j (without i qs) ≡ []
  begun_without [] i j none = refl
  begun_without (q ∷ qs) i j none = elim (same_or q.lane j) [
    | inl h ↦ absurd (let bad : q ∷ [] ≡ [] = rw h.1 at none in cc)
    | inr h ↦
        let rest : begun j qs ≡ [] = rw h.1 at none in
        elim (same_or q.lane i) [ inl k ↦ rw k.1 rest | inr k ↦ rw (k.1, h.1) (begun_without qs i j rest) ]
  ]

  apart_without : (qs : List (Turn A)) (i : ℕ) → Apart qs → Apart (without i qs)
  apart_without [] i apart = tt
  apart_without (q ∷ qs) i apart = elim (same_or q.lane i) [
    | inl h ↦ rw h.1 apart.2
    | inr h ↦ rw h.1 (begun_without qs i q.lane apart.0, apart.1, apart_without qs i apart.2)
  ]

  due_none : (qs : List (Turn A)) (i : ℕ) → begun i qs ≡ [] → due i qs ≡ Ended
  due_none [] i none = refl
  due_none (q ∷ qs) i none = elim (same_or q.lane i) [
    | inl h ↦ absurd (let bad : q ∷ [] ≡ [] = rw h.1 at none in cc)
    | inr h ↦ let rest : begun i qs ≡ [] = rw h.1 at none in rw h.1 (due_none qs i rest)
  ]

  due_without : (qs : List (Turn A)) (i : ℕ) → Apart qs → due i (without i qs) ≡ Ended
  due_without [] i apart = refl
  due_without (q ∷ qs) i apart = elim (same_or q.lane i) [
    | inl h ↦ rw h.1 (due_none qs i (subst (λ (k : ℕ). begun k qs ≡ []) h.0 apart.0))
    | inr h ↦ rw (h.1, h.1) (due_without qs i apart.2)
  ]

  due_else : (qs : List (Turn A)) (i j : ℕ) → j ≢ i → due j (without i qs) ≡ due j qs
  due_else [] i j n = refl
  due_else (q ∷ qs) i j n = elim (same_or q.lane i) [
    | inl h ↦ elim (same_or q.lane j) [ inl k ↦ absurd (n (sym k.0 ∙ h.0)) | inr k ↦ rw (h.1, k.1) refl ]
    | inr h ↦ rw h.1 (elim (same_or q.lane j) [ inl k ↦ rw k.1 refl | inr k ↦ rw k.1 (due_else qs i j n) ])
  ]

  own_here : (e : Event A) (es : List (Event A)) → own (lane_of e) (e ∷ es) ≡ e ∷ own (lane_of e) es
  own_here e es = rw (eq-eqb (lane_of e) (lane_of e) refl) refl

  own_else : (e : Event A) (es : List (Event A)) (j : ℕ) → lane_of e ≢ j → own j (e ∷ es) ≡ own j es
  own_else e es j n = rw (ne_eqb (lane_of e) j n) refl

  run_append : (es fs : List (Event A)) (s : RaceState A) → run (es ++ fs) s ≡ run fs (run es s)
  run_append [] fs s = refl
  run_append (e ∷ es) fs s = run_append es fs (happens s e)

  -- nothing is begun where no step is due and all is finished
  nothing_begun : (qs : List (Turn A)) → Apart qs → ((i : ℕ) → Finishes {A = A} (due i qs) []) → qs ≡ []
  nothing_begun [] apart all = refl
  nothing_begun (q ∷ qs) apart all =
      let d : due q.lane (q ∷ qs) ≡ step_of q.answer = rw (eq-eqb q.lane q.lane refl) refl in
      absurd (not_over (step_of q.answer) apart.1 (subst (λ (t : Step). Finishes {A = A} t []) d (all q.lane)))
    where
      not_over : (t : Step) → t ≢ Ended → Finishes {A = A} t [] → ⊥
      not_over Load n f = f
      not_over Exchange n f = f
      not_over Ended n f = n refl

  advance_due : (t : Step) (i : ℕ) (p : Progress) (r : A) (es : List (Event A)) → Finishes t (Advances i p r ∷ es) → (t ≡ Ended) × Finishes (step_of p) es
  advance_due Ended i p r es f = (refl, f)
  advance_due Load i p r es f = absurd f
  advance_due Exchange i p r es f = absurd f

  look_due : (t : Step) (i : ℕ) (es : List (Event A)) → Finishes t (Looks i ∷ es) → (t ≡ Load) × Finishes Ended es
  look_due Ended i es f = absurd f
  look_due Load i es f = (refl, f)
  look_due Exchange i es f = absurd f

  publish_due : (t : Step) (i : ℕ) (es : List (Event A)) → Finishes t (Publishes i ∷ es) → (t ≡ Exchange) × Finishes Ended es
  publish_due Ended i es f = absurd f
  publish_due Load i es f = absurd f
  publish_due Exchange i es f = (refl, f)

  load_turn : (i : ℕ) (p : Progress) (r : A) → step_of p ≡ Load → turn_of i p r ≡ Advances i p r ∷ Looks i ∷ []
  load_turn i said.More r e = refl
  load_turn i said.Decided r e = absurd (cc)
  load_turn i said.Spent r e = absurd (cc)
  load_turn i said.NoMemory r e = absurd (cc)

  exchange_turn : (i : ℕ) (p : Progress) (r : A) → step_of p ≡ Exchange → turn_of i p r ≡ Advances i p r ∷ Publishes i ∷ []
  exchange_turn i said.More r e = absurd (cc)
  exchange_turn i said.Decided r e = refl
  exchange_turn i said.Spent r e = absurd (cc)
  exchange_turn i said.NoMemory r e = absurd (cc)

  over_turn : (i : ℕ) (p : Progress) (r : A) → step_of p ≡ Ended → turn_of i p r ≡ Advances i p r ∷ []
  over_turn i said.More r e = absurd (cc)
  over_turn i said.Decided r e = absurd (cc)
  over_turn i said.Spent r e = refl
  over_turn i said.NoMemory r e = refl

  -- what is left to finish after an event of lane i
  rest_else : (t : Step) (e : Event A) (es : List (Event A)) (j : ℕ) → lane_of e ≢ j → Finishes t (own j (e ∷ es)) → Finishes t (own j es)
  rest_else t e es j n f = subst (λ (xs : List (Event A)). Finishes t xs) (own_else e es j n) f

  first : (t : Step) (e : Event A) (es : List (Event A)) → Finishes t (own (lane_of e) (e ∷ es)) → Finishes t (e ∷ own (lane_of e) es)
  first t e es f = subst (λ (xs : List (Event A)). Finishes t xs) (own_here e es) f

  -- after the second event of the turn of lane i
  second : (e : Event A) (es : List (Event A)) (qs : List (Turn A)) (t : RaceState A) (s : Step) → Apart qs → AllFinish qs (e ∷ es) → s ≢ Ended → due (lane_of e) qs ≡ s → Finishes Ended (own (lane_of e) es)
      → ((p : Progress) (r : A) → step_of p ≡ s → turn_of (lane_of e) p r ≡ Advances (lane_of e) p r ∷ e ∷ [])
      → ((u : RaceState A) → run es (mid (without (lane_of e) qs) u) ≡ run (one_by_one (turns_from es (without (lane_of e) qs))) u)
      → run (e ∷ es) (mid qs t) ≡ run (one_by_one (begun (lane_of e) qs ++ turns_from es (without (lane_of e) qs))) t
  second e es qs t s apart all ne d f turns more =
      let o = one_due qs (lane_of e) s ne d in
      let q : Turn A = o.0 in
      let i : ℕ = lane_of e in
      let rest : List (Turn A) = turns_from es (without i qs) in
      let u : RaceState A = happens (happens t (advance q)) e in
      let events : turn_of q.lane q.answer q.racer ≡ advance q ∷ e ∷ [] =
      subst (λ (k : ℕ). turn_of k q.answer q.racer ≡ Advances k q.answer q.racer ∷ e ∷ []) (sym o.2) (turns q.answer q.racer o.3) in
      let right : run (one_by_one (begun i qs ++ rest)) t ≡ run (one_by_one rest) u =
      rw (o.1, run_append (turn_of q.lane q.answer q.racer) (one_by_one rest) t, events) refl in
      ap (λ (x : RaceState A). run es x) (ends qs t e q apart o.1) ∙ more u ∙ sym right

  -- after an advance: the turn is over, or is begun
  after_advance : (d : Step) (i : ℕ) (p : Progress) (r : A) (es : List (Event A)) (qs : List (Turn A)) (t : RaceState A) → step_of p ≡ d → Apart qs → begun i qs ≡ []
      → (step_of p ≡ Ended → (u : RaceState A) → run es (mid qs u) ≡ run (one_by_one (turns_from es qs)) u)
      → (step_of p ≢ Ended → run es (mid (turn i p r ∷ qs) t) ≡ run (one_by_one (turns_from es (turn i p r ∷ qs))) t)
      → run es (happens (mid qs t) (Advances i p r)) ≡ run (one_by_one (placed d (turn i p r) qs (turns_from es))) t
  after_advance Ended i p r es qs t is apart none over begins =
      let right : run (one_by_one (turn i p r ∷ turns_from es qs)) t ≡ run (one_by_one (turns_from es qs)) (happens t (Advances i p r)) =
      rw (over_turn i p r is) refl in
      ap (λ (x : RaceState A). run es x) (passes qs t (Advances i p r) none) ∙ over is (happens t (Advances i p r)) ∙ sym right
  after_advance Load i p r es qs t is apart none over begins = begins (λ e. absurd (cc))
  after_advance Exchange i p r es qs t is apart none over begins = begins (λ e. absurd (cc))

  due_push : (q : Turn A) (qs : List (Turn A)) (e : Event A) (es : List (Event A)) → lane_of e ≡ q.lane → Finishes (step_of q.answer) (own q.lane es) → AllFinish qs (e ∷ es) → AllFinish (q ∷ qs) es
  due_push q qs e es here f all j = elim (same_or q.lane j) [
    | inl h ↦ rw h.1 (subst (λ (k : ℕ). Finishes (step_of q.answer) (own k es)) h.0 f)
    | inr h ↦ rw h.1 (rest_else (due j qs) e es j (λ k. h.0 (sym here ∙ k)) (all j))
  ]

  over_all : (qs : List (Turn A)) (e : Event A) (es : List (Event A)) → due (lane_of e) qs ≡ Ended → Finishes Ended (own (lane_of e) es) → AllFinish qs (e ∷ es) → AllFinish qs es
  over_all qs e es d f all j = elim (same_or (lane_of e) j) [
    | inl h ↦ subst (λ (k : ℕ). Finishes (due k qs) (own k es)) h.0 (subst (λ (t : Step). Finishes t (own (lane_of e) es)) (sym d) f)
    | inr h ↦ rest_else (due j qs) e es j h.0 (all j)
  ]

  ended_all : (qs : List (Turn A)) (e : Event A) (es : List (Event A)) → Apart qs → Finishes Ended (own (lane_of e) es) → AllFinish qs (e ∷ es) → AllFinish (without (lane_of e) qs) es
  ended_all qs e es apart f all j = elim (same_or (lane_of e) j) [
    | inl h ↦ subst (λ (k : ℕ). Finishes (due k (without (lane_of e) qs)) (own k es)) h.0 (subst (λ (t : Step). Finishes t (own (lane_of e) es)) (sym (due_without qs (lane_of e) apart)) f)
    | inr h ↦ subst (λ (t : Step). Finishes t (own j es)) (sym (due_else qs (lane_of e) j (λ k. h.0 (sym k)))) (rest_else (due j qs) e es j h.0 (all j))
  ]

  same_turns : (es : List (Event A)) (qs : List (Turn A)) (t : RaceState A) → Apart qs → AllFinish qs es → run es (mid qs t) ≡ run (one_by_one (turns_from es qs)) t
  same_turns [] qs t apart all = ap (λ (ps : List (Turn A)). mid ps t) (nothing_begun qs apart all)
  same_turns (Advances i p r ∷ es) qs t apart all =
      let e : Event A = Advances i p r in
      let a = advance_due (due i qs) i p r (own i es) (first (due i qs) e es (all i)) in
      let none : begun i qs ≡ [] = none_due qs i apart a.0 in
      after_advance (step_of p) i p r es qs t refl apart none
      (λ over u. same_turns es qs u apart (over_all qs e es a.0 (subst (λ (t : Step). Finishes t (own i es)) over a.1) all))
      (λ going. same_turns es (turn i p r ∷ qs) t (none, going, apart) (due_push (turn i p r) qs e es refl a.1 all))
  same_turns (Looks i ∷ es) qs t apart all =
      let e : Event A = Looks i in
      let a = look_due (due i qs) i (own i es) (first (due i qs) e es (all i)) in
      second e es qs t Load apart all (λ k. absurd (cc)) a.0 a.1 (load_turn i) (λ u. same_turns es (without i qs) u (apart_without qs i apart) (ended_all qs e es apart a.1 all))
  same_turns (Publishes i ∷ es) qs t apart all =
      let e : Event A = Publishes i in
      let a = publish_due (due i qs) i (own i es) (first (due i qs) e es (all i)) in
      second e es qs t Exchange apart all (λ k. absurd (cc)) a.0 a.1 (exchange_turn i) (λ u. same_turns es (without i qs) u (apart_without qs i apart) (ended_all qs e es apart a.1 all))

  pub rearranged : (es : List (Event A)) (s : RaceState A) → EachIsWhole es → run es s ≡ run (one_by_one (turns_in_order es)) s
  rearranged es s whole = same_turns es [] s tt whole

  own_append : (i : ℕ) (es fs : List (Event A)) → own i (es ++ fs) ≡ own i es ++ own i fs
  own_append i [] fs = refl
  own_append i (e ∷ es) fs = elim (same_or (lane_of e) i) [
    | inl h ↦ rw h.1 (ap (λ (xs : List (Event A)). e ∷ xs) (own_append i es fs))
    | inr h ↦ rw h.1 (own_append i es fs)
  ]

  -- the advance of lane i that is begun
  abbrev firsts : ℕ → List (Turn A) → List (Event A)
  firsts i [] = []
  firsts i (q ∷ qs) = if q.lane == i then advance q ∷ [] else firsts i qs

  firsts_none : (qs : List (Turn A)) (i : ℕ) → begun i qs ≡ [] → firsts i qs ≡ []
  firsts_none [] i none = refl
  firsts_none (q ∷ qs) i none = elim (same_or q.lane i) [
    | inl h ↦ absurd (let bad : q ∷ [] ≡ [] = rw h.1 at none in cc)
    | inr h ↦ let rest : begun i qs ≡ [] = rw h.1 at none in rw h.1 (firsts_none qs i rest)
  ]

  firsts_one : (qs : List (Turn A)) (i : ℕ) (q : Turn A) → begun i qs ≡ q ∷ [] → firsts i qs ≡ advance q ∷ []
  firsts_one [] i q is = absurd (cc)
  firsts_one (p ∷ qs) i q is = elim (same_or p.lane i) [
    | inl h ↦ let same : p ∷ [] ≡ q ∷ [] = rw h.1 at is in let pq : p ≡ q = cc in rw h.1 (ap (λ (x : Turn A). advance x ∷ []) pq)
    | inr h ↦ let rest : begun i qs ≡ q ∷ [] = rw h.1 at is in rw h.1 (firsts_one qs i q rest)
  ]

  firsts_else : (qs : List (Turn A)) (i j : ℕ) → j ≢ i → firsts j (without i qs) ≡ firsts j qs
  firsts_else [] i j n = refl
  firsts_else (q ∷ qs) i j n = elim (same_or q.lane i) [
    | inl h ↦ elim (same_or q.lane j) [ inl k ↦ absurd (n (sym k.0 ∙ h.0)) | inr k ↦ rw (h.1, k.1) refl ]
    | inr h ↦ rw h.1 (elim (same_or q.lane j) [ inl k ↦ rw k.1 refl | inr k ↦ rw k.1 (firsts_else qs i j n) ])
  ]

  begun_gone : (qs : List (Turn A)) (i : ℕ) → Apart qs → begun i (without i qs) ≡ []
  begun_gone [] i apart = refl
  begun_gone (q ∷ qs) i apart = elim (same_or q.lane i) [
    | inl h ↦ rw h.1 (subst (λ (k : ℕ). begun k qs ≡ []) h.0 apart.0)
    | inr h ↦ rw (h.1, h.1) (begun_gone qs i apart.2)
  ]

  -- the events of lane j, of a turn of lane i and what follows it
  own_turn : (e : Event A) (q : Turn A) (j : ℕ) (rest : List (Event A)) → q.lane ≡ lane_of e → turn_of q.lane q.answer q.racer ≡ advance q ∷ e ∷ []
      → own j (turn_of q.lane q.answer q.racer ++ rest) ≡ (if lane_of e == j then advance q ∷ e ∷ own j rest else own j rest)
  own_turn e q j rest is events = rw events (elim (same_or (lane_of e) j) [
    | inl h ↦ let k : (q.lane == j) ≡ true = eq-eqb q.lane j (is ∙ h.0) in rw (k, h.1) refl
    | inr h ↦ let k : (q.lane == j) ≡ false = ne_eqb q.lane j (λ x. h.0 (sym is ∙ x)) in rw (k, h.1) refl
  ])

  -- after the second event of a turn
  own_second : (e : Event A) (es : List (Event A)) (qs : List (Turn A)) (s : Step) (j : ℕ) → Apart qs → s ≢ Ended → due (lane_of e) qs ≡ s
      → ((p : Progress) (r : A) → step_of p ≡ s → turn_of (lane_of e) p r ≡ Advances (lane_of e) p r ∷ e ∷ [])
      → own j (one_by_one (turns_from es (without (lane_of e) qs))) ≡ firsts j (without (lane_of e) qs) ++ own j es
      → own j (one_by_one (begun (lane_of e) qs ++ turns_from es (without (lane_of e) qs))) ≡ firsts j qs ++ own j (e ∷ es)
  own_second e es qs s j apart ne d turns ih =
      let i : ℕ = lane_of e in
      let o = one_due qs i s ne d in
      let q : Turn A = o.0 in
      let rest : List (Event A) = one_by_one (turns_from es (without i qs)) in
      let events : turn_of q.lane q.answer q.racer ≡ advance q ∷ e ∷ [] =
      subst (λ (k : ℕ). turn_of k q.answer q.racer ≡ Advances k q.answer q.racer ∷ e ∷ []) (sym o.2) (turns q.answer q.racer o.3) in
      let head = own_turn e q j rest o.2 events in
      rw o.1 (head ∙ elim (same_or i j) [
        | inl h ↦
            let none : firsts j (without i qs) ≡ [] = subst (λ (k : ℕ). firsts k (without i qs) ≡ []) h.0 (firsts_none (without i qs) i (begun_gone qs i apart)) in
            let mine : firsts j qs ≡ advance q ∷ [] = subst (λ (k : ℕ). firsts k qs ≡ advance q ∷ []) h.0 (firsts_one qs i q o.1) in
            let later : own j rest ≡ own j es = rw none at ih in
            rw (h.1, mine) (ap (λ (xs : List (Event A)). advance q ∷ e ∷ xs) later)
        | inr h ↦ rw h.1 (ih ∙ ap (λ (xs : List (Event A)). xs ++ own j es) (firsts_else qs i j (λ k. h.0 (sym k))))
      ])

  own_begins : (i : ℕ) (p : Progress) (r : A) (es : List (Event A)) (qs : List (Turn A)) (j : ℕ) → begun i qs ≡ [] → own j (one_by_one (turns_from es (turn i p r ∷ qs))) ≡ firsts j (turn i p r ∷ qs) ++ own j es
      → own j (one_by_one (turns_from es (turn i p r ∷ qs))) ≡ firsts j qs ++ own j (Advances i p r ∷ es)
  own_begins i p r es qs j none ih = ih ∙ elim (same_or i j) [
    | inl h ↦ let mine : firsts j qs ≡ [] = subst (λ (k : ℕ). firsts k qs ≡ []) h.0 (firsts_none qs i none) in rw (h.1, mine) refl
    | inr h ↦ rw h.1 refl
  ]

  -- after an advance: the turn is over, or is begun
  own_advance : (d : Step) (i : ℕ) (p : Progress) (r : A) (es : List (Event A)) (qs : List (Turn A)) (j : ℕ) → step_of p ≡ d → begun i qs ≡ []
      → (step_of p ≡ Ended → own j (one_by_one (turns_from es qs)) ≡ firsts j qs ++ own j es)
      → (step_of p ≢ Ended → own j (one_by_one (turns_from es (turn i p r ∷ qs))) ≡ firsts j (turn i p r ∷ qs) ++ own j es)
      → own j (one_by_one (placed d (turn i p r) qs (turns_from es))) ≡ firsts j qs ++ own j (Advances i p r ∷ es)
  own_advance Ended i p r es qs j is none over begins =
      let ih = over is in
      rw (over_turn i p r is) (elim (same_or i j) [
        | inl h ↦
            let mine : firsts j qs ≡ [] = subst (λ (k : ℕ). firsts k qs ≡ []) h.0 (firsts_none qs i none) in
            let later : own j (one_by_one (turns_from es qs)) ≡ own j es = rw mine at ih in
            rw (h.1, mine) (ap (λ (xs : List (Event A)). Advances i p r ∷ xs) later)
        | inr h ↦ rw h.1 ih
      ])
  own_advance Load i p r es qs j is none over begins = own_begins i p r es qs j none (begins (λ e. absurd (cc)))
  own_advance Exchange i p r es qs j is none over begins = own_begins i p r es qs j none (begins (λ e. absurd (cc)))

  same_own : (es : List (Event A)) (qs : List (Turn A)) (j : ℕ) → Apart qs → AllFinish qs es → own j (one_by_one (turns_from es qs)) ≡ firsts j qs ++ own j es
  same_own [] qs j apart all = rw (nothing_begun qs apart all) refl
  same_own (Advances i p r ∷ es) qs j apart all =
      let e : Event A = Advances i p r in
      let a = advance_due (due i qs) i p r (own i es) (first (due i qs) e es (all i)) in
      let none : begun i qs ≡ [] = none_due qs i apart a.0 in
      own_advance (step_of p) i p r es qs j refl none
      (λ over. same_own es qs j apart (over_all qs e es a.0 (subst (λ (t : Step). Finishes t (own i es)) over a.1) all))
      (λ going. same_own es (turn i p r ∷ qs) j (none, going, apart) (due_push (turn i p r) qs e es refl a.1 all))
  same_own (Looks i ∷ es) qs j apart all =
      let e : Event A = Looks i in
      let a = look_due (due i qs) i (own i es) (first (due i qs) e es (all i)) in
      own_second e es qs Load j apart (λ k. absurd (cc)) a.0 (load_turn i) (same_own es (without i qs) j (apart_without qs i apart) (ended_all qs e es apart a.1 all))
  same_own (Publishes i ∷ es) qs j apart all =
      let e : Event A = Publishes i in
      let a = publish_due (due i qs) i (own i es) (first (due i qs) e es (all i)) in
      own_second e es qs Exchange j apart (λ k. absurd (cc)) a.0 (exchange_turn i) (same_own es (without i qs) j (apart_without qs i apart) (ended_all qs e es apart a.1 all))

  pub own_kept : (es : List (Event A)) (j : ℕ) → EachIsWhole es → own j (one_by_one (turns_in_order es)) ≡ own j es
  own_kept es j whole = same_own es [] j tt whole
