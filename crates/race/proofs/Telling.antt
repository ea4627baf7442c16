-- What the outcome of a sound end tells.
use Rattle.race.specs.declared.engines.Racer.{Ghosts}
use Rattle.std.proofs.Common.{◌≡◌, ◌≢◌, ℕ, zero, suc, ◌+◌, ◌-◌, ◌⊎◌, inl, inr, List, [], ◌∷◌, Some, refl, sym, subst, arith, add-zero}
use Rattle.std.specs.Prelude.{slice_get}
use Rattle.race.proofs.Keeps.{not_zero}
use Rattle.race.specs.Machine.{state_at, IsSound, StateFits, IsEnd, EndsAs, outcome_of, first_starved, starved_from, IsSpent, Tells}
use Rattle.race.specs.declared.engines.Progress.TheVariants as said
use Rattle.race.specs.declared.playing.Outcome.{Outcome}
use Rattle.race.specs.declared.playing.Outcome.TheVariants as outcome
use Rattle.race.specs.declared.lanes.LaneState.{LaneState}
use Rattle.race.specs.declared.lanes.LaneState.TheVariants.{Running, Won, Lost, Cancelled, Spent, Starved}
use Rattle.race.specs.declared.lanes.Lane.{Lane}

module _ {A : Type 0} (kind : Ghosts A) where
  abbrev Fits : ℕ → ℕ → LaneState → A → Type 0
  Fits n i c r = StateFits kind n i c r

  abbrev AsSpent : LaneState → A → Type 0
  AsSpent c r = (c ≡ Spent) × IsSpent kind r

  abbrev AsStarved : LaneState → A → Type 0
  AsStarved c r = (c ≡ Starved) × (kind.said r ≡ said.NoMemory)

  -- at word 0 a lane that has ended is spent or starved
  one_of : (i : ℕ) (c : LaneState) (r : A) → Fits 0 i c r → c ≢ Running → AsSpent c r ⊎ AsStarved c r
  one_of i Running r f n = absurd (n refl)
  one_of i Won r f n = absurd (let e = f.0 in omega arith)
  one_of i (Lost j) r f n = absurd (let e = f.0 in omega arith)
  one_of i (Cancelled j) r f n = absurd (let e = f in omega arith)
  one_of i Spent r f n = inl (refl, f)
  one_of i Starved r f n = inr (refl, f)

  -- the least starved lane from the k-th on, or none
  -- what is found from the k-th lane on
  abbrev Finds : ℕ → List (Lane A) → Outcome → Type 0
  Finds k ls (outcome.Won i) = ⊥
  Finds k ls outcome.AllSpent = (i : ℕ) (l : Lane A) → slice_get ls i ≡ Some l → AsSpent l.state l.racer
  Finds k ls (outcome.Starved i) = (j : ℕ) × (l : Lane A) × (i ≡ k + j) × (slice_get ls j ≡ Some l) × AsStarved l.state l.racer

  finds : (k : ℕ) (ls : List (Lane A)) → ((i : ℕ) (l : Lane A) → slice_get ls i ≡ Some l → AsSpent l.state l.racer ⊎ AsStarved l.state l.racer) → Finds k ls (first_starved k ls)
  finds k [] each = λ i l at. absurd (cc)
  finds k (l ∷ ls) each = by (each 0 l refl) (finds (k + 1) ls (λ i m at. each (suc i) m at))
    where
      later : (o : Outcome) → AsSpent l.state l.racer → Finds (k + 1) ls o → Finds k (l ∷ ls) o
      later (outcome.Won i) s f = f
      later outcome.AllSpent s f = spent_all
        where
          spent_all : (i : ℕ) (m : Lane A) → slice_get (l ∷ ls) i ≡ Some m → AsSpent m.state m.racer
          spent_all zero m at = let h : l ≡ m = cc in subst (λ (x : Lane A). AsSpent x.state x.racer) h s
          spent_all (suc i) m at = f i m at
      later (outcome.Starved i) s f = let e = f.2 in (suc f.0, f.1, omega arith, f.3, f.4)

      by : AsSpent l.state l.racer ⊎ AsStarved l.state l.racer → Finds (k + 1) ls (first_starved (k + 1) ls) → Finds k (l ∷ ls) (starved_from k l.state (first_starved (k + 1) ls))
      by h rest =
          let P : LaneState → Type 0 = λ c. Finds k (l ∷ ls) (starved_from k c (first_starved (k + 1) ls)) in
          elim h [ inl s ↦ subst P (sym s.0) (later (first_starved (k + 1) ls) s rest) | inr s ↦ subst P (sym s.0) (0, l, sym (add-zero k), refl, s) ]

  told_at : (o : Outcome) (ls : List (Lane A)) → Finds 0 ls o → Tells kind o ls
  told_at (outcome.Won i) ls f = absurd f
  told_at outcome.AllSpent ls f = f
  told_at (outcome.Starved i) ls f = let e = f.2 in let s : f.0 ≡ i = omega arith in (f.1, subst (λ (k : ℕ). slice_get ls k ≡ Some f.1) s f.3, f.4.0, f.4.1)

  tells_from : (w : ℕ) (ls : List (Lane A)) → IsSound kind (state_at w ls) → IsEnd (state_at w ls) → Tells kind (outcome_of (state_at w ls)) ls
  tells_from zero ls good end = told_at (first_starved 0 ls) ls (finds 0 ls (λ i l at. one_of i l.state l.racer (good.each i l at).state (end i l at)))
  tells_from (suc j) ls good end =
      rw (not_zero j) (elim good.winner [
        | inl z ↦ absurd (omega arith)
        | inr w ↦
            let e = w.2 in
            let s : w.0 ≡ suc j - 1 = omega arith in
            let f = (good.each w.0 w.1 w.3).state in
            (w.1, subst (λ (k : ℕ). slice_get ls k ≡ Some w.1) s w.3, w.4, (subst (λ (c : LaneState). Fits (suc j) w.0 c w.1.racer) w.4 f).1)
      ])

  pub tells : (old : List (Lane A)) (o : Outcome) (new : List (Lane A)) → EndsAs kind old o new → Tells kind o new
  tells old o new e = subst (λ (p : Outcome). Tells kind p new) (sym e.outcome_is) (tells_from e.word new e.sound e.ended)
