-- Where the keeper has the entries of all lanes, word and lanes are a sound end.
use Rattle.race.specs.declared.engines.Racer.{Ghosts}
use Rattle.std.proofs.Common.{◌≡◌, ◌≢◌, ℕ, zero, suc, ◌+◌, ◌<◌, ◌≤◌, ◌⊎◌, inl, inr, List, [], ◌∷◌, map, set, Some, Contains, length, refl, sym, ap, ◌∙◌, subst, arith, eq-eqb}
use Rattle.std.specs.Prelude.{Option, slice_get, slice_index_or}
use Rattle.std.specs.List.{AllZip}
use Rattle.std.proofs.lemmas.List.Elements.{length_all_zip}
use Rattle.atomic_table.specs.Table.{State, Seen}
use Rattle.race.proofs.Winners.{total_set, of_one, only, counts, entry_at, entry_kept}
use Rattle.race.specs.Machine.{state_at, IsSound, StateFits, Starts, tasks, EndsAs, outcome_of}
use Rattle.race.specs.Winner.{phase_of, entry, keeper, spent, total, has_number, next_of, IsEntry, PhaseFits, WordFits, IsRuled}
use Rattle.race.specs.SeatedLane.{IsHonest, StateIsHonest, LaneEnded, entry_of}
use Rattle.race.specs.declared.playing.Outcome.{Outcome}
use Rattle.race.specs.declared.winner.Phase.TheVariants as phase
use Rattle.race.specs.declared.winner.Entry.{Entry}
use Rattle.race.specs.declared.winner.View.{View}
use Rattle.race.specs.declared.lanes.Step.{Step}
use Rattle.race.specs.declared.lanes.LaneState.{LaneState}
use Rattle.race.specs.declared.lanes.LaneState.TheVariants.{Running, Won, Lost, Cancelled, Spent, Starved}
use Rattle.race.specs.declared.lanes.Lane.{Lane}

abbrev S : Type 0
S = State (Unit {0}) View

-- what the entries of all lanes tell of the word
told : (id n w : ℕ) (es : List Entry) (s : S) → Seen IsRuled id (keeper n es) s → s.words ≡ w ∷ [] → ((i : ℕ) → i < n → 1 ≤ total (has_number i) es) → WordFits w (Contains es)
told id n w es s seen is all =
    let r = seen.0 in
    let at = seen.1 in
    let v = keeper n es in
    let word : r.word ≡ w = let e = sym r.word_is ∙ is in cc in
    let f0 : WordFits w (IsEntry s.views) = subst (λ (m : ℕ). WordFits m (IsEntry s.views)) word r.fits in
    let next = only s.views id v at refl r.keepers in
    let mine : (i : ℕ) → IsEntry s.views (entry i phase.Won) → Contains es (entry i phase.Won) =
    λ i h. elim (entry_kept s.views id v spent (entry i phase.Won) at h) [
      | inl n ↦ n
      | inr m ↦
          let one : has_number i (entry i phase.Won) ≡ 1 = rw (eq-eqb i i refl) refl in
          let a = counts (has_number i) s.views (entry i phase.Won) h in
          let b = counts (has_number i) (set s.views id spent) (entry i phase.Won) m in
          let known : i < n = elim (lt_or i (total next_of s.views)) [ inl l ↦ omega arith | inr l ↦ let z = r.below i l in absurd (omega arith) ] in
          let c = all i known in
          let d = total_set (λ (u : View). total (has_number i) u.entries) s.views id v spent at in
          let lone = r.apart i in absurd (omega arith)
    ] in
    record {
      small = f0.small;
      each = λ e h. f0.each e (entry_at s.views id v e at h);
      winner = elim f0.winner [ inl z ↦ inl z | inr m ↦ inr (m.0, m.1, mine m.0 m.2) ];
    }
  where
    lt_or : (x y : ℕ) → (x < y) ⊎ (y ≤ x)
    lt_or x y = grind arith

module _ {A : Type 0} (kind : Ghosts A) where
  abbrev lane : ℕ → A → Option Step → LaneState → Lane A
  lane k r t c = record { number = k; racer = r; step = t; state = c }

  entry_in : (ls : List (Lane A)) (i : ℕ) (l : Lane A) → slice_get ls i ≡ Some l → Contains (map entry_of ls) (entry_of l)
  entry_in [] i l e = absurd (cc)
  entry_in (x ∷ ls) zero l e = let h : x ≡ l = cc in (0, omega arith, ap (λ (y : Lane A). entry_of y) h)
  entry_in (x ∷ ls) (suc i) l e = let r = entry_in ls i l e in let k = r.1 in (suc r.0, omega arith, r.2)

  fits : (w i k : ℕ) (c : LaneState) (r : A) → PhaseFits w k (phase_of c) → k ≡ i → StateIsHonest kind c r → StateFits kind w i c r
  fits w i k Running r f e h = tt
  fits w i k Won r f e h = (omega arith, h)
  fits w i k (Lost x) r f e h = (f, h)
  fits w i k (Cancelled x) r f e h = f
  fits w i k Spent r f e h = h
  fits w i k Starved r f e h = h

  -- the lane that won is among these
  found : (j : ℕ) (ls : List (Lane A)) → Contains (map entry_of ls) (entry j phase.Won) → (i : ℕ) × (l : Lane A) × (slice_get ls i ≡ Some l) × (l.number ≡ j) × (l.state ≡ Won)
  found j ls h = go ls h.0 h.1 h.2
    where
      won : (c : LaneState) → phase_of c ≡ phase.Won → c ≡ Won
      won Won e = refl
      won Running e = absurd (cc)
      won (Lost x) e = absurd (cc)
      won (Cancelled x) e = absurd (cc)
      won Spent e = absurd (cc)
      won Starved e = absurd (cc)

      go : (ls : List (Lane A)) (k : ℕ) → k < length (map entry_of ls) → slice_index_or (map entry_of ls) k (entry j phase.Won) ≡ entry j phase.Won
          → (i : ℕ) × (l : Lane A) × (slice_get ls i ≡ Some l) × (l.number ≡ j) × (l.state ≡ Won)
      go [] k l e = absurd (omega arith)
      go (x ∷ ls) zero l e = (0, x, refl, ap (λ (y : Entry). y.number) e, won x.state (ap (λ (y : Entry). y.phase) e))
      go (x ∷ ls) (suc k) l e = let r = go ls k (omega arith) e in (suc r.0, r.1, r.2, r.3, r.4)

  abbrev HasEnded : Lane A → Lane A → Type 0
  HasEnded l m = LaneEnded kind l m

  -- what a lane was
  ended_of : (first ls : List (Lane A)) (i : ℕ) (l : Lane A) → AllZip HasEnded first ls → slice_get ls i ≡ Some l → (x : Lane A) × (slice_get first i ≡ Some x) × HasEnded x l
  ended_of [] [] i l e at = absurd (cc)
  ended_of [] (m ∷ ls) i l e at = absurd e
  ended_of (x ∷ first) [] i l e at = absurd e
  ended_of (x ∷ first) (m ∷ ls) zero l e at = let h : m ≡ l = cc in (x, refl, subst (HasEnded x) h e.0)
  ended_of (x ∷ first) (m ∷ ls) (suc i) l e at = ended_of first ls i l e.1 at

  numbered : (first ls : List (Lane A)) → Starts kind first → AllZip HasEnded first ls → (i : ℕ) (l : Lane A) → slice_get ls i ≡ Some l → (l.number ≡ i) × IsHonest kind l × (l.state ≢ Running)
  numbered first ls starts each i l at = let h = ended_of first ls i l each at in (h.2.number ∙ (starts i h.0 h.1).0.number, h.2.honest, h.2.ended)

  same_tasks : (first ls : List (Lane A)) → AllZip HasEnded first ls → tasks kind ls ≡ tasks kind first
  same_tasks [] [] e = refl
  same_tasks [] (l ∷ ls) e = absurd e
  same_tasks (x ∷ first) [] e = absurd e
  same_tasks (x ∷ first) (l ∷ ls) e = λ i. e.0.kept i ∷ same_tasks first ls e.1 i

  there : (ls : List (Lane A)) (i : ℕ) → i < length ls → (l : Lane A) × (slice_get ls i ≡ Some l)
  there [] i h = absurd (omega arith)
  there (x ∷ ls) zero h = (x, refl)
  there (x ∷ ls) (suc i) h = there ls i (omega arith)

  pub sound_end : (id n w : ℕ) (first ls : List (Lane A)) (s : S) → Seen IsRuled id (keeper n (map entry_of ls)) s → s.words ≡ w ∷ [] → Starts kind first → length first ≡ n → AllZip HasEnded first ls
      → (w ≤ 64) × IsSound kind (state_at w ls)
  sound_end id n w first ls s seen is starts len each =
      let known = numbered first ls starts each in
      let count = sym (length_all_zip HasEnded first ls each) in
      let all : (i : ℕ) → i < n → 1 ≤ total (has_number i) (map entry_of ls) =
      λ i h. let l = there ls i (omega arith) in
      let lone : has_number i (entry_of l.0) ≡ 1 = rw (eq-eqb l.0.number i (known i l.0 l.1).0) refl in
      let a = of_one (has_number i) (map entry_of ls) (entry_of l.0) (entry_in ls i l.0 l.1) in omega arith in
      let t = told id n w (map entry_of ls) s seen is all in (
        t.small,
        record {
          each = λ i l at. let k = known i l at in record { number = k.0; step = k.1.step; state = fits w i l.number l.state l.racer (t.each (entry_of l) (entry_in ls i l at)) k.0 k.1.state };
          winner = elim t.winner [ inl z ↦ inl z | inr m ↦ inr (wins m.0 m.1 (found m.0 ls m.2) known) ];
        },
      )
    where
      wins : (j : ℕ) → w ≡ j + 1 → ((i : ℕ) × (l : Lane A) × (slice_get ls i ≡ Some l) × (l.number ≡ j) × (l.state ≡ Won))
          → ((i : ℕ) (l : Lane A) → slice_get ls i ≡ Some l → (l.number ≡ i) × IsHonest kind l × (l.state ≢ Running))
          → (i : ℕ) × (l : Lane A) × (w ≡ i + 1) × (slice_get ls i ≡ Some l) × (l.state ≡ Won)
      wins j e f known = let n = (known f.0 f.1 f.2).0 in let d = f.3 in (f.0, f.1, omega arith, f.2, f.4)

  pub ends_as : (id n w : ℕ) (first ls : List (Lane A)) (s : S) (o : Outcome) → Seen IsRuled id (keeper n (map entry_of ls)) s → s.words ≡ w ∷ [] → Starts kind first → length first ≡ n → AllZip HasEnded first ls
      → o ≡ outcome_of (state_at w ls) → EndsAs kind first o ls
  ends_as id n w first ls s o seen is starts len each e =
      let h = sound_end id n w first ls s seen is starts len each in
      record {
        word = w;
        sound = h.1;
        ended = λ i l at. (numbered first ls starts each i l at).2;
        outcome_is = e;
        kept = same_tasks first ls each;
        count = sym (length_all_zip HasEnded first ls each);
      }

  pub ends_by : (id n w : ℕ) (me : View × List (ℕ × Unit {0})) (first ls : List (Lane A)) (o : Outcome) → me ≡ (keeper n (map entry_of ls), []) → ((s : S) × Seen IsRuled id me.0 s × (s.words ≡ w ∷ [])) → Starts kind first → length first ≡ n → AllZip HasEnded first ls
      → o ≡ outcome_of (state_at w ls) → EndsAs kind first o ls
  ends_by id n w me first ls o e seen starts len each is =
      ends_as id n w first ls seen.0 o (subst (λ (m : View × List (ℕ × Unit {0})). Seen IsRuled id m.0 seen.0) e seen.1) seen.2 starts len each is
