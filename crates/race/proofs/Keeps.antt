-- Each event keeps a sound state sound.
use Rattle.race.specs.declared.engines.Racer.{Ghosts}
use Rattle.std.proofs.Common.{◌≡◌, ◌≢◌, ℕ, zero, suc, ◌+◌, ◌-◌, ◌==◌, ◌⊎◌, inl, inr, Some, None, refl, sym, subst, arith}
use Rattle.std.proofs.lemmas.Bool.Decides.{nat_tests}
use Rattle.std.specs.Prelude.{false}
use Rattle.std.specs.Prelude.{Option, slice_get}
use Rattle.race.proofs.Lists.{changed_at, changed_here, changed_kept, changed_none}
use Rattle.race.specs.Answer.{MayAnswer}
use Rattle.race.specs.Lanes.{advanced, looks, publishes, word_from}
use Rattle.race.specs.Machine.{changed, RaceState, state_at, happens, word_at, Event, Advances, Looks, Publishes, IsSound, LaneFits, IsAllowed}
use Rattle.race.specs.declared.engines.Progress.{Progress}
use Rattle.race.specs.declared.engines.Progress.TheVariants as said
use Rattle.race.specs.declared.lanes.Step.{Step}
use Rattle.race.specs.declared.lanes.Step.TheVariants.{Load, Exchange, Ended}
use Rattle.race.specs.declared.lanes.LaneState.{LaneState}
use Rattle.race.specs.declared.lanes.LaneState.TheVariants.{Running, Won, Lost, Cancelled, Spent, Starved}
use Rattle.race.specs.declared.lanes.Lane.{Lane}

pub not_zero : (n : ℕ) → (suc n == 0) ≡ false
not_zero n = grind (arith, nat_tests)

less_one : (n : ℕ) → suc n ≡ suc n - 1 + 1
less_one n = omega arith

module _ {A : Type 0} (kind : Ghosts A) where
  abbrev Fits : ℕ → ℕ → Lane A → Type 0
  Fits n i l = LaneFits kind n i l

  abbrev Good : RaceState A → Type 0
  Good s = IsSound kind s

  abbrev Can : A → Progress → A → Type 0
  Can r p t = MayAnswer kind r p t

  abbrev lane : ℕ → A → Option Step → LaneState → Lane A
  lane k r t c = record { number = k; racer = r; step = t; state = c }

  advance_fits : (n i k : ℕ) (r : A) (t : Option Step) (c : LaneState) (p : Progress) (z : A) → Fits n i (lane k r t c) → (c ≡ Running → Can r p z) → Fits n i (advanced (lane k r t c) p z)
  advance_fits n i k r t Running said.More z f may = record { number = f.number; step = λ e. absurd (cc); state = tt }
  advance_fits n i k r t Running said.Decided z f may = record { number = f.number; step = λ e. record { answered = (may refl).said_now; holds = (may refl).decided refl }; state = tt }
  advance_fits n i k r t Running said.Spent z f may = record { number = f.number; step = λ e. absurd (cc); state = record { answered = (may refl).said_now; fails = (may refl).spent refl } }
  advance_fits n i k r t Running said.NoMemory z f may = record { number = f.number; step = λ e. absurd (cc); state = (may refl).said_now }
  advance_fits n i k r t Won p z f may = f
  advance_fits n i k r t (Lost j) p z f may = f
  advance_fits n i k r t (Cancelled j) p z f may = f
  advance_fits n i k r t Spent p z f may = f
  advance_fits n i k r t Starved p z f may = f

  -- a look at this word, from the state that the word gives
  look_fits : (n i k : ℕ) (r : A) (t : Option Step) (c : LaneState) → Fits n i (lane k r t c) → Fits n i (looks (lane k r t c) n)
  look_fits zero i k r (Some Load) Running f = f
  look_fits (suc n) i k r (Some Load) Running f = record { number = f.number; step = λ e. absurd (cc); state = grind (arith, nat_tests) }
  look_fits n i k r (Some Exchange) Running f = f
  look_fits n i k r (Some Ended) Running f = f
  look_fits n i k r None Running f = f
  look_fits n i k r t Won f = f
  look_fits n i k r t (Lost j) f = f
  look_fits n i k r t (Cancelled j) f = f
  look_fits n i k r t Spent f = f
  look_fits n i k r t Starved f = f

  -- a lane that has published, where the word is set at 0
  publish_fits : (n i k : ℕ) (r : A) (t : Option Step) (c : LaneState) → Fits n i (lane k r t c) → Fits (word_from c t i n) i (publishes (lane k r t c) n)
  publish_fits zero i k r (Some Exchange) Running f = record { number = f.number; step = f.step; state = (refl, f.step refl) }
  publish_fits (suc n) i k r (Some Exchange) Running f = rw (not_zero n) (record { number = f.number; step = f.step; state = (less_one n, f.step refl) })
  publish_fits n i k r (Some Load) Running f = f
  publish_fits n i k r (Some Ended) Running f = f
  publish_fits n i k r None Running f = f
  publish_fits n i k r t Won f = f
  publish_fits n i k r t (Lost j) f = f
  publish_fits n i k r t (Cancelled j) f = f
  publish_fits n i k r t Spent f = f
  publish_fits n i k r t Starved f = f

  -- while the word is 0 a lane fits any word
  any_word : (m i k : ℕ) (r : A) (t : Option Step) (c : LaneState) → Fits 0 i (lane k r t c) → Fits m i (lane k r t c)
  any_word m i k r t Running f = record { number = f.number; step = f.step; state = tt }
  any_word m i k r t Won f = absurd (let h = f.state.0 in omega arith)
  any_word m i k r t (Lost j) f = absurd (let h = f.state.0 in omega arith)
  any_word m i k r t (Cancelled j) f = absurd (let h = f.state in omega arith)
  any_word m i k r t Spent f = record { number = f.number; step = f.step; state = f.state }
  any_word m i k r t Starved f = record { number = f.number; step = f.step; state = f.state }

  -- the word is kept, or was 0
  word_moves : (n i : ℕ) (t : Option Step) (c : LaneState) → (word_from c t i n ≡ n) ⊎ ((n ≡ 0) × (c ≡ Running) × (t ≡ Some Exchange))
  word_moves zero i (Some Exchange) Running = inr (refl, refl, refl)
  word_moves (suc n) i (Some Exchange) Running = inl (rw (not_zero n) refl)
  word_moves n i (Some Load) Running = inl refl
  word_moves n i (Some Ended) Running = inl refl
  word_moves n i None Running = inl refl
  word_moves n i t Won = inl refl
  word_moves n i t (Lost j) = inl refl
  word_moves n i t (Cancelled j) = inl refl
  word_moves n i t Spent = inl refl
  word_moves n i t Starved = inl refl

  -- one lane changes, to one that fits the new word, which the others fit too
  one_changes : (s : RaceState A) (i m : ℕ) (f : Lane A → Lane A) → Good s
      → ((l : Lane A) → slice_get s.lanes i ≡ Some l → Fits m i (f l))
      → ((j : ℕ) (l : Lane A) → j ≢ i → slice_get s.lanes j ≡ Some l → Fits m j l)
      → ((m ≡ 0) ⊎ ((k : ℕ) × (l : Lane A) × (m ≡ k + 1) × (slice_get (changed s.lanes i f) k ≡ Some l) × (l.state ≡ Won)))
      → Good (state_at m (changed s.lanes i f))
  one_changes s i m f good here there winner =
      record {
        each = λ j l e.
            elim (changed_at s.lanes i j f l e) [
              | inl h ↦ let x = h.1.0 in let a = here x h.1.1 in let P : ℕ × Lane A → Type 0 = λ u. Fits m u.0 u.1 in subst P (λ k. (sym h.0 k, sym h.1.2 k)) a
              | inr h ↦ there j l h.0 h.1
            ];
        winner = winner;
      }

  won_stays : (s : RaceState A) (i : ℕ) (f : Lane A → Lane A) → ((l : Lane A) → l.state ≡ Won → f l ≡ l) → Good s
      → (s.word ≡ 0) ⊎ ((k : ℕ) × (l : Lane A) × (s.word ≡ k + 1) × (slice_get (changed s.lanes i f) k ≡ Some l) × (l.state ≡ Won))
  won_stays s i f keeps good = elim good.winner [ inl z ↦ inl z | inr w ↦ inr (w.0, w.1, w.2, changed_kept s.lanes i w.0 f w.1 w.3 (keeps w.1 w.4), w.4) ]

  advance_won : (p : Progress) (z : A) (k : ℕ) (r : A) (t : Option Step) (c : LaneState) → c ≡ Won → advanced (lane k r t c) p z ≡ lane k r t c
  advance_won p z k r t Won e = refl
  advance_won p z k r t Running e = absurd (cc)
  advance_won p z k r t (Lost j) e = refl
  advance_won p z k r t (Cancelled j) e = refl
  advance_won p z k r t Spent e = refl
  advance_won p z k r t Starved e = refl

  look_won : (n k : ℕ) (r : A) (t : Option Step) (c : LaneState) → c ≡ Won → looks (lane k r t c) n ≡ lane k r t c
  look_won n k r t Won e = refl
  look_won n k r t Running e = absurd (cc)
  look_won n k r t (Lost j) e = refl
  look_won n k r t (Cancelled j) e = refl
  look_won n k r t Spent e = refl
  look_won n k r t Starved e = refl

  publish_won : (n k : ℕ) (r : A) (t : Option Step) (c : LaneState) → c ≡ Won → publishes (lane k r t c) n ≡ lane k r t c
  publish_won n k r t Won e = refl
  publish_won n k r t Running e = absurd (cc)
  publish_won n k r t (Lost j) e = refl
  publish_won n k r t (Cancelled j) e = refl
  publish_won n k r t Spent e = refl
  publish_won n k r t Starved e = refl

  published_state : (k : ℕ) (r : A) (t : Option Step) (c : LaneState) → c ≡ Running → t ≡ Some Exchange → (publishes (lane k r t c) 0).state ≡ Won
  published_state k r t c e f = rw (e, f) refl

  word_set : (n i : ℕ) (t : Option Step) (c : LaneState) → n ≡ 0 → c ≡ Running → t ≡ Some Exchange → word_from c t i n ≡ i + 1
  word_set n i t c z e f = rw (z, e, f) refl

  publish_at : (s : RaceState A) (i : ℕ) (o : Option (Lane A)) → slice_get s.lanes i ≡ o → Good s
      → Good (state_at (word_at o i s.word) (changed s.lanes i (λ l. publishes l s.word)))
  publish_at s i None at good = rw (changed_none s.lanes i (λ l. publishes l s.word) at) good
  publish_at s i (Some l) at good =
      let f : Lane A → Lane A = λ l. publishes l s.word in
      let mine : (x : Lane A) → slice_get s.lanes i ≡ Some x → Fits (word_from l.state l.step i s.word) i (f x) =
      λ x e. let same : l ≡ x = cc in subst (λ (y : Lane A). Fits (word_from l.state l.step i s.word) i (f y)) same (publish_fits s.word i l.number l.racer l.step l.state (good.each i l at)) in
      elim (word_moves s.word i l.step l.state) [
        | inl same ↦ subst (λ (m : ℕ). Good (state_at m (changed s.lanes i f))) (sym same)
            (one_changes s i s.word f good
            (λ x e. subst (λ (m : ℕ). Fits m i (f x)) same (mine x e))
            (λ j x ne e. good.each j x e)
            (won_stays s i f (λ x w. publish_won s.word x.number x.racer x.step x.state w) good))
        | inr h ↦ one_changes s i (word_from l.state l.step i s.word) f good mine
            (λ j x ne e. any_word (word_from l.state l.step i s.word) j x.number x.racer x.step x.state (subst (λ (m : ℕ). Fits m j x) h.0 (good.each j x e)))
            (inr (i, f l, word_set s.word i l.step l.state h.0 h.1 h.2, changed_here s.lanes i f l at, subst (λ (m : ℕ). (publishes l m).state ≡ Won) (sym h.0) (published_state l.number l.racer l.step l.state h.1 h.2)))
      ]

  pub keeps : (s : RaceState A) (e : Event A) → Good s → IsAllowed kind s e → Good (happens s e)
  keeps s (Advances i p z) good may =
      one_changes s i s.word (λ l. advanced l p z) good
      (λ l at. advance_fits s.word i l.number l.racer l.step l.state p z (good.each i l at) (may l at))
      (λ j l ne e. good.each j l e)
      (won_stays s i (λ l. advanced l p z) (λ x w. advance_won p z x.number x.racer x.step x.state w) good)
  keeps s (Looks i) good may =
      one_changes s i s.word (λ l. looks l s.word) good
      (λ l at. look_fits s.word i l.number l.racer l.step l.state (good.each i l at))
      (λ j l ne e. good.each j l e)
      (won_stays s i (λ l. looks l s.word) (λ x w. look_won s.word x.number x.racer x.step x.state w) good)
  keeps s (Publishes i) good may = publish_at s i (slice_get s.lanes i) refl good
