-- Steps of a seated lane.
use Rattle.race.specs.declared.engines.Racer.{Ghosts}
use Rattle.std.proofs.Common.{◌≡◌, ℕ, zero, suc, ◌+◌, ◌==◌, [], Some, refl, sym, ap, ◌∙◌, subst}
use Rattle.std.specs.Prelude.{Option}
use mathlib.Core.Option.{none}
use prog.Atomic.{either}
use Rattle.atomic_table.specs.Table.{Me, step, Allows}
use Rattle.atomic_table.specs.Seated.{TableId}
use Rattle.race.proofs.Keeps.{not_zero}
use Rattle.race.proofs.Winners.{look_allowed, publish_allowed}
use Rattle.race.specs.Lanes.{advanced, looked, published, publishes, settled, step_of, word_after, Begins, BeginsFrom, Turns, TurnsFrom}
use Rattle.race.specs.declared.engines.Progress.{Progress}
use Rattle.race.specs.declared.engines.Progress.TheVariants as said
use Rattle.race.specs.Machine.{IsDecided}
use Rattle.race.specs.Winner.{phase_of, lane_view, moves, IsRuled}
use Rattle.race.specs.Winner as winner
use Rattle.race.specs.SeatedLane.{IsHonest, IsSeated}
use Rattle.race.specs.declared.winner.Phase.TheVariants as phase
use Rattle.race.specs.declared.winner.View.{View}
use Rattle.race.specs.declared.lanes.Step.{Step}
use Rattle.race.specs.declared.lanes.Step.TheVariants.{Load, Exchange, Ended}
use Rattle.race.specs.declared.lanes.LaneState.{LaneState}
use Rattle.race.specs.declared.lanes.LaneState.TheVariants.{Running, Won, Lost, Cancelled, Spent, Starved}
use Rattle.race.specs.declared.lanes.Lane.{Lane}
use Rattle.race.specs.declared.seated_lane.SeatedLane.{SeatedLane}

pub look_may : (slots id i : ℕ) (c : LaneState) (me : Me (Unit {0}) View) → c ≡ Running → me ≡ (lane_view i (phase_of c), []) → Allows IsRuled slots id me 0 (λ n. n) (winner.looks (step slots 0 0 0 none) me)
look_may slots id i c me run e =
    let e' : me ≡ (lane_view i phase.Looking, []) = e ∙ ap (λ (x : LaneState). (lane_view i (phase_of x), [])) run in
    subst (λ (m : Me (Unit {0}) View). Allows IsRuled slots id m 0 (λ n. n) (winner.looks (step slots 0 0 0 none) m)) (sym e') (look_allowed slots id i)

pub publish_may : (slots id i : ℕ) (c : LaneState) (me : Me (Unit {0}) View) → c ≡ Running → me ≡ (lane_view i (phase_of c), []) → Allows IsRuled slots id me 0 (λ n. either (n == 0) (i + 1) n) (winner.publishes (step slots 0 0 (i + 1) none) me)
publish_may slots id i c me run e =
    let e' : me ≡ (lane_view i phase.Looking, []) = e ∙ ap (λ (x : LaneState). (lane_view i (phase_of x), [])) run in
    subst (λ (m : Me (Unit {0}) View). Allows IsRuled slots id m 0 (λ n. either (n == 0) (i + 1) n) (winner.publishes (step slots 0 0 (i + 1) none) m)) (sym e') (publish_allowed slots id i)

module _ {A : Type 0} (kind : Ghosts A) where
  abbrev Good : Lane A → Type 0
  Good l = IsHonest kind l

  abbrev Sits : TableId → SeatedLane A → Type 0
  Sits z t = IsSeated kind z t

  abbrev lane : ℕ → A → Option Step → LaneState → Lane A
  lane k r t c = record { number = k; racer = r; step = t; state = c }

  -- after a look or an exchange
  look_state : (n k : ℕ) (r : A) → settled (lane k r (Some Load) Running) n ≡ lane k r (Some Load) (looked n)
  look_state n k r = from (looked n)
    where
      from : (c : LaneState) → publishes (lane k r (Some Load) c) n ≡ lane k r (Some Load) c
      from Running = refl
      from Won = refl
      from (Lost j) = refl
      from (Cancelled j) = refl
      from Spent = refl
      from Starved = refl

  publish_state : (n k : ℕ) (r : A) → settled (lane k r (Some Exchange) Running) n ≡ lane k r (Some Exchange) (published n)
  publish_state n k r = refl

  lane_is : (l : Lane A) (t : Option Step) → l.state ≡ Running → l.step ≡ t → l ≡ lane l.number l.racer t Running
  lane_is l t c s = λ j. record { number = l.number; racer = l.racer; step = s j; state = c j }

  look_honest : (n k : ℕ) (r : A) → Good (lane k r (Some Load) (looked n))
  look_honest zero k r = record { step = λ e. absurd (cc); state = tt }
  look_honest (suc n) k r = rw (not_zero n) (record { step = λ e. absurd (cc); state = tt })

  publish_honest : (n k : ℕ) (r : A) → IsDecided kind r → Good (lane k r (Some Exchange) (published n))
  publish_honest zero k r d = record { step = λ e. d; state = d }
  publish_honest (suc n) k r d = rw (not_zero n) (record { step = λ e. d; state = d })

  pub look_sits : (z : TableId) (t u : SeatedLane A) (n : ℕ) → Sits z t → t.lane.state ≡ Running → t.lane.step ≡ Some Load → u.lane ≡ settled t.lane n → u.seat.table_id ≡ t.seat.table_id → u.seat.me ≡ (moves looked n t.seat.me.0, t.seat.me.1) → Sits z u
  look_sits z t u n sits c s l id me =
      let k = t.lane.number in let r = t.lane.racer in
      let e : u.lane ≡ lane k r (Some Load) (looked n) = l ∙ ap (λ (x : Lane A). settled x n) (lane_is t.lane (Some Load) c s) ∙ look_state n k r in
      let v : u.seat.me ≡ (lane_view k (phase_of (looked n)), []) = me ∙ ap (λ (m : Me (Unit {0}) View). (moves looked n m.0, m.1)) sits.view in
      record {
        words = sits.words;
        table = id ∙ sits.table;
        view = v ∙ ap (λ (x : Lane A). (lane_view x.number (phase_of x.state), [])) (sym e);
        honest = subst (λ (x : Lane A). Good x) (sym e) (look_honest n k r);
      }

  pub publish_sits : (z : TableId) (t u : SeatedLane A) (n : ℕ) → Sits z t → t.lane.state ≡ Running → t.lane.step ≡ Some Exchange → u.lane ≡ settled t.lane n → u.seat.table_id ≡ t.seat.table_id → u.seat.me ≡ (moves published n t.seat.me.0, t.seat.me.1) → Sits z u
  publish_sits z t u n sits c s l id me =
      let k = t.lane.number in let r = t.lane.racer in
      let e : u.lane ≡ lane k r (Some Exchange) (published n) = l ∙ ap (λ (x : Lane A). settled x n) (lane_is t.lane (Some Exchange) c s) in
      let v : u.seat.me ≡ (lane_view k (phase_of (published n)), []) = me ∙ ap (λ (m : Me (Unit {0}) View). (moves published n m.0, m.1)) sits.view in
      record {
        words = sits.words;
        table = id ∙ sits.table;
        view = v ∙ ap (λ (x : Lane A). (lane_view x.number (phase_of x.state), [])) (sym e);
        honest = subst (λ (x : Lane A). Good x) (sym e) (publish_honest n k r (sits.honest.step s));
      }

  abbrev HasTurn : Lane A → Lane A → Type 0
  HasTurn l n = (found : ℕ) × (new : ℕ) × Turns kind l.number l found n new

  -- a lane that runs and begins has had a turn once its step has found a word
  pub turn_done : (l m n : Lane A) (step : Step) (found : ℕ) → l.state ≡ Running → Begins kind l step m → n ≡ settled m found → HasTurn l n
  turn_done l m n step found run begins done =
      let b = subst (λ (c : LaneState). BeginsFrom kind c l step m) run begins in
      let p = kind.said m.racer in
      let turned : TurnsFrom kind Running l.number l found n (word_after (advanced l p m.racer) l.number found) =
      (p, m.racer, b.1, done ∙ ap (λ (x : Lane A). settled x found) b.0, refl) in
      (found, word_after (advanced l p m.racer) l.number found, subst (λ (c : LaneState). TurnsFrom kind c l.number l found n (word_after (advanced l p m.racer) l.number found)) (sym run) turned)

  ended_settled : (k : ℕ) (s r : A) (t : Option Step) (p : Progress) → step_of p ≡ Ended → settled (advanced (lane k s t Running) p r) 0 ≡ advanced (lane k s t Running) p r
  ended_settled k s r t said.More e = absurd (cc)
  ended_settled k s r t said.Decided e = absurd (cc)
  ended_settled k s r t said.Spent e = refl
  ended_settled k s r t said.NoMemory e = refl

  -- and so has one that ends with its advance
  pub turn_ended : (l m : Lane A) (step : Step) → l.state ≡ Running → Begins kind l step m → step ≡ Ended → HasTurn l m
  turn_ended l m step run begins ends =
      let b = subst (λ (c : LaneState). BeginsFrom kind c l step m) run begins in
      let is = lane_is l l.step run refl in
      let kept : settled (advanced l (kind.said m.racer) m.racer) 0 ≡ advanced l (kind.said m.racer) m.racer =
      subst (λ (x : Lane A). settled (advanced x (kind.said m.racer) m.racer) 0 ≡ advanced x (kind.said m.racer) m.racer) (sym is)
      (ended_settled l.number l.racer m.racer l.step (kind.said m.racer) (sym b.2 ∙ ends)) in
      turn_done l m m step 0 run begins (b.0 ∙ sym kept ∙ ap (λ (x : Lane A). settled x 0) (sym b.0))
