-- Lanes get seats and go to groups, and come back in order.
use Rattle.race.specs.declared.engines.Racer.{Ghosts}
use Rattle.std.proofs.Common.{◌≡◌, ℕ, ◌-◌, ◌<◌, ◌≤◌, List, [], ◌∷◌, ◌++◌, map, Some, length, get_or, refl, sym, ap, ◌∙◌, subst, arith, vec_len, vec_capacity, Global, inl, inr}
use Rattle.std.specs.Prelude.{slice_get, Vec}
use Rattle.std.specs.List.{AllZip}
use Rattle.std.proofs.lemmas.Bool.{cases_lt}
use Rattle.std.proofs.lemmas.List.{length-map, get_or_append_left, get_or_push, length_push, map_push}
use Rattle.std.proofs.lemmas.List.Elements.{All-nil, All-cons, All-head, All-tail, AllZip-get_or, length_all_zip}
use Rattle.atomic_table.specs.Table.{Me, Splits, Joins}
use Rattle.atomic_table.specs.Seated.{TableId}
use Rattle.atomic_table.specs.declared.shared.Seat.{Seat}
use Rattle.workers.specs.Dealt.{Dealt, dealt}
use Rattle.workers.proofs.Zips.{zip_from_each, zip_get, zip_map}
use Rattle.workers.proofs.Moves.{GoIn, none_in, one_in, ComeOut, none_out, one_out}
use Rattle.race.proofs.Winners.{seats, collects}
use Rattle.race.specs.Machine.{Starts}
use Rattle.race.specs.Winner.{phase_of, keeper, lane_view, spent, seat_given, newcomer, gained, IsRuled}
use Rattle.race.specs.SeatedLane.{StateIsHonest, IsSeated, TookAllTurns, AreSeated, IsNewSeat, NewSeats, LaneEnded, entry_of, unseated}
use Rattle.race.specs.declared.winner.Phase.{Phase}
use Rattle.race.specs.declared.winner.View.{View}
use Rattle.race.specs.declared.lanes.LaneState.{LaneState}
use Rattle.race.specs.declared.lanes.Lane.{Lane}
use Rattle.race.specs.declared.seated_lane.SeatedLane.{SeatedLane}

abbrev WordSeat : Type 0
WordSeat = Seat (Unit {0}) View

pub seat_may : (id : ℕ) (n : ℕ) (me : Me (Unit {0}) View) → me ≡ (keeper n [], []) → n < 64 → Splits IsRuled id me.0 (seat_given me.0) (newcomer me.0)
seat_may id n me e h = seats id me.0 (ap (λ (m : Me (Unit {0}) View). m.0.keeps) e) (let k = ap (λ (m : Me (Unit {0}) View). m.0.next) e in omega arith)

pub collect_may : (id other n : ℕ) (p : Phase) (me w : Me (Unit {0}) View) → w ≡ (lane_view n p, []) → Joins IsRuled id me.0 other w.0 (gained me.0 w.0) spent
collect_may id other n p me w e = collects id me.0 other w.0 (ap (λ (m : Me (Unit {0}) View). m.0.keeps) e)

pub seats_more : (z : TableId) (ss new : List WordSeat) (s : WordSeat) (k : ℕ) → NewSeats z ss → length ss ≡ k → new ≡ ss ++ s ∷ [] → IsNewSeat z k s → NewSeats z new
seats_more z ss new s k old long e here = rw e (λ i d low. elim (cases_lt i k) [
  | inl l ↦ subst (IsNewSeat z i) (sym (get_or_append_left ss (s ∷ []) d i (omega (arith, l, long)))) (old i d (omega (arith, l, long)))
  | inr l ↦
      let same : i ≡ k = omega (arith, l, low, length_push ss s, long) in
      subst (λ j. IsNewSeat z j (get_or (ss ++ s ∷ []) i d)) (sym same) (subst (IsNewSeat z k) (sym (get_or_push ss s d i (long ∙ sym same))) here)
])

seats_less : (z : TableId) (ss rest : List WordSeat) (s : WordSeat) → NewSeats z ss → ss ≡ rest ++ s ∷ [] → NewSeats z rest × IsNewSeat z (length rest) s
seats_less z ss rest s old e =
    let all : NewSeats z (rest ++ s ∷ []) = subst (NewSeats z) e old in (
      λ i d low. subst (IsNewSeat z i) (get_or_append_left rest (s ∷ []) d i low) (all i d (omega (arith, low, length_push rest s))),
      subst (IsNewSeat z (length rest)) (get_or_push rest s s (length rest) refl) (all (length rest) s (omega (arith, length_push rest s))),
    )

module _ {X : Type 0} where
  at_middle : (xs : List X) (x : X) (ys : List X) → slice_get (xs ++ x ∷ ys) (length xs) ≡ Some x
  at_middle [] x ys = refl
  at_middle (z ∷ xs) x ys = at_middle xs x ys

module _ {A : Type 0} (kind : Ghosts A) where
  abbrev Lanes : Type 0
  Lanes = Vec (Lane A) Global

  abbrev Seated : Type 0
  Seated = Dealt (SeatedLane A)

  seated_new : (z : TableId) (first : List (Lane A)) (k : ℕ) (l : Lane A) (s : WordSeat) → z.words ≡ 1 → Starts kind first → slice_get first k ≡ Some l → IsNewSeat z k s → IsSeated kind z (record { lane = l; seat = s })
  seated_new z first k l s one starts at new =
      let f = starts k l at in
      let num = f.0.number in
      record {
        words = one;
        table = new.0;
        view = new.1 ∙ (λ j. (lane_view (sym num j) (phase_of (sym f.1 j)), []));
        honest = record { step = f.0.step; state = subst (λ (c : LaneState). StateIsHonest kind c l.racer) (sym f.1) tt };
      }

  -- the last lanes have got their seats
  pub record Seating (z : TableId) (capacity : ℕ) (first : List (Lane A)) (lanes : Lanes) (seats : Vec WordSeat Global) (groups : Seated) : Type 0 where
    pub gone : GoIn unseated first capacity lanes groups
    pub seated : AreSeated kind z groups.items
    pub new : NewSeats z seats.items
    pub count : vec_len seats ≡ vec_len lanes

  pub seating_none : (z : TableId) (lanes : Lanes) (seats : Vec WordSeat Global) (groups : Seated) → NewSeats z seats.items → length seats.items ≡ vec_len lanes → groups ≡ dealt (length lanes.items) [] → Seating z (vec_capacity lanes) lanes.items lanes seats groups
  seating_none z lanes seats groups new count none = record {
    gone = none_in unseated lanes groups none;
    seated = rw none (All-nil (IsSeated kind z));
    new = new;
    count = seats.ok.0 ∙ count;
  }

  pub seating_more : (z : TableId) (capacity : ℕ) (first : List (Lane A)) (lanes left : Lanes) (seats others : Vec WordSeat Global) (groups : Seated) (l : Lane A) (s : WordSeat) → z.words ≡ 1 → Starts kind first → Seating z capacity first lanes seats groups
      → lanes.items ≡ left.items ++ l ∷ [] → vec_capacity left ≡ vec_capacity lanes → seats.items ≡ others.items ++ s ∷ []
      → Seating z capacity first left others (dealt (groups.room - 1) ((record { lane = l; seat = s }) ∷ groups.items))
  seating_more z capacity first lanes left seats others groups l s one starts h popped cap taken =
      let fewer = seats_less z seats.items others.items s h.new taken in
      let gone = one_in unseated first capacity lanes left groups (record { lane = l; seat = s }) h.gone popped cap in
      let count : vec_len others ≡ vec_len left = omega (arith, lanes.ok.0, left.ok.0, seats.ok.0, others.ok.0, ap length popped, length_push left.items l, ap length taken, length_push others.items s, h.count) in
      let place : length others.items ≡ length left.items = sym others.ok.0 ∙ count ∙ left.ok.0 in
      record {
        gone = gone;
        seated = All-cons (IsSeated kind z) (record { lane = l; seat = s }) groups.items
            (seated_new z first (length left.items) l s one starts (subst (λ ls. slice_get ls (length left.items) ≡ Some l) gone.same (at_middle left.items l (map unseated groups.items))) (subst (λ k. IsNewSeat z k s) place fewer.1))
            h.seated;
        new = fewer.0;
        count = count;
      }

  -- the first lanes have come back, and the keeper has gained their seats
  pub record Gathering (z : TableId) (was : List (SeatedLane A)) (groups : Seated) (lanes : Lanes) (me : Me (Unit {0}) View) : Type 0 where
    pub back : ComeOut unseated was groups lanes
    pub seated : AreSeated kind z groups.items
    pub view : me ≡ (keeper (length was) (map entry_of lanes.items), [])

  pub gathering_none : (z : TableId) (groups : Seated) (lanes : Lanes) (me : Me (Unit {0}) View) → AreSeated kind z groups.items → me ≡ (keeper (length groups.items) [], []) → lanes.items ≡ [] → length groups.items ≤ vec_capacity lanes → Gathering z groups.items groups lanes me
  gathering_none z groups lanes me seated view none room = record {
    back = none_out unseated groups lanes none room;
    seated = seated;
    view = view ∙ ap (λ ls. (keeper (length groups.items) (map entry_of ls), [])) (sym none);
  }

  module _ (z : TableId) (was : List (SeatedLane A)) (groups left : Seated) (lanes : Lanes) (me : Me (Unit {0}) View) (t : SeatedLane A) (h : Gathering z was groups lanes me) (taken : groups.items ≡ t ∷ left.items) where
    both : AreSeated kind z (t ∷ left.items)
    both = subst (AreSeated kind z) taken h.seated

    pub next_sits : IsSeated kind z t
    next_sits = All-head (IsSeated kind z) t left.items both

    pub gathering_more : (more : Lanes) (then : Me (Unit {0}) View) → more.items ≡ lanes.items ++ t.lane ∷ [] → vec_capacity more ≡ vec_capacity lanes → then ≡ (gained me.0 t.seat.me.0, me.1) → Gathering z was left more then
    gathering_more more then pushed cap joined = record {
      back = one_out unseated was groups left lanes more t h.back taken pushed cap;
      seated = All-tail (IsSeated kind z) t left.items both;
      view = joined ∙ (λ j. (gained (h.view j).0 (next_sits.view j).0, (h.view j).1)) ∙ ap (λ es. (keeper (length was) es, [])) (sym (map_push entry_of lanes.items t.lane) ∙ ap (map entry_of) (sym pushed));
    }

  -- seated lanes that have ended
  module _ (z : TableId) (ss ts : List (SeatedLane A)) (each : AllZip (TookAllTurns kind z) ss ts) where
    same_count : length ss ≡ length ts
    same_count = length_all_zip (TookAllTurns kind z) ss ts each

    pub ended_sit : AreSeated kind z ts
    ended_sit i d low = (zip_get (TookAllTurns kind z) ss ts i d each low).ran.seated

    pub ended_count : (first : List (Lane A)) → map unseated ss ≡ first → length ts ≡ length first
    ended_count first same = sym same_count ∙ sym (length-map ss unseated) ∙ ap length same

    pub lanes_ended : (first ls : List (Lane A)) → map unseated ss ≡ first → ls ≡ map unseated ts → AllZip (LaneEnded kind) first ls
    lanes_ended first ls same back =
        subst (λ ms. AllZip (LaneEnded kind) ms ls) same (subst (AllZip (LaneEnded kind) (map unseated ss)) (sym back)
        (zip_map (LaneEnded kind) unseated ss ts (zip_from_each (λ s t. LaneEnded kind s.lane t.lane) ss ts (sym same_count) (λ i d low.
        let r = AllZip-get_or (TookAllTurns kind z) ss ts i d d each low in
        record { honest = r.ran.seated.honest; number = r.ran.number; kept = r.ran.kept; ended = r.ended }))))
