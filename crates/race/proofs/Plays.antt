-- Turns lead from sound states to sound states, and each lane keeps its task.
use Rattle.race.specs.declared.engines.Racer.{Ghosts}
use Rattle.std.proofs.Common.{below_more, append-nil, add-one, take, get_or, ◌≡◌, ℕ, zero, suc, ◌+◌, ◌<◌, ◌≤◌, inl, inr, Bool, true, false, List, [], ◌∷◌, ◌++◌, map, Some, None, length, refl, sym, ap, ◌∙◌, subst, arith, append_assoc}
use Rattle.std.specs.Prelude.{Option, slice_get, slice_set, slice_index_or, MatchBool, if◌then◌else◌}
use Rattle.race.proofs.Lists.{length_changed, changed_here, changed_set, changed_twice}
use Rattle.race.proofs.Keeps.{keeps, not_zero}
use Rattle.race.specs.Answer.{MayAnswer}
use Rattle.race.specs.Lanes.{is_running, advanced, looks, publishes, settled, word_after, Turns}
use Rattle.race.specs.Machine.{changed, RaceState, state_at, happens, word_at, run, turn_of, Event, Advances, Looks, Publishes, IsSound, IsAllowed, TurnFrom, TurnAt, Turned, Plays, tasks, Goes, weight, weight_of, EndedAt, IsEnd, Starts, numbers, rounds_of, outcome_of, EndsAs}
use Rattle.race.specs.declared.playing.Outcome.{Outcome}
use Rattle.race.specs.declared.engines.Progress.{Progress}
use Rattle.race.specs.declared.engines.Progress.TheVariants as said
use Rattle.race.specs.declared.lanes.Step.{Step}
use Rattle.race.specs.declared.lanes.Step.TheVariants.{Load, Exchange, Ended}
use Rattle.race.specs.declared.lanes.LaneState.{LaneState}
use Rattle.race.specs.declared.lanes.LaneState.TheVariants.{Running, Won, Lost, Cancelled, Spent, Starved}
use Rattle.race.specs.declared.lanes.Lane.{Lane}

module _ {X : Type 0} where
  pub at_get : (xs : List X) (i : ℕ) (x : X) → i < length xs → x ≡ slice_index_or xs i x → slice_get xs i ≡ Some x
  at_get [] i x h e = absurd (omega arith)
  at_get (y ∷ xs) zero x h e = ap Some (sym e)
  at_get (y ∷ xs) (suc i) x h e = at_get xs i x (omega arith) e

  pub get_within : (xs : List X) (i : ℕ) (x : X) → slice_get xs i ≡ Some x → i < length xs
  get_within [] i x e = absurd (cc)
  get_within (y ∷ xs) zero x e = omega arith
  get_within (y ∷ xs) (suc i) x e = let h = get_within xs i x e in omega arith

  pub get_past : (xs : List X) (i : ℕ) → length xs ≤ i → slice_get xs i ≡ None
  get_past [] i h = refl
  get_past (x ∷ xs) zero h = absurd (omega arith)
  get_past (x ∷ xs) (suc i) h = get_past xs i (omega arith)

  pub map_changed : {Y : Type 0} (g : X → Y) (xs : List X) (i : ℕ) (f : X → X) → ((x : X) → slice_get xs i ≡ Some x → g (f x) ≡ g x) → map g (changed xs i f) ≡ map g xs
  map_changed g [] i f h = refl
  map_changed {Y} g (x ∷ xs) zero f h = ap (λ (y : Y). y ∷ map g xs) (h x refl)
  map_changed {Y} g (x ∷ xs) (suc i) f h = ap (λ (ys : List Y). g x ∷ ys) (map_changed g xs i f h)

module _ {A : Type 0} (kind : Ghosts A) where
  abbrev Good : RaceState A → Type 0
  Good s = IsSound kind s

  abbrev Can : A → Progress → A → Type 0
  Can r p t = MayAnswer kind r p t

  abbrev Turn : ℕ → RaceState A → RaceState A → Type 0
  Turn i s t = Turned kind i s t

  abbrev Gone : List ℕ → RaceState A → RaceState A → Type 0
  Gone xs s t = Goes kind xs s t

  abbrev tasks_of : List (Lane A) → List kind.Task
  tasks_of ls = tasks kind ls

  abbrev weigh : List (Lane A) → ℕ
  weigh ls = weight kind ls

  pub word_small : (s : RaceState A) → Good s → length s.lanes ≤ 64 → s.word ≤ 64
  word_small s good few = elim good.winner [ inl z ↦ omega arith | inr w ↦ let h = get_within s.lanes w.0 w.1 w.3 in let e = w.2 in omega arith ]

  abbrev lane : ℕ → A → Option Step → LaneState → Lane A
  lane k r t c = record { number = k; racer = r; step = t; state = c }

  -- what an event keeps of a lane
  advance_task : (k : ℕ) (r : A) (t : Option Step) (c : LaneState) (p : Progress) (z : A) → (c ≡ Running → kind.task z ≡ kind.task r) → kind.task (advanced (lane k r t c) p z).racer ≡ kind.task r
  advance_task k r t Running p z h = h refl
  advance_task k r t Won p z h = refl
  advance_task k r t (Lost j) p z h = refl
  advance_task k r t (Cancelled j) p z h = refl
  advance_task k r t Spent p z h = refl
  advance_task k r t Starved p z h = refl

  look_task : (n k : ℕ) (r : A) (t : Option Step) (c : LaneState) → (looks (lane k r t c) n).racer ≡ r
  look_task n k r (Some Load) Running = refl
  look_task n k r (Some Exchange) Running = refl
  look_task n k r (Some Ended) Running = refl
  look_task n k r None Running = refl
  look_task n k r t Won = refl
  look_task n k r t (Lost j) = refl
  look_task n k r t (Cancelled j) = refl
  look_task n k r t Spent = refl
  look_task n k r t Starved = refl

  publish_task : (n k : ℕ) (r : A) (t : Option Step) (c : LaneState) → (publishes (lane k r t c) n).racer ≡ r
  publish_task n k r (Some Load) Running = refl
  publish_task n k r (Some Exchange) Running = refl
  publish_task n k r (Some Ended) Running = refl
  publish_task n k r None Running = refl
  publish_task n k r t Won = refl
  publish_task n k r t (Lost j) = refl
  publish_task n k r t (Cancelled j) = refl
  publish_task n k r t Spent = refl
  publish_task n k r t Starved = refl

  -- an event that is allowed keeps tasks and count
  pub event_keeps : (s : RaceState A) (e : Event A) → IsAllowed kind s e → (tasks_of (happens s e).lanes ≡ tasks_of s.lanes) × (length (happens s e).lanes ≡ length s.lanes)
  event_keeps s (Advances i p z) may =
      (map_changed (λ (l : Lane A). kind.task l.racer) s.lanes i (λ l. advanced l p z) (λ l at. advance_task l.number l.racer l.step l.state p z (λ c. (may l at c).task_kept)), length_changed s.lanes i (λ l. advanced l p z))
  event_keeps s (Looks i) may =
      (map_changed (λ (l : Lane A). kind.task l.racer) s.lanes i (λ l. looks l s.word) (λ l at. ap kind.task (look_task s.word l.number l.racer l.step l.state)), length_changed s.lanes i (λ l. looks l s.word))
  event_keeps s (Publishes i) may =
      (map_changed (λ (l : Lane A). kind.task l.racer) s.lanes i (λ l. publishes l s.word) (λ l at. ap kind.task (publish_task s.word l.number l.racer l.step l.state)), length_changed s.lanes i (λ l. publishes l s.word))

  pub record Held (s t : RaceState A) : Type 0 where
    pub sound : Good t
    pub kept : tasks_of t.lanes ≡ tasks_of s.lanes
    pub count : length t.lanes ≡ length s.lanes

  held_event : (s : RaceState A) (e : Event A) → Good s → IsAllowed kind s e → Held s (happens s e)
  held_event s e good may = let k = event_keeps s e may in record { sound = keeps kind s e good may; kept = k.0; count = k.1 }

  held_more : (s t u : RaceState A) → Held s t → Held t u → Held s u
  held_more s t u a b = record { sound = b.sound; kept = b.kept ∙ a.kept; count = b.count ∙ a.count }

  turn_holds : (i : ℕ) (p : Progress) (r : A) (s : RaceState A) → Good s → IsAllowed kind s (Advances i p r) → Held s (run (turn_of i p r) s)
  turn_holds i said.More r s good may = let a = held_event s (Advances i said.More r) good may in held_more s _ _ a (held_event (happens s (Advances i said.More r)) (Looks i) a.sound tt)
  turn_holds i said.Decided r s good may = let a = held_event s (Advances i said.Decided r) good may in held_more s _ _ a (held_event (happens s (Advances i said.Decided r)) (Publishes i) a.sound tt)
  turn_holds i said.Spent r s good may = held_event s (Advances i said.Spent r) good may
  turn_holds i said.NoMemory r s good may = held_event s (Advances i said.NoMemory r) good may

  -- one turn, from what the function `turn` says of the lane and of the word
  abbrev after_turn : ℕ → RaceState A → Lane A → ℕ → RaceState A
  after_turn i s m w = state_at w (slice_set s.lanes i m)

  pub publishes_load : (n k : ℕ) (r : A) (c : LaneState) → publishes (lane k r (Some Load) c) n ≡ lane k r (Some Load) c
  publishes_load n k r Running = refl
  publishes_load n k r Won = refl
  publishes_load n k r (Lost j) = refl
  publishes_load n k r (Cancelled j) = refl
  publishes_load n k r Spent = refl
  publishes_load n k r Starved = refl

  events_run : (i : ℕ) (p : Progress) (r : A) (s : RaceState A) (k : ℕ) (q : A) (t : Option Step) → slice_get s.lanes i ≡ Some (lane k q t Running)
      → run (turn_of i p r) s ≡ after_turn i s (settled (advanced (lane k q t Running) p r) s.word) (word_after (advanced (lane k q t Running) p r) i s.word)
  events_run i said.More r s k q t at =
      let adv : Lane A → Lane A = λ l. advanced l said.More r in
      let look : Lane A → Lane A = λ l. looks l s.word in
      let x : Lane A = look (adv (lane k q t Running)) in
      let same : publishes x s.word ≡ x = publishes_load s.word k r x.state in
      ap (λ (ls : List (Lane A)). state_at s.word ls) (changed_twice s.lanes i adv look ∙ changed_set s.lanes i (λ l. look (adv l)) (lane k q t Running) at ∙ ap (λ (m : Lane A). slice_set s.lanes i m) (sym same))
  events_run i said.Decided r s k q t at =
      let adv : Lane A → Lane A = λ l. advanced l said.Decided r in
      let pub_ : Lane A → Lane A = λ l. publishes l s.word in
      let here = changed_here s.lanes i adv (lane k q t Running) at in
      let ls = changed_twice s.lanes i adv pub_ ∙ changed_set s.lanes i (λ l. pub_ (adv l)) (lane k q t Running) at in
      λ j. state_at (word_at (here j) i s.word) (ls j)
  events_run i said.Spent r s k q t at = ap (λ (ls : List (Lane A)). state_at s.word ls) (changed_set s.lanes i (λ l. advanced l said.Spent r) (lane k q t Running) at)
  events_run i said.NoMemory r s k q t at = ap (λ (ls : List (Lane A)). state_at s.word ls) (changed_set s.lanes i (λ l. advanced l said.NoMemory r) (lane k q t Running) at)

  set_same : (ls : List (Lane A)) (i : ℕ) (l : Lane A) → slice_get ls i ≡ Some l → slice_set ls i l ≡ ls
  set_same [] i l e = refl
  set_same (x ∷ ls) zero l e = let h : x ≡ l = cc in ap (λ (y : Lane A). y ∷ ls) (sym h)
  set_same (x ∷ ls) (suc i) l e = ap (λ (ys : List (Lane A)). x ∷ ys) (set_same ls i l e)

  -- what `turn` says is a turn of the machine
  turn_is : (s : RaceState A) (i k : ℕ) (q : A) (t : Option Step) (c : LaneState) (m : Lane A) (w : ℕ) → slice_get s.lanes i ≡ Some (lane k q t c)
      → Turns kind i (lane k q t c) s.word m w → Turn i s (after_turn i s m w)
  turn_is s i k q t Running m w at (p, r, may, em, ew) =
      rw at (p, r, may, (λ j. after_turn i s (em j) (ew j)) ∙ sym (events_run i p r s k q t at))
  turn_is s i k q t Won m w at e = rw at ((λ j. after_turn i s (e.0 j) (e.1 j)) ∙ ap (λ (ls : List (Lane A)). state_at s.word ls) (set_same s.lanes i _ at))
  turn_is s i k q t (Lost x) m w at e = rw at ((λ j. after_turn i s (e.0 j) (e.1 j)) ∙ ap (λ (ls : List (Lane A)). state_at s.word ls) (set_same s.lanes i _ at))
  turn_is s i k q t (Cancelled x) m w at e = rw at ((λ j. after_turn i s (e.0 j) (e.1 j)) ∙ ap (λ (ls : List (Lane A)). state_at s.word ls) (set_same s.lanes i _ at))
  turn_is s i k q t Spent m w at e = rw at ((λ j. after_turn i s (e.0 j) (e.1 j)) ∙ ap (λ (ls : List (Lane A)). state_at s.word ls) (set_same s.lanes i _ at))
  turn_is s i k q t Starved m w at e = rw at ((λ j. after_turn i s (e.0 j) (e.1 j)) ∙ ap (λ (ls : List (Lane A)). state_at s.word ls) (set_same s.lanes i _ at))

  held_same : (s t : RaceState A) → t ≡ s → Good s → Held s t
  held_same s t e good = subst (λ (u : RaceState A). Held s u) (sym e) (record { sound = good; kept = refl; count = refl })

  turn_held_from : (c : LaneState) (l : Lane A) (i : ℕ) (s t : RaceState A) → c ≡ l.state → slice_get s.lanes i ≡ Some l → Good s → TurnFrom kind c l i s t → Held s t
  turn_held_from Running l i s t is at good (p, r, may, e) =
      subst (λ (u : RaceState A). Held s u) (sym e) (turn_holds i p r s good (λ x ax run. let same : l ≡ x = cc in subst (λ (y : Lane A). Can y.racer p r) same may))
  turn_held_from Won l i s t is at good e = held_same s t e good
  turn_held_from (Lost j) l i s t is at good e = held_same s t e good
  turn_held_from (Cancelled j) l i s t is at good e = held_same s t e good
  turn_held_from Spent l i s t is at good e = held_same s t e good
  turn_held_from Starved l i s t is at good e = held_same s t e good

  turn_held_at : (o : Option (Lane A)) (i : ℕ) (s t : RaceState A) → slice_get s.lanes i ≡ o → Good s → TurnAt kind o i s t → Held s t
  turn_held_at None i s t at good e = held_same s t e good
  turn_held_at (Some l) i s t at good e = turn_held_from l.state l i s t refl at good e

  gone_one : (i : ℕ) (s t : RaceState A) → Good s → Turn i s t → Gone (i ∷ []) s t
  gone_one i s t good turn = let h = turn_held_at (slice_get s.lanes i) i s t refl good turn in record { plays = (t, turn, refl); sound = h.sound; kept = h.kept; count = h.count }

  -- the function `turn` at a place of the lanes
  pub turned_here : (s : RaceState A) (i : ℕ) (l m : Lane A) (w : ℕ) → Good s → i < length s.lanes → l ≡ slice_index_or s.lanes i l → Turns kind l.number l s.word m w → Gone (i ∷ []) s (state_at w (slice_set s.lanes i m))
  turned_here s i l m w good within is turn =
      let at = at_get s.lanes i l within is in
      let n = (good.each i l at).number in
      gone_one i s _ good (turn_is s i l.number l.racer l.step l.state m w at (subst (λ (k : ℕ). Turns kind k l s.word m w) n turn))

  pub turned_nowhere : (s : RaceState A) (i : ℕ) → Good s → length s.lanes ≤ i → Gone (i ∷ []) s s
  turned_nowhere s i good past = gone_one i s s good (rw (get_past s.lanes i past) refl)

  plays_append : (xs ys : List ℕ) (s t u : RaceState A) → Plays kind xs s t → Plays kind ys t u → Plays kind (xs ++ ys) s u
  plays_append [] ys s t u a b = subst (λ (v : RaceState A). Plays kind ys v u) a b
  plays_append (x ∷ xs) ys s t u a b = (a.0, a.1, plays_append xs ys a.0 t u a.2 b)

  pub gone_on : (xs ys : List ℕ) (s t u : RaceState A) → Gone xs s t → Gone ys t u → Gone (xs ++ ys) s u
  gone_on xs ys s t u a b = record { plays = plays_append xs ys s t u a.plays b.plays; sound = b.sound; kept = b.kept ∙ a.kept; count = b.count ∙ a.count }

  pub gone_none : (s : RaceState A) → Good s → Gone [] s s
  gone_none s good = record { plays = refl; sound = good; kept = refl; count = refl }

  -- a turn of a running lane leaves it fewer
  weight_set : (ls : List (Lane A)) (i : ℕ) (l m : Lane A) → slice_get ls i ≡ Some l → weigh (slice_set ls i m) + weight_of kind l.state l.racer ≡ weigh ls + weight_of kind m.state m.racer
  weight_set [] i l m e = absurd (cc)
  weight_set (x ∷ ls) zero l m e = let h : x ≡ l = cc in let k = ap (λ (y : Lane A). weight_of kind y.state y.racer) h in omega arith
  weight_set (x ∷ ls) (suc i) l m e = let h = weight_set ls i l m e in omega arith

  lighter : (n k : ℕ) (q : A) (t : Option Step) (p : Progress) (r : A) → Can q p r → let m : Lane A = settled (advanced (lane k q t Running) p r) n in weight_of kind m.state m.racer < kind.measure q + 1
  lighter zero k q t said.More r may = let h = may.more refl in omega arith
  lighter (suc n) k q t said.More r may = rw (not_zero n) (omega arith)
  lighter zero k q t said.Decided r may = omega arith
  lighter (suc n) k q t said.Decided r may = rw (not_zero n) (omega arith)
  lighter n k q t said.Spent r may = omega arith
  lighter n k q t said.NoMemory r may = omega arith

  abbrev pub Nearer : ℕ → List (Lane A) → List (Lane A) → Bool → Type 0
  Nearer i old new b = MatchBool b (weigh new < weigh old) (EndedAt i old × (new ≡ old))

  nearer_from : (s : RaceState A) (i k : ℕ) (q : A) (t : Option Step) (c : LaneState) (m : Lane A) (w : ℕ) → slice_get s.lanes i ≡ Some (lane k q t c)
      → Turns kind i (lane k q t c) s.word m w → Nearer i s.lanes (slice_set s.lanes i m) (is_running c)
  nearer_from s i k q t Running m w at (p, r, may, em, ew) =
      let d = weight_set s.lanes i (lane k q t Running) m at in
      let h = lighter s.word k q t p r may in
      let e = ap (λ (y : Lane A). weight_of kind y.state y.racer) em in
      omega arith
  nearer_from s i k q t Won m w at e = ((λ l is. let h : lane k q t Won ≡ l = cc in rw (← h) (λ z. absurd (cc))), subst (λ (y : Lane A). slice_set s.lanes i y ≡ s.lanes) (sym e.0) (set_same s.lanes i _ at))
  nearer_from s i k q t (Lost x) m w at e = ((λ l is. let h : lane k q t (Lost x) ≡ l = cc in rw (← h) (λ z. absurd (cc))), subst (λ (y : Lane A). slice_set s.lanes i y ≡ s.lanes) (sym e.0) (set_same s.lanes i _ at))
  nearer_from s i k q t (Cancelled x) m w at e = ((λ l is. let h : lane k q t (Cancelled x) ≡ l = cc in rw (← h) (λ z. absurd (cc))), subst (λ (y : Lane A). slice_set s.lanes i y ≡ s.lanes) (sym e.0) (set_same s.lanes i _ at))
  nearer_from s i k q t Spent m w at e = ((λ l is. let h : lane k q t Spent ≡ l = cc in rw (← h) (λ z. absurd (cc))), subst (λ (y : Lane A). slice_set s.lanes i y ≡ s.lanes) (sym e.0) (set_same s.lanes i _ at))
  nearer_from s i k q t Starved m w at e = ((λ l is. let h : lane k q t Starved ≡ l = cc in rw (← h) (λ z. absurd (cc))), subst (λ (y : Lane A). slice_set s.lanes i y ≡ s.lanes) (sym e.0) (set_same s.lanes i _ at))

  pub nearer_here : (s : RaceState A) (i : ℕ) (l m : Lane A) (w : ℕ) → Good s → i < length s.lanes → l ≡ slice_index_or s.lanes i l → Turns kind l.number l s.word m w → Nearer i s.lanes (slice_set s.lanes i m) (is_running l.state)
  nearer_here s i l m w good within is turn =
      let at = at_get s.lanes i l within is in
      let n = (good.each i l at).number in
      nearer_from s i l.number l.racer l.step l.state m w at (subst (λ (k : ℕ). Turns kind k l s.word m w) n turn)

  pub ended_past : (ls : List (Lane A)) (i : ℕ) → length ls ≤ i → EndedAt i ls
  ended_past ls i past l at = absurd (let h = get_within ls i l at in omega arith)

  take_next : (xs : List ℕ) (i : ℕ) → i < length xs → take (suc i) xs ≡ take i xs ++ get_or xs i 0 ∷ []
  take_next [] i h = absurd (omega arith)
  take_next (x ∷ xs) zero h = refl
  take_next (x ∷ xs) (suc i) h = ap (λ (ys : List ℕ). x ∷ ys) (take_next xs i (omega arith))

  pub follow_next : (xs : List ℕ) (i : ℕ) (s t u : RaceState A) → i < length xs → Gone (take i xs) s t → Gone (get_or xs i 0 ∷ []) t u → Gone (take (i + 1) xs) s u
  follow_next xs i s t u h a b = rw add-one (rw (take_next xs i h) (gone_on (take i xs) (get_or xs i 0 ∷ []) s t u a b))

  pub count_next : (n : ℕ) (s t u : RaceState A) → Gone (numbers n) s t → Gone (n ∷ []) t u → Gone (numbers (n + 1)) s u
  count_next n s t u a b = rw add-one (gone_on (numbers n) (n ∷ []) s t u a b)

  abbrev pub Rounded : Bool → ℕ → List (Lane A) → List (Lane A) → Type 0
  Rounded ran i old now = MatchBool ran (weigh now < weigh old) ((now ≡ old) × ((j : ℕ) → j < i → EndedAt j old))

  -- one more turn of a round
  pub round_next : (ran moved : Bool) (i : ℕ) (old now new : List (Lane A)) → Rounded ran i old now → Nearer i now new moved → Rounded (if moved then true else ran) (i + 1) old new
  round_next true true i old now new a b = omega arith
  round_next false true i old now new a b = let e = ap weigh a.0 in omega arith
  round_next true false i old now new a b = let e = ap weigh b.1 in omega arith
  round_next false false i old now new a b = (b.1 ∙ a.0, below_more (λ j. EndedAt j old) i a.1 (subst (λ (ls : List (Lane A)). EndedAt i ls) a.0 b.0))

  pub round_end : (ran : Bool) (n w : ℕ) (old now : List (Lane A)) → length old ≤ n → Rounded ran n old now → MatchBool ran (weigh now < weigh old) (IsEnd (state_at w now))
  round_end true n w old now h a = a
  round_end false n w old now h a = λ i l at. let e = a.0 in let at' : slice_get old i ≡ Some l = subst (λ (ls : List (Lane A)). slice_get ls i ≡ Some l) e at in let k = get_within old i l at' in a.1 i (omega arith) l at'

  pub starts_sound : (ls : List (Lane A)) → Starts kind ls → Good (state_at 0 ls)
  starts_sound ls starts = record { each = λ i l at. (starts i l at).0; winner = inl refl }

  pub first_rounds : (xs : List ℕ) (n : ℕ) (s t : RaceState A) → Gone xs s t → (k : ℕ) × Gone (xs ++ rounds_of k (numbers n)) s t
  first_rounds xs n s t a = (0, subst (λ (ys : List ℕ). Gone ys s t) (sym (append-nil xs)) a)

  pub more_rounds : (xs : List ℕ) (n : ℕ) (s t u : RaceState A) → ((k : ℕ) × Gone (xs ++ rounds_of k (numbers n)) s t) → Gone (numbers n) t u → (k : ℕ) × Gone (xs ++ rounds_of k (numbers n)) s u
  more_rounds xs n s t u a b = (suc a.0, rw (← append_assoc) (gone_on (xs ++ rounds_of a.0 (numbers n)) (numbers n) s t u a.1 b))

  abbrev pub Rounds : List ℕ → RaceState A → RaceState A → Type 0
  Rounds xs s t = (k : ℕ) × Gone (xs ++ rounds_of k (numbers (length s.lanes))) s t

  pub play_more : (xs : List ℕ) (s t u : RaceState A) → Rounds xs s t → Gone (numbers (length t.lanes)) t u → Rounds xs s u
  play_more xs s t u a b = more_rounds xs (length s.lanes) s t u a (subst (λ (n : ℕ). Gone (numbers n) t u) a.1.count b)

  pub play_few : (xs : List ℕ) (s t : RaceState A) → Rounds xs s t → length s.lanes ≤ 64 → t.word ≤ 64
  play_few xs s t a few = let e = a.1.count in word_small t a.1.sound (omega arith)

  pub play_ends : (xs : List ℕ) (s : RaceState A) (w : ℕ) (ls : List (Lane A)) (o : Outcome) → Rounds xs s (state_at w ls) → IsEnd (state_at w ls) → o ≡ outcome_of (state_at w ls)
      → (k : ℕ) × (n : ℕ) × Gone (xs ++ rounds_of k (numbers (length s.lanes))) s (state_at n ls) × IsEnd (state_at n ls) × (o ≡ outcome_of (state_at n ls))
  play_ends xs s w ls o a e is = (a.0, w, a.1, e, is)

  pub play_as : (xs : List ℕ) (s : RaceState A) (w : ℕ) (ls : List (Lane A)) (o : Outcome) → Rounds xs s (state_at w ls) → IsEnd (state_at w ls) → o ≡ outcome_of (state_at w ls) → EndsAs kind s.lanes o ls
  play_as xs s w ls o a e is = record { word = w; sound = a.1.sound; ended = e; outcome_is = is; kept = a.1.kept; count = a.1.count }
