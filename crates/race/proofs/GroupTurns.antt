-- Turns of a group of seated lanes: each lane keeps its number and its task, and the turns end.
use Rattle.race.specs.declared.engines.Racer.{Ghosts}
use Rattle.std.proofs.Common.{below_more, ◌≡◌, ◌≢◌, ℕ, zero, suc, ◌+◌, ◌<◌, ◌≤◌, Bool, true, false, List, [], ◌∷◌, length, get_or, set, refl, sym, ap, ◌∙◌, subst, arith}
use Rattle.std.specs.Prelude.{MatchBool}
use Rattle.std.specs.List.{AllZip}
use Rattle.std.proofs.lemmas.List.{get_or_read, set-get_or}
use Rattle.std.proofs.lemmas.List.Elements.{AllZip-get_or, length_all_zip}
use Rattle.workers.proofs.Zips.{zip_from_each, zip_get, zip_again}
use Rattle.atomic_table.specs.Seated.{TableId}
use Rattle.race.specs.Lanes.{is_running}
use Rattle.race.specs.SeatedLane.{IsSeated, TookTurns, TookAllTurns, AreSeated, NoneRuns, turns_left, turns_left_of}
use Rattle.race.specs.declared.lanes.LaneState.TheVariants.{Running}
use Rattle.race.specs.declared.seated_lane.SeatedLane.{SeatedLane}

module _ {A : Type 0} (kind : Ghosts A) where
  abbrev Runs : TableId → SeatedLane A → SeatedLane A → Type 0
  Runs z s t = TookTurns kind z s t

  abbrev Left : List (SeatedLane A) → ℕ
  Left ts = turns_left kind ts

  abbrev one_left : SeatedLane A → ℕ
  one_left t = turns_left_of kind t

  abbrev NotAt : ℕ → List (SeatedLane A) → Type 0
  NotAt j ts = (d : SeatedLane A) → (get_or ts j d).lane.state ≢ Running

  -- a round so far
  abbrev pub Passed : Bool → ℕ → List (SeatedLane A) → List (SeatedLane A) → Type 0
  Passed ran i old now = MatchBool ran (Left now < Left old) ((now ≡ old) × ((j : ℕ) → j < i → NotAt j old))

  left_set : (ts : List (SeatedLane A)) (i : ℕ) (t u : SeatedLane A) → i < length ts → t ≡ get_or ts i t → Left (set ts i u) + one_left t ≡ Left ts + one_left u
  left_set [] i t u low at = absurd (omega (arith, low))
  left_set (x ∷ ts) zero t u low at = omega (arith, ap one_left at)
  left_set (x ∷ ts) (suc i) t u low at = omega (arith, left_set ts i t u (omega (arith, low)) at)

  sits_on : (z : TableId) (s t u : SeatedLane A) → Runs z s t → Runs z t u → Runs z s u
  sits_on z s t u a b = record { seated = b.seated; number = b.number ∙ a.number; kept = b.kept ∙ a.kept }

  pub sits_here : (z : TableId) (old now : List (SeatedLane A)) (i : ℕ) (t : SeatedLane A) → AllZip (Runs z) old now → i < length now → t ≡ get_or now i t → IsSeated kind z t
  sits_here z old now i t e low at = subst (IsSeated kind z) (sym at) (zip_get (Runs z) old now i t e low).seated

  -- the round after one lane, where it ran and where it did not
  pub pass_then : (z : TableId) (old now new : List (SeatedLane A)) (i : ℕ) (t u : SeatedLane A) (ran b : Bool) → AllZip (Runs z) old now × Passed ran i old now → i < length now → t ≡ get_or now i t
      → Runs z t u → one_left u < one_left t → new ≡ set now i u → b ≡ true → AllZip (Runs z) old new × Passed b (i + 1) old new
  pass_then z old now new i t u ran b p low at run less e f =
      rw (e, f) (zip_again (Runs z) old now i t u p.0 low at (λ s r. sits_on z s t u r run), fewer ran p.1)
    where
      fewer : (c : Bool) → Passed c i old now → Left (set now i u) < Left old
      fewer true q = omega (arith, left_set now i t u low at, less, q)
      fewer false q = omega (arith, left_set now i t u low at, less, ap Left q.0)

  pub pass_else : (z : TableId) (old now new : List (SeatedLane A)) (i : ℕ) (t : SeatedLane A) (ran b q : Bool) → AllZip (Runs z) old now × Passed ran i old now → i < length now → t ≡ get_or now i t
      → q ≡ is_running t.lane.state → q ≡ false → new ≡ set now i t → b ≡ ran → AllZip (Runs z) old new × Passed b (i + 1) old new
  pass_else z old now new i t ran b q p low at qe qf e f =
      let same : new ≡ now = e ∙ ap (set now i) at ∙ set-get_or now i t in
      rw (same, f) (p.0, idle ran p.1)
    where
      not_running : t.lane.state ≢ Running
      not_running h = let k : is_running t.lane.state ≡ true = rw h refl in absurd (cc)

      idle : (c : Bool) → Passed c i old now → Passed c (i + 1) old now
      idle true p = p
      idle false p = (p.0, below_more (λ j. NotAt j old) i p.1 (λ d. subst (λ (v : SeatedLane A). v.lane.state ≢ Running) (get_or_read now i t low at d ∙ ap (λ ts. get_or ts i d) p.0) not_running))

  pub runs_same : (z : TableId) (ts : List (SeatedLane A)) → AreSeated kind z ts → AllZip (Runs z) ts ts
  runs_same z ts sits = zip_from_each (Runs z) ts ts refl (λ i d low. record { seated = sits i d low; number = refl; kept = refl })

  pub pass_end : (ran : Bool) (n : ℕ) (old now : List (SeatedLane A)) → length now ≤ n → Passed ran n old now → MatchBool ran (Left now < Left old) (NoneRuns kind now)
  pass_end true n old now h p = p
  pass_end false n old now h p = λ i d low. subst (λ (ts : List (SeatedLane A)). (get_or ts i d).lane.state ≢ Running) (sym p.0) (p.1 i (omega (arith, low, h)) d)

  pub all_sit : (z : TableId) (old now : List (SeatedLane A)) → AllZip (Runs z) old now → AreSeated kind z now
  all_sit z old now e i d low = (zip_get (Runs z) old now i d e low).seated

  pub runs_on : (z : TableId) (xs ys zs : List (SeatedLane A)) → AllZip (Runs z) xs ys → AllZip (Runs z) ys zs → AllZip (Runs z) xs zs
  runs_on z xs ys zs a b =
      let m = length_all_zip (Runs z) xs ys a in
      let n = length_all_zip (Runs z) ys zs b in
      zip_from_each (Runs z) xs zs (omega (arith, m, n)) (λ i d low. sits_on z (get_or xs i d) (get_or ys i d) (get_or zs i d) (AllZip-get_or (Runs z) xs ys i d d a low) (AllZip-get_or (Runs z) ys zs i d d b (omega (arith, low, m))))

  pub ran_out : (z : TableId) (old now : List (SeatedLane A)) → AllZip (Runs z) old now → NoneRuns kind now → AllZip (TookAllTurns kind z) old now
  ran_out z old now e none =
      let m = length_all_zip (Runs z) old now e in
      zip_from_each (TookAllTurns kind z) old now (sym m) (λ i d low. record { ran = AllZip-get_or (Runs z) old now i d d e low; ended = none i d (omega (arith, low, m)) })
