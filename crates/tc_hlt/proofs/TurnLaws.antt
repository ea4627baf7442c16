-- What a turn leaves.
use Rattle.std.proofs.Common.{◌≡◌, ◌↔◌, ◌⊎◌, IsTrue, length, ℕ, ◌+◌, ◌≤◌, refl, sym, ◌∙◌, ap, arith, inl, inr, Option, Some, None, subst, Bool, true, false, cond, nat_lt, min, Result, Ok, Err}
use Rattle.std.specs.Result.{IfOk, OnOk}
use Rattle.std.specs.Bool.{then_some}
use Rattle.std.specs.Option.{is_some, unwrap_or, MatchOption, IfSome}
use Rattle.std.proofs.lemmas.Bool.{cases_lt}
use Rattle.race.specs.declared.engines.Progress.{Progress}
use Rattle.race.specs.declared.engines.Progress.TheVariants.{More}
use Rattle.theory.specs.Congruence.{Congruence}
use Rattle.theory.specs.Facts.{AllDefined}
use Rattle.theory.specs.Graph.{Graph, SameEnd}
use Rattle.theory.specs.Hlt.{HltFacts, HltEnds, AllMet, HasEnded, has_lookahead}
use Rattle.theory.proofs.HltLaws.{hlt_ended_defined, hlt_stage_length}
use Rattle.coincidence.specs.Marks.{AllMarked, IsFirstUnmarked}
use Rattle.coincidence.specs.Table.{CosetTable, IsTable}
use Rattle.coset_enumeration.specs.Enumeration.{IsTold, answer_of, run_of}
use Rattle.coset_enumeration.proofs.TurnLaws.{lt_true, lt_false, told_done, told_more}
use Rattle.tc_hlt.specs.Stage.{IsAtStage, IsAtEnd, HasRows, IsReady, IsWhole, Stands, IsTurn, TellsNext, IsRun}
use Rattle.tc_hlt.proofs.RowLaws.{met_same, ready_ends}

pub at_stage : (t : CosetTable) (made : ℕ) → HasRows t made → IsAtStage t.congruence made t.graph
at_stage t made rows = record { words = rows.words; stage = rows.stage; shows = rows.shows }

-- where each node has a mark, each defined word is met
pub all_met : (t : CosetTable) (made : ℕ) → (rows : HasRows t made) → AllMarked t.graph t.marked → AllMet t.congruence rows.words
all_met t made rows all w defined =
    let at = (rows.shows w w).1 defined in
    (met_same t.graph (HltFacts t.congruence rows.words) rows.words w rows.shows).0 ((rows.marks w at.0 at.1).0 (all w at.0 at.1))

-- where a lookahead has found a path for each word, all words are defined
all_whole : (t : CosetTable) (made : ℕ) (rows : HasRows t made) → IsWhole t made
    → IsTrue (has_lookahead (length rows.words)) × AllDefined t.congruence.presentation.letters (HltFacts t.congruence rows.words)
all_whole t made rows whole = (subst (λ n. IsTrue (has_lookahead n)) (sym (hlt_stage_length t.congruence rows.stage)) whole.0, λ w over. (rows.shows w w).0 (whole.1 w over))

-- so the strategy has ended
has_ended : (t : CosetTable) (made : ℕ) (rows : HasRows t made) → AllMarked t.graph t.marked ⊎ IsWhole t made → HasEnded t.congruence rows.words
has_ended t made rows (inl all) = inl (all_met t made rows all)
has_ended t made rows (inr whole) = inr (all_whole t made rows whole)

pub ends_at : (t : CosetTable) (budget made : ℕ) → HasRows t made → made ≤ budget → AllMarked t.graph t.marked ⊎ IsWhole t made → HltEnds t.congruence budget
ends_at t budget made rows within last = record { count = made; within = within; words = rows.words; stage = rows.stage; ended = has_ended t made rows last }

pub at_end : (t : CosetTable) (made : ℕ) → HasRows t made → AllMarked t.graph t.marked ⊎ IsWhole t made → IsAtEnd t.congruence made t.graph
at_end t made rows last = record { words = rows.words; stage = (rows.stage, has_ended t made rows last); shows = rows.shows }

-- where there is a next row and the budget is used up, the strategy does not end
pub fails_at : (t : CosetTable) (budget made node : ℕ) → IsReady t made node → made ≡ budget → HltEnds t.congruence budget → ⊥
fails_at t budget made node ready e ends = ready_ends t made node ready (subst (λ m. HltEnds t.congruence m) (sym e) ends)

-- where the strategy has ended all words have a path
pub end_defines : (c : Congruence) (i : ℕ) (g : Graph) → IsAtEnd c i g → AllDefined c.presentation.letters (SameEnd g)
end_defines c i g at w over = (at.shows w w).1 (hlt_ended_defined c at.words at.stage.1 w over)

-- the rows made after a turn
pub rows_counted : (made budget made' : ℕ) → made ≤ budget → made' ≡ min (made + 1) budget → made + cond (nat_lt made budget) 1 0 ≡ made'
rows_counted made budget made' within count = elim (cases_lt made budget) [
  | inl less ↦ ap (λ b. made + cond b 1 0) (lt_true made budget less) ∙ omega (arith, less, count)
  | inr more ↦ ap (λ b. made + cond b 1 0) (lt_false made budget more) ∙ omega (arith, more, within, count)
]

-- a turn of an enumeration that goes on
module _ (new : CosetTable) (c : Congruence) (budget made : ℕ) (table : IsTable new) (same : c ≡ new.congruence) (rows : HasRows new made) (within : made ≤ budget) where
  pub run_after : (next : Option ℕ) (said : Progress)
      → TellsNext new made next → said ≡ answer_of (is_some next) made budget → IsRun new c (unwrap_or next 0) (run_of new budget made true said)
  run_after next said found e = record { table = table; congruence = same; told = told next found e }
    where
      told : (next : Option ℕ) → TellsNext new made next → said ≡ answer_of (is_some next) made budget
          → IsTold (HltEnds new.congruence budget) (IsAtEnd new.congruence made new.graph) (IsAtStage new.congruence made new.graph) (Stands new true made (unwrap_or next 0)) (run_of new budget made true said)
      told None last e = told_done (run_of new budget made true said) refl (at_stage new made rows) within e (ends_at new budget made rows within last) (at_end new made rows last)
      told (Some node) first e =
          let ready : IsReady new made node = record { rows = rows; first = first.0; unended = first.1 } in
          told_more (run_of new budget made true said) refl (at_stage new made rows) within e (λ less. ready) (λ all. fails_at new budget made node ready all)

-- what is told of a table that stays as it was, and has not ended by a lookahead
pub next_same : {X : Type 0} (r : Result (Option ℕ) X) (old new : CosetTable) (made : ℕ) (whole : Bool) → whole ≡ false
    → IsTrue whole ↔ IsWhole old made → OnOk r (new ≡ old)
    → IfOk r (λ next. MatchOption next (AllMarked old.graph old.marked) (IsFirstUnmarked old.graph old.marked)) → IfOk r (TellsNext new made)
next_same (Ok None) old new made whole none is e found = subst (λ (t : CosetTable). TellsNext t made None) (sym e) (inl found)
next_same (Ok (Some node)) old new made whole none is e found =
    subst (λ (t : CosetTable). TellsNext t made (Some node)) (sym e)
    (found, λ w. let bad : whole ≡ true = is.1 w in let both : true ≡ false = sym bad ∙ none in cc)
next_same (Err f) old new made whole none is e found = tt

-- a turn stands for one more row within the budget
pub turn_of : (old : CosetTable) (c : Congruence) (budget made made' : ℕ) (begun : Bool) (next : ℕ) (row : Option ℕ)
    → IsRun old c next (run_of old budget made begun More) → row ≡ then_some (nat_lt made budget) next
    → made' ≡ min (made + 1) budget → IsTurn old begun row made'
turn_of old c budget made made' begun next row run is count = record {
  before = made;
  next = next;
  stands = run.told.due refl;
  is = subst (λ (r : Option ℕ). IfSome r (λ node. node ≡ next)) (sym is) (at (nat_lt made budget));
  count = sym (rows_counted made budget made' (run.told.within (λ d. let bad : ⊥ = cc in bad)) count)
      ∙ ap (λ b. made + cond b 1 0) (sym (ap is_some is ∙ due (nat_lt made budget)));
}
  where
    at : (b : Bool) → IfSome (then_some b next) (λ node. node ≡ next)
    at true = refl
    at false = tt

    due : (b : Bool) → is_some (then_some b next) ≡ b
    due true = refl
    due false = refl

-- once it has begun
pub turn_begun : (old new : CosetTable) (begun : Bool) (row : Option ℕ) (made : ℕ)
    → ((m node : ℕ) → Stands old begun m node → IsReady new m node) → IsTurn old begun row made → IsTurn new true row made
turn_begun old new begun row made ready turn = record {
  before = turn.before;
  next = turn.next;
  stands = ready turn.before turn.next turn.stands;
  is = turn.is;
  count = turn.count;
}

-- the row that is due
pub row_ready : (t : CosetTable) (node made : ℕ) → (turn : IsTurn t true (Some node) made) → IsReady t turn.before node
row_ready t node made turn = subst (λ n. IsReady t turn.before n) (sym turn.is) turn.stands

-- where none is due, the rows are there
pub none_ready : (t : CosetTable) (made : ℕ) → (turn : IsTurn t true None made) → IsReady t made turn.next
none_ready t made turn = let e : turn.before ≡ made = omega (arith, turn.count) in subst (λ m. IsReady t m turn.next) e turn.stands

-- a turn of an enumeration that goes on leaves what it says
pub turn_after : (old new : CosetTable) (c : Congruence) (budget made made' : ℕ) (begun : Bool) (node : ℕ) (next : Option ℕ) (said : Progress)
    → IsRun old c node (run_of old budget made begun More) → IsTable new → new.congruence ≡ old.congruence → HasRows new made'
    → made' ≡ min (made + 1) budget → TellsNext new made' next → said ≡ answer_of (is_some next) made' budget
    → IsRun new c (unwrap_or next 0) (run_of new budget made' true said)
turn_after old new c budget made made' begun node next said run table same rows count found e =
    run_after new c budget made' table (run.congruence ∙ sym same) rows (omega (arith, count)) next said found e
