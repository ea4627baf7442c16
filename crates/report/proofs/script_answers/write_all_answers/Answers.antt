use Rattle.std.proofs.Common.{◌≡◌, ℕ, ◌+◌, ◌<◌, List, [], ◌∷◌, ◌++◌, Bool, ◌||◌, ◌∙◌, sym, ap, subst, length, take, drop, get_or, Ok, Err, arith}
use Rattle.std.proofs.lemmas.List.{take_all, take_more, take-append-drop}
use Rattle.query_lang.specs.declared.script.Query.{Query}
use Rattle.ports.proofs.WriteLemmas.{handed_on}
use Rattle.report.specs.declared.bounds.Bounds.{Bounds}
use Rattle.report.specs.Answers.{WritesLines, state_bounds}
use Rattle.report.proofs.AnswersLaws.{more_written, more_begun, none_written, same_bounds, settings_same, settings_stay}
use Rattle.report.proofs.script_answers.write_all_answers.Goals as goal

-- those before a place, and the one at it
next : (queries : List Query) (i : ℕ) (q : Query) → q ≡ get_or queries i q → i < length queries → take i queries ++ q ∷ [] ≡ take (i + 1) queries
next queries i q e h = ap (λ x. take i queries ++ x ∷ []) e ∙ sym (take_more queries i q h)

pub loop-query-init : goal.loop-query-init
loop-query-init g c = record {
  kept = c.requires.kept;
  settings = settings_same c.args.state.now;
  written = none_written (state_bounds c.args.state.now) c.args.script.now.problem g.O.Sink c.args.out.now;
}

pub write_one-requires-clause-workers : goal.write_one-requires-clause-workers
write_one-requires-clause-workers g c = omega (arith, c.loop-query.invariant.settings.workers, c.requires.workers)

pub returns-in_err-undecided : goal.returns-in_err-undecided
returns-in_err-undecided g c =
    let queries : List Query = c.queries-query-items.result.now in
    let i : ℕ = c.loop-query.query-index in
    let q : Query = c.query-item.result in
    let bounds : Bounds = state_bounds c.args.state.now in
    let all : (take i queries ++ q ∷ []) ++ drop (i + 1) queries ≡ c.args.script.now.queries =
    ap (λ front. front ++ drop (i + 1) queries) (next queries i q c.query-item.is c.loop-query-test.true) ∙ take-append-drop (i + 1) queries ∙ c.queries-query-items.ensures.queries in
    let begun = subst (λ b. WritesLines g.O.Sink b c.args.script.now.problem (q ∷ []) c.loop-query.out c.write_one.new.out (Err c.in_err-undecided.field-0.0)) (same_bounds _ _ c.loop-query.invariant.settings) c.in_err-undecided.ensures.written in
    handed_on g.O.Sink _ _ _ _ c.from_residual.ensures.1
    (subst (λ qs. WritesLines g.O.Sink bounds c.args.script.now.problem qs c.args.out.now c.write_one.new.out (Err c.in_err-undecided.field-0.0)) all
    (more_begun bounds c.args.script.now.problem g.O.Sink (take i queries) (q ∷ []) c.loop-query.undecided _ c.loop-query.out _ c.loop-query.invariant.written (drop (i + 1) queries) _ begun))

pub loop-query-preserved : goal.loop-query-preserved
loop-query-preserved g c =
    let queries : List Query = c.queries-query-items.result.now in
    let i : ℕ = c.loop-query.query-index in
    let q : Query = c.query-item.result in
    let v : Bool = c.in_ok-undecided.field-0 in
    let bounds : Bounds = state_bounds c.args.state.now in
    let here = subst (λ b. WritesLines g.O.Sink b c.args.script.now.problem (q ∷ []) c.loop-query.out c.write_one.new.out (Ok v)) (same_bounds _ _ c.loop-query.invariant.settings) c.in_ok-undecided.ensures.written in
    record {
      kept = c.in_ok-undecided.ensures.kept;
      settings = settings_stay _ _ _ c.loop-query.invariant.settings c.in_ok-undecided.ensures.settings;
      written = subst (λ qs. WritesLines g.O.Sink bounds c.args.script.now.problem qs c.args.out.now c.write_one.new.out (Ok (c.loop-query.undecided || v))) (next queries i q c.query-item.is c.loop-query-test.true)
          (more_written bounds c.args.script.now.problem g.O.Sink (take i queries) (q ∷ []) c.loop-query.undecided _ c.loop-query.out _ c.loop-query.invariant.written v here);
    }

pub returns : goal.returns
returns g c =
    let queries : List Query = c.queries-query-items.result.now in
    let all : take c.loop-query.query-index queries ≡ c.args.script.now.queries = take_all c.loop-query.query-index queries (omega (arith, c.loop-query-test.false)) ∙ c.queries-query-items.ensures.queries in
    subst (λ qs. WritesLines g.O.Sink (state_bounds c.args.state.now) c.args.script.now.problem qs c.args.out.now c.loop-query.out (Ok c.loop-query.undecided)) all c.loop-query.invariant.written
