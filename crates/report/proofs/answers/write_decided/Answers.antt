use Rattle.std.proofs.Common.{◌≡◌, Bool, true, Some, IfSome, refl, sym, ◌∙◌, ap, subst}
use Rattle.congruence.specs.declared.solving.Verdict.{Verdict}
use Rattle.congruence.specs.declared.solving.Verdict.TheVariants.{Known}
use Rattle.congruence.specs.Verdicts.{IsVerdictOf}
use Rattle.report_lines.specs.Lines.{undecided_line}
use Rattle.report_lines.proofs.ResultLaws.{of_each}
use Rattle.report.specs.declared.answers.Answered.TheVariants as answered
use Rattle.query_answers.specs.declared.awaited.Awaited.TheVariants.{Decision}
use Rattle.report.proofs.AnswerBytes.{comes_about, defined_told, left_undecided, line_told}
use Rattle.report.proofs.KeptLaws.{known_stays, none_told, same_found, same_kept, same_known, told_with}
use Rattle.report.proofs.answers.write_decided.Goals as goal

pub write_solved-written-requires-clause-solved : goal.write_solved-written-requires-clause-solved
write_solved-written-requires-clause-solved g c =
    let is = c.in-Some-Known.is ∙ ap (λ (v : Verdict). Some v) c.in-Some-Known.field-0-is in
    (subst (λ v. IfSome v (IsVerdictOf c.args.problem.now c.args.state.now.budgets)) is c.requires.kept.verdict).1

pub returns-in-Some-Known : goal.returns-in-Some-Known
returns-in-Some-Known g c =
    let p = c.args.problem.now in
    let state = c.args.state.now in
    let same = same_known state.verdict c.in-Some-Known.field-0 c.in-Some-Known.solved c.write_solved-written.new.solved c.in-Some-Known.is c.in-Some-Known.field-0-is c.write_solved-written.ensures.kept in
    let solved = c.write_solved-written.ensures in
    let kept = same_kept p state (Some (Known c.write_solved-written.new.solved)) c.write_solved-written.new.elements same c.requires.kept solved.known in
    record {
      kept = kept;
      settings = record { budgets = refl; classes = refl; workers = refl };
      stays = same_found state (Some (Known c.write_solved-written.new.solved)) c.write_solved-written.new.elements same solved.keeps;
      found = of_each c.and.result (λ _. ◌≡◌ {A = Bool} true true) (λ _. refl);
      elements = told_with c.write_solved-written.result c.and.result c.args.query.now c.write_solved-written.new.elements c.and.ensures solved.found;
      written = defined_told g.O.Sink p state.budgets state.classes c.args.query.now c.args.sink.now c.write_solved-written.new.sink
          (comes_about p state.budgets c.args.query.now Decision c.requires.waits kept.verdict.0) c.classes-bound.result c.classes-bound.ensures c.write_solved-written.result c.and.result c.and.ensures solved.written;
    }

pub returns-in-Some-Undecided : goal.returns-in-Some-Undecided
returns-in-Some-Undecided g c =
    let p = c.args.problem.now in
    let state = c.args.state.now in
    let same = c.in-Some-Undecided.is ∙ ap (λ (v : Verdict). Some v) c.in-Some-Undecided.field-0-is in
    let verdict = subst (λ v. IfSome v (IsVerdictOf p state.budgets)) same c.requires.kept.verdict in
    record {
      kept = same_kept p state (Some c.in-Some-Undecided.field-0) state.elements (sym c.in-Some-Undecided.is) c.requires.kept c.requires.kept.elements;
      settings = record { budgets = refl; classes = refl; workers = refl };
      stays = same_found state (Some c.in-Some-Undecided.field-0) state.elements (sym c.in-Some-Undecided.is) (known_stays state.elements);
      found = of_each c.and-in-Some-Undecided.result (λ _. ◌≡◌ {A = Bool} true true) (λ _. refl);
      elements = none_told c.write_all.result c.and-in-Some-Undecided.result c.args.query.now state.elements c.and-in-Some-Undecided.ensures;
      written = line_told g.O.Sink p state.budgets state.classes c.args.query.now c.args.sink.now c.write_all.new.sink answered.Undecided undecided_line
          (left_undecided p state.budgets state.classes c.args.query.now Decision c.requires.waits verdict.0) c.write_all.result c.and-in-Some-Undecided.result c.and-in-Some-Undecided.ensures c.write_all.ensures.bytes;
    }
