use Rattle.std.proofs.Common.{◌≡◌, ◌∙◌, OnOk, refl, subst, subst₂, sym}
use Rattle.ports.specs.Writes.{Writes}
use Rattle.ports.proofs.WriteLemmas.{handed_on, refused}
use Rattle.problem.specs.declared.kinds.Problem.{Problem}
use Rattle.report_lines.specs.LineBytes.{AreBytesOf}
use Rattle.report_lines.proofs.ResultLaws.{of_each}
use Rattle.report.specs.declared.answers.Answered.{Answered}
use Rattle.report.specs.declared.answers.Answered.TheVariants.{Defined}
use Rattle.query_answers.specs.declared.awaited.Awaited.{Awaited}
use Rattle.query_answers.specs.declared.awaited.Awaited.TheVariants.{Nothing, Log}
use Rattle.query_answers.specs.Answer.{AreLines, awaited_by}
use Rattle.report.specs.Gains.{AreAnswerBytes}
use Rattle.report.specs.Kept.{HasElements, HasFound, KeepsOf}
use Rattle.report.proofs.AnswersLaws.{settings_same, settings_stay}
use Rattle.report.proofs.AnswerBytes.{comes_about, defined_told}
use Rattle.report.proofs.KeptLaws.{found_goes_on, found_stays}
use Rattle.report.proofs.NeedLaws.{needs_none}
use Rattle.report.proofs.answers.write_answer.Goals as goal

pub returns-in-Nothing : goal.returns-in-Nothing
returns-in-Nothing g c =
    let p : Problem = c.args.script.now.problem in
    let state = c.args.state.now in
    let query = c.args.query.now in
    let waits : awaited_by query ≡ Nothing = sym c.awaited_by.ensures ∙ c.in-Nothing.is in
    record {
      kept = c.requires.kept;
      settings = settings_same state;
      stays = found_stays state;
      found = of_each c.and.result (λ _. HasFound (awaited_by query) state) (λ _. subst (λ (a : Awaited). HasFound a state) (sym waits) tt);
      elements = of_each c.and.result (λ (answered : Answered). answered ≡ Defined → HasElements query state.elements) (λ _ _. needs_none query Nothing waits (λ e. cc) state.elements);
      written = defined_told g.O.Sink p state.budgets state.classes query c.args.sink.now c.write_told.new.sink (comes_about p state.budgets query Nothing waits tt) state.classes refl c.write_told.result c.and.result c.and.ensures
          (subst (λ r. Writes g.O.Sink (λ _. AreBytesOf (AreLines r state.classes query)) c.args.sink.now c.write_told.new.sink c.write_told.result) c.problem-problem.ensures.problem (c.write_told.ensures state.classes));
    }

pub returns-in_err-decide-in-Decision-clause-kept : goal.returns-in_err-decide-in-Decision-clause-kept
returns-in_err-decide-in-Decision-clause-kept g c = subst (λ p. KeepsOf p c.decide.new.self) c.problem-problem.ensures.problem c.decide.ensures.kept

pub returns-in_err-decide-in-Decision-clause-written : goal.returns-in_err-decide-in-Decision-clause-written
returns-in_err-decide-in-Decision-clause-written g c = handed_on g.O.Sink _ _ _ _ c.from_residual.ensures.1 (refused g.O.Sink c.args.sink.now)

pub returns-in_ok-decide-in-Decision : goal.returns-in_ok-decide-in-Decision
returns-in_ok-decide-in-Decision g c =
    let query = c.args.query.now in
    let decided = c.in_ok-decide-in-Decision.ensures in
    let told = c.write_decided.ensures in
    let waits : awaited_by query ≡ c.awaited_by.result = sym c.awaited_by.ensures in
    record {
      kept = subst (λ p. KeepsOf p c.write_decided.new.state) c.problem-problem.ensures.problem told.kept;
      settings = settings_stay c.args.state.now c.decide.new.self c.write_decided.new.state decided.settings told.settings;
      stays = found_goes_on c.args.state.now c.decide.new.self c.write_decided.new.state decided.stays told.stays;
      found = subst (λ (a : Awaited). OnOk c.write_decided.result (HasFound a c.write_decided.new.state)) (sym (waits ∙ c.in-Decision.is)) told.found;
      elements = told.elements;
      written = subst₂ (λ budgets bound. Writes g.O.Sink (AreAnswerBytes c.args.script.now.problem budgets bound query) c.args.sink.now c.write_decided.new.sink c.write_decided.result) decided.settings.budgets decided.settings.classes
          (subst (λ p. Writes g.O.Sink (AreAnswerBytes p c.decide.new.self.budgets c.decide.new.self.classes query) c.args.sink.now c.write_decided.new.sink c.write_decided.result) c.problem-problem.ensures.problem told.written);
    }

pub returns-in_err-complete-in-Log-clause-kept : goal.returns-in_err-complete-in-Log-clause-kept
returns-in_err-complete-in-Log-clause-kept g c = subst (λ p. KeepsOf p c.complete.new.self) c.problem-problem.ensures.problem c.complete.ensures.kept

pub returns-in_err-complete-in-Log-clause-written : goal.returns-in_err-complete-in-Log-clause-written
returns-in_err-complete-in-Log-clause-written g c = handed_on g.O.Sink _ _ _ _ c.from_residual-in_err-complete-in-Log.ensures.1 (refused g.O.Sink c.args.sink.now)

pub returns-in_ok-complete-in-Log : goal.returns-in_ok-complete-in-Log
returns-in_ok-complete-in-Log g c =
    let query = c.args.query.now in
    let state = c.complete.new.self in
    let completed = c.in_ok-complete-in-Log.ensures in
    let waits : awaited_by query ≡ Log = sym c.awaited_by.ensures ∙ c.in-Log.is in
    record {
      kept = subst (λ p. KeepsOf p state) c.problem-problem.ensures.problem completed.kept;
      settings = completed.settings;
      stays = completed.stays;
      found = of_each c.write_completed.result (λ _. HasFound (awaited_by query) state) (λ _. subst (λ (a : Awaited). HasFound a state) (sym waits) completed.found);
      elements = of_each c.write_completed.result (λ (answered : Answered). answered ≡ Defined → HasElements query state.elements) (λ _ _. needs_none query Log waits (λ e. cc) state.elements);
      written = subst₂ (λ budgets bound. Writes g.O.Sink (AreAnswerBytes c.args.script.now.problem budgets bound query) c.args.sink.now c.write_completed.new.sink c.write_completed.result) completed.settings.budgets completed.settings.classes
          (subst (λ p. Writes g.O.Sink (AreAnswerBytes p state.budgets state.classes query) c.args.sink.now c.write_completed.new.sink c.write_completed.result) c.problem-problem.ensures.problem c.write_completed.ensures);
    }
