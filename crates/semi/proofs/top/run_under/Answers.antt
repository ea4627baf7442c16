use Rattle.std.proofs.Common.{◌≤◌, ap, arith, inl, refl, subst, sym, Bool, Err, Result}
use Rattle.semi.specs.Ends.{EndsUnder}
use Rattle.run_parts.specs.Made.{input_of}
use Rattle.run_parts.specs.Status.{status_of}
use Rattle.run_parts.specs.declared.fault.Fault.{Fault}
use Rattle.semi.proofs.ReportLemmas.{report_gained}
use Rattle.semi.proofs.RunLaws.{broken_off, passed_on}
use Rattle.semi.proofs.top.run_under.Goals as goal

pub returns-in_err-script : goal.returns-in_err-script
returns-in_err-script g c =
    let told = c.in_err-script.ensures in
    passed_on (λ (r : Result Bool Fault). EndsUnder g.S.Source g.O.Sink c.args.source.now c.choose_script.new.source c.args.out.now c.args.out.now c.args.settings r) _ _ c.from_residual.ensures.1
    (record {
      refused = told.refused;
      accepted = λ e. told.only.0 (ap Err e);
      read = λ e. told.read (ap Err e);
      write = λ e. absurd (told.only.1 (ap Err e));
      beginning = λ e. absurd (told.only.1 (ap Err e));
      memory = λ e. inl refl;
      untouched = λ few. refl;
      taken = told.taken;
      still = told.quiet_refused;
      made = told.made;
      made_fault = λ made. subst (λ (f : Fault). 5 ≤ status_of f) (sym (told.made_fault made)) (omega arith);
    })

pub returns-in_err-written : goal.returns-in_err-written
returns-in_err-written g c =
    let told = c.in_ok-script.ensures in
    passed_on (λ (r : Result Bool Fault). EndsUnder g.S.Source g.O.Sink c.args.source.now c.choose_script.new.source c.args.out.now c.write_report-written.new.out c.args.settings r) _ _ c.from_residual-in_err-written.ensures.1
    (broken_off g.S.Source g.O.Sink c.args.source.now c.choose_script.new.source c.args.out.now c.write_report-written.new.out c.args.settings c.in_ok-script.script told.script told.taken told.quiet told.made _ c.in_err-written.ensures)

pub returns : goal.returns
returns g c =
    let told = c.in_ok-script.ensures in
    record {
      gained = report_gained g.O.Sink c.args.settings c.in_ok-script.script _ _ (input_of c.args.settings (g.S.Source.left c.args.source.now)) _ told.script c.in_ok-written.ensures;
      taken = told.taken;
      still = told.quiet;
      quiet = c.in_ok-written.ensures.quiet;
      made = told.made;
    }
