use Rattle.std.proofs.Common.{◌≡◌, ◌≤◌, ◌∙◌, ℕ, Bool, true, false, IfSome, map, string_bytes, List, refl, sym, arith, subst, inl, inr}
use Rattle.std.specs.Int.{from_bool}
use Rattle.run_parts.specs.Made.{input_of}
use Rattle.semi.specs.Report.{GainsReport}
use Rattle.semi.proofs.EndLaws as ends
use Rattle.semi.proofs.UniqueReport.{any_script, reported_not_refused}
use Rattle.semi.proofs.top.semi.Goals as goal

-- the status tells whether an answer is undecided
told_by : (b : Bool) (status : ℕ) → status ≡ from_bool b → (status ≡ 0 → b ≡ false) × (status ≡ 1 → b ≡ true) × (status ≤ 1)
told_by true status e = (λ zero. let bad : 1 ≡ 0 = sym e ∙ zero in absurd (omega arith), λ one. refl, omega arith)
told_by false status e = (λ zero. refl, λ one. let bad : 0 ≡ 1 = sym e ∙ one in absurd (omega arith), omega arith)

pub returns-in-Ok : goal.returns-in-Ok
returns-in-Ok g c =
    let words : List (List ℕ) = map (λ s. string_bytes s) c.args.words.now.items in
    let ran = c.in-Ok.ensures in
    let input = input_of ran.0 (g.S.Source.left c.args.source.now) in
    let told = told_by c.in-Ok.undecided c.from.result c.from.ensures in
    let few : c.from.result ≤ 1 = told.2 in
    let gains : Bool → Type 0 = λ b. IfSome input (λ bytes. GainsReport ran.0 bytes b (g.O.Sink.taken c.args.out.now) (g.O.Sink.taken c.run.new.out)) in
    record {
      decided = λ e. (ran.0, ran.1, subst gains (told.0 e) ran.2.gained);
      undecided = λ e. (ran.0, ran.1, subst gains (told.1 e) ran.2.gained);
      refused = λ e. absurd (omega (arith, few, e));
      arguments = λ e. absurd (omega (arith, few, e));
      read = λ e. absurd (omega (arith, few, e));
      write = λ e. absurd (omega (arith, few, e));
      range = omega (arith, few);
      quiet = λ small. (ran.2.still, ran.2.quiet);
      source_untouched = λ e. absurd (omega (arith, few, e));
      source_taken = λ small. ends.whole_taken g.S.Source g.O.Sink words c.args.source.now c.run.new.source c.args.out.now c.run.new.out c.in-Ok.undecided ran;
      out_untouched = λ e. absurd (omega (arith, few, e));
      beginning = λ e. absurd (omega (arith, few, e));
      memory = λ e. absurd (omega (arith, few, e));
      told = λ e. absurd (omega (arith, few, e));
      err_untouched = λ small. refl;
      made = ends.reported_made g.S.Source g.O.Sink words c.args.source.now c.run.new.source c.args.out.now c.run.new.out c.in-Ok.undecided ran;
      made_status = λ asks. inl few;
      rejects = λ refused. absurd (ends.reported_accepted g.S.Source g.O.Sink words c.args.source.now c.run.new.source c.args.out.now c.run.new.out c.in-Ok.undecided ran refused);
      refuses = λ accepted quiet. inr (ran.0, ran.1, reported_not_refused input ran.0 _ _ _ _ ran.2.gained);
      answers = λ accepted quiet passes. inr (ran.0, ran.1, any_script input _ few);
    }

pub returns-in-Err : goal.returns-in-Err
returns-in-Err g c =
    let words : List (List ℕ) = map (λ s. string_bytes s) c.args.words.now.items in
    let fault = c.in-Err.fault in
    let is = c.tell.ensures.status in
    let ran = c.in-Err.ensures in
    let least = ends.least_status fault in
    let most = ends.most_status fault in
    record {
      decided = λ e. absurd (omega (arith, is, least, e));
      undecided = λ e. absurd (omega (arith, is, least, e));
      refused = ends.why_status_two g.S.Source g.O.Sink words c.args.source.now c.run.new.source c.args.out.now c.run.new.out fault c.tell.result is ran;
      arguments = ends.why_arguments g.S.Source g.O.Sink words c.args.source.now c.run.new.source c.args.out.now c.run.new.out fault c.tell.result is ran;
      read = ends.why_read g.S.Source g.O.Sink words c.args.source.now c.run.new.source c.args.out.now c.run.new.out fault c.tell.result is ran;
      write = ends.why_write g.S.Source g.O.Sink words c.args.source.now c.run.new.source c.args.out.now c.run.new.out fault c.tell.result is ran;
      range = omega (arith, is, most);
      quiet = ends.none_failed g.S.Source g.O.Sink words c.args.source.now c.run.new.source c.args.out.now c.run.new.out fault c.tell.result is ran;
      source_untouched = ends.source_kept g.S.Source g.O.Sink words c.args.source.now c.run.new.source c.args.out.now c.run.new.out fault c.tell.result is ran;
      source_taken = λ e. absurd (omega (arith, is, least, e));
      out_untouched = λ some few. ends.out_kept g.S.Source g.O.Sink words c.args.source.now c.run.new.source c.args.out.now c.run.new.out fault c.tell.result is ran few;
      beginning = ends.begun g.S.Source g.O.Sink words c.args.source.now c.run.new.source c.args.out.now c.run.new.out fault c.tell.result is ran;
      memory = ends.without_memory g.S.Source g.O.Sink words c.args.source.now c.run.new.source c.args.out.now c.run.new.out fault c.tell.result is ran;
      told = λ some. (fault, is, ends.why_refusal g.S.Source g.O.Sink words c.args.source.now c.run.new.source c.args.out.now c.run.new.out fault c.tell.result is ran, ends.part_taken g.S.Source g.O.Sink words c.args.source.now c.run.new.source c.args.out.now c.run.new.out fault c.tell.result is ran, c.tell.ensures.told);
      err_untouched = λ e. absurd (omega (arith, is, least, e));
      made = ends.failed_made g.S.Source g.O.Sink words c.args.source.now c.run.new.source c.args.out.now c.run.new.out fault c.tell.result is ran;
      made_status = ends.made_late g.S.Source g.O.Sink words c.args.source.now c.run.new.source c.args.out.now c.run.new.out fault c.tell.result is ran;
      rejects = ends.rejected g.S.Source g.O.Sink words c.args.source.now c.run.new.source c.args.out.now c.run.new.out fault c.tell.result is ran;
      refuses = ends.refuses g.S.Source g.O.Sink words c.args.source.now c.run.new.source c.args.out.now c.run.new.out fault c.tell.result is ran;
      answers = ends.answers g.S.Source g.O.Sink words c.args.source.now c.run.new.source c.args.out.now c.run.new.out fault c.tell.result is ran;
    }
