use Rattle.std.proofs.Common.{◌≤◌, ◌∙◌, ℕ, List, map, string_bytes, inl, inr, sym, subst, arith}
use Rattle.run_parts.specs.Status.{GainsLineOf}
use Rattle.run_parts.specs.declared.fault.Fault.TheVariants.{Write}
use Rattle.ports.specs.Bytes.{Rose}
use Rattle.semi.proofs.PassLaws.{on_input, rose_on, stays_above, stays_at}
use Rattle.semi.proofs.run.Goals as goal

pub returns : goal.returns
returns g c =
    let words : List (List ℕ) = map (λ s. string_bytes s) c.args.words.now.items in
    let left = g.S.Source.left c.args.source.now in
    let s : ℕ = c.semi-status.result in
    let r : ℕ = c.pass_on.result in
    let how = c.pass_on.ensures.status in
    let was = c.semi-status.ensures in
    let few : r ≤ 1 → s ≤ 1 = λ small. elim how [ inl h ↦ omega (arith, h.0, small) | inr h ↦ h.0 ] in
    record {
      decided = λ e. on_input words left _ _ (λ settings input h. (h.report, h.is_report)) (was.decided (stays_at s r 0 how (omega arith) e));
      undecided = λ e. on_input words left _ _ (λ settings input h. (h.report, h.is_report)) (was.undecided (stays_at s r 1 how (omega arith) e));
      passed = c.pass_on.ensures.passed;
      quiet = λ small. let calm = was.quiet (omega (arith, few small)) in (calm.0, c.pass_on.ensures.quiet small ∙ calm.1);
      refused = λ e. was.refused (stays_at s r 2 how (omega arith) e);
      arguments = λ e. was.arguments (stays_at s r 3 how (omega arith) e);
      read = λ e. was.read (stays_at s r 4 how (omega arith) e);
      write = λ e. elim how [
        | inl h ↦ rose_on c.args.out.now.faults c.semi-status.new.out.faults c.pass_on.new.out.faults (was.write (sym h.0 ∙ e)) c.pass_on.ensures.counted
        | inr h ↦ subst (λ n. Rose n c.pass_on.new.out.faults) (was.quiet (omega (arith, h.0))).1 h.2
      ];
      range = elim how [ inl h ↦ let most = was.range in omega (arith, h.0, most) | inr h ↦ omega (arith, h.1) ];
      told = λ two. elim how [
        | inl h ↦
            let t = was.told (omega (arith, h.0, two)) in
            (t.0, h.0 ∙ t.1, subst (λ e. GainsLineOf g.E.Sink t.0 c.args.err.now e) (sym h.1) t.4)
        | inr h ↦ (Write, h.1, subst (λ e. GainsLineOf g.E.Sink Write e c.pass_on.new.err) (was.err_untouched h.0) h.3)
      ];
      err_untouched = λ small. elim how [ inl h ↦ h.1 ∙ was.err_untouched (few small) | inr h ↦ absurd (omega (arith, h.1, small)) ];
      rejects = λ refused. elim (was.rejects refused) [
        | inl e ↦ inl (stays_above s r 3 how (omega arith) e)
        | inr e ↦ inr (stays_above s r 6 how (omega arith) e)
      ];
      refuses = λ accepted calm. elim (was.refuses accepted calm) [
        | inl e ↦ inl (stays_above s r 6 how (omega arith) e)
        | inr on ↦ inr (on_input words left _ _ (λ settings input f refused. stays_above s r 2 how (omega arith) (f refused)) on)
      ];
      answers = λ accepted calm passes.
          elim (was.answers accepted calm (λ rose. passes (rose_on c.args.out.now.faults c.semi-status.new.out.faults c.pass_on.new.out.faults rose c.pass_on.ensures.counted))) [
            | inl e ↦ inl (stays_above s r 6 how (omega arith) e)
            | inr on ↦ inr (on_input words left _ _ (λ settings input f script is. elim how [
              | inl h ↦ let small = f script is in omega (arith, h.0, small)
              | inr h ↦ absurd (passes (subst (λ n. Rose n c.pass_on.new.out.faults) (was.quiet (omega (arith, h.0))).1 h.2))
            ]) on)
          ];
    }
