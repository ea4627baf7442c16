-- How a run ends by what it calls.
use Rattle.ports.specs.declared.sink.Sink as sinks
use Rattle.ports.specs.declared.source.Source as sources
use Rattle.std.proofs.Common.{◌≡◌, ◌≤◌, ◌⊎◌, ℕ, Bool, List, Result, Ok, Err, IfSome, IsErrAnd, IsSome, inl, inr, refl, sym, subst, arith}
use Rattle.ports.specs.declared.fault.WriteFault.{WriteFault}
use Rattle.ports.specs.declared.fault.WriteFault.TheVariants as write
use Rattle.query_lang.specs.Asked.{ScriptOf}
use Rattle.settings.specs.Settings.{AreRefused, Reads, or_name}
use Rattle.settings.specs.declared.Settings.{Settings}
use Rattle.settings.specs.declared.SettingsFault.{SettingsFault}
use Rattle.settings.specs.declared.SettingsFault.TheVariants as settings
use Rattle.semi.specs.Ends.{EndsBy, EndsUnder, HasFailed, HasNoSettings}
use Rattle.run_parts.specs.Made.{input_of}
use Rattle.report.specs.Answers.{WritesLines}
use Rattle.run_parts.specs.Input.{IsScript}
use Rattle.semi.specs.Report.{bounds_of}
use Rattle.run_parts.specs.Status.{of_settings, of_write}
use Rattle.run_parts.specs.Taken.{IsTakenWhole}
use Rattle.run_parts.specs.declared.fault.Fault.{Fault}
use Rattle.semi.proofs.ReportLemmas.{beginning_gained}

-- what holds with a fault holds of a result that passes it on
pub passed_on : {A E : Type 0} (P : Result A E → Type 0) (r : Result A E) (fault : E) → IsErrAnd r (λ e. e ≡ fault) → P (Err fault) → P r
passed_on P (Ok x) fault h p = absurd h
passed_on P (Err e) fault h p = subst (λ f. P (Err f)) (sym h) p

module _ {A B : Type 0} (source : sources.Ghosts A) (sink : sinks.Ghosts B) (old new : A) (before after : B) where
  module _ (settings : Settings) (script : ScriptOf) (is : IfSome (input_of settings (source.left old)) (λ input. IsScript input script))
      (taken : IsSome settings.make ⊎ IsTakenWhole (source.left old) (source.left new))
      (still : source.faults new ≡ source.faults old) (made : IsSome settings.make → new ≡ old) where
    -- the writing of the report fails
    pub broken_off : (fault : WriteFault) → WritesLines sink (bounds_of settings) script.problem script.queries before after (Err fault)
        → HasFailed source sink old new before after settings (of_write fault)
    broken_off write.Failed h = record {
      refused = λ e. let bad : 5 ≡ 2 = e in absurd (omega arith);
      accepted = λ e. absurd (cc);
      read = λ e. absurd (cc);
      write = λ e. h.failed refl;
      beginning = λ e. beginning_gained sink settings script before after (input_of settings (source.left old)) write.Failed is h;
      memory = λ e. absurd (cc);
      untouched = λ e. let bad : 5 ≤ 4 = e in absurd (omega arith);
      taken = taken;
      still = λ e. still;
      made = made;
      made_fault = λ e. omega arith;
    }
    broken_off write.NoMemory h = record {
      refused = λ e. let bad : 6 ≡ 2 = e in absurd (omega arith);
      accepted = λ e. absurd (cc);
      read = λ e. absurd (cc);
      write = λ e. absurd (cc);
      beginning = λ e. absurd (cc);
      memory = λ e. inr (beginning_gained sink settings script before after (input_of settings (source.left old)) write.NoMemory is h);
      untouched = λ e. let bad : 6 ≤ 4 = e in absurd (omega arith);
      taken = elim taken [ inl some ↦ inl some | inr whole ↦ inr whole.within ];
      still = λ e. still;
      made = made;
      made_fault = λ e. omega arith;
    }

  -- there are no settings, and nothing was done
  pub none_set : (words : List (List ℕ)) (fault : SettingsFault) → (fault ≡ settings.Refused → AreRefused words) → new ≡ old → after ≡ before
      → HasNoSettings source sink old new before after words (of_settings fault)
  none_set words settings.Refused refused same kept = (inl (refl, refused refl), same, kept)
  none_set words settings.NoMemory refused same kept = (inr refl, same, kept)

  -- the words set the settings
  pub set_by : (words : List (List ℕ)) (settings : Settings) (r : Result Bool Fault) → Reads (or_name words) settings → EndsUnder source sink old new before after settings r
      → EndsBy source sink old new before after words r
  set_by words settings (Ok undecided) reads ended = (settings, reads, ended)
  set_by words settings (Err fault) reads ended = inl (settings, reads, ended)
