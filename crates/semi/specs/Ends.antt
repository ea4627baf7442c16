-- How a run ends, and what it has done to its source and its sink by then.
use Rattle.ports.specs.declared.sink.Sink as sinks
use Rattle.ports.specs.declared.source.Source as sources
use Rattle.std.specs.Prelude.{◌≡◌, ℕ, ◌≤◌, ◌⊎◌, Bool, List, IfSome, IsSome, Result, Ok, Err}
use Rattle.ports.specs.Bytes.{Rose}
use Rattle.settings.specs.Settings.{AreRefused}
use Rattle.settings.specs.declared.Settings.{Settings}
use Rattle.run_parts.specs.Made.{input_of}
use Rattle.run_parts.specs.Input.{IsRefusal}
use Rattle.semi.specs.Report.{GainsBeginning, GainsReport}
use Rattle.semi.specs.Settings.{Under}
use Rattle.run_parts.specs.Status.{status_of}
use Rattle.run_parts.specs.Taken.{IsTakenAt, IsTakenWhole}
use Rattle.run_parts.specs.declared.fault.Fault.{Fault}
use Rattle.run_parts.specs.declared.fault.Fault.TheVariants.{Arguments, Read, Write, NoMemory}

module _ {A B : Type 0} (source : sources.Ghosts A) (sink : sinks.Ghosts B)
    (old new : A) (before after : B) where
  -- the sink gained a beginning of the report of what is read under the settings
  abbrev pub HasBegun : Settings → Type 0
  HasBegun settings = IfSome (input_of settings (source.left old))
      (λ input. GainsBeginning settings input (sink.taken before) (sink.taken after))

  -- the whole report was written
  pub record HasReported (settings : Settings) (undecided : Bool) : Type 0 where
    pub gained : IfSome (input_of settings (source.left old)) (λ input.
        GainsReport settings input undecided (sink.taken before) (sink.taken after))
    pub taken : IsSome settings.make ⊎ IsTakenWhole (source.left old) (source.left new)
    pub still : source.faults new ≡ source.faults old
    pub quiet : sink.faults after ≡ sink.faults before
    pub made : IsSome settings.make → new ≡ old

  -- a fault came under the settings
  pub record HasFailed (settings : Settings) (fault : Fault) : Type 0 where
    pub refused : status_of fault ≡ 2
        → IfSome (input_of settings (source.left old)) (λ input. IsRefusal input fault)
    pub accepted : fault ≡ Arguments → ⊥
    pub read : fault ≡ Read → Rose (source.faults old) (source.faults new)
    pub write : fault ≡ Write → Rose (sink.faults before) (sink.faults after)
    pub beginning : fault ≡ Write → HasBegun settings
    pub memory : fault ≡ NoMemory → (after ≡ before) ⊎ HasBegun settings
    pub untouched : status_of fault ≤ 4 → after ≡ before
    pub taken : IsSome settings.make ⊎ IsTakenAt fault (source.left old) (source.left new)
    pub still : status_of fault ≡ 2 → source.faults new ≡ source.faults old
    pub made : IsSome settings.make → new ≡ old
    pub made_fault : IsSome settings.make → 5 ≤ status_of fault

  -- a run under the settings ends
  abbrev pub EndsUnder : Settings → Result Bool Fault → Type 0
  EndsUnder settings (Ok undecided) = HasReported settings undecided
  EndsUnder settings (Err fault) = HasFailed settings fault

  -- a fault came before there were settings
  abbrev pub HasNoSettings : List (List ℕ) → Fault → Type 0
  HasNoSettings words fault = (((fault ≡ Arguments) × AreRefused words) ⊎ (fault ≡ NoMemory))
      × (new ≡ old) × (after ≡ before)

  -- a run by the words ends
  abbrev pub EndsBy : List (List ℕ) → Result Bool Fault → Type 0
  EndsBy words (Ok undecided) = Under words (λ settings. HasReported settings undecided)
  EndsBy words (Err fault) =
      Under words (λ settings. HasFailed settings fault) ⊎ HasNoSettings words fault
