-- What calls that write do to their sinks.
use Rattle.ports.specs.declared.sink.Sink.{Ghosts}
use Rattle.std.specs.Prelude.{◌≡◌, ℕ, ◌≤◌, ◌⊎◌, List, [], Result, IfErr, IfOk, OnErr, OnOk}
use Rattle.ports.specs.declared.fault.WriteFault.{WriteFault}
use Rattle.ports.specs.declared.fault.WriteFault.TheVariants.{Failed, NoMemory}
use Rattle.ports.specs.Bytes.{Rose, TakesAll, TakesPrefix}

module _ {A : Type 0} (sink : Ghosts A) where
  -- Where the call is Ok, the sink took all of some bytes that are whole, and its count of faults
  -- stayed; else it took a prefix of some bytes that are begun. The call tells that it failed only
  -- where the count rose, and the count never falls.
  pub record WritesOrBegins {T : Type 0} (IsWhole : T → List ℕ → Type 0) (IsBegun : List ℕ → Type 0)
      (old new : A) (result : Result T WriteFault) : Type 0 where
    pub all : IfOk result (λ value. (bytes : List ℕ) × IsWhole value bytes
        × TakesAll (sink.taken old) (sink.taken new) bytes)
    pub part : OnErr result ((bytes : List ℕ) × IsBegun bytes
        × TakesPrefix (sink.taken old) (sink.taken new) bytes)
    pub failed : IfErr result (λ fault. fault ≡ Failed → Rose (sink.faults old) (sink.faults new))
    pub kept : sink.faults old ≤ sink.faults new
    pub quiet : OnOk result (sink.faults new ≡ sink.faults old)

  -- the call writes some bytes that are meant with its value, or else nothing or a prefix of such
  -- bytes
  abbrev pub Writes : {T : Type 0} → (T → List ℕ → Type 0) → A → A → Result T WriteFault → Type 0
  Writes {T} IsMeant old new result =
      WritesOrBegins IsMeant (λ bytes. (bytes ≡ []) ⊎ (value : T) × IsMeant value bytes)
      old new result

  -- the call writes these bytes, or else a prefix of them
  abbrev pub WritesBytes : {T : Type 0} → List ℕ → A → A → Result T WriteFault → Type 0
  WritesBytes written old new result =
      WritesOrBegins (λ _ bytes. bytes ≡ written) (λ bytes. bytes ≡ written) old new result

  -- the call tells want of memory only where the sink's count of refusals rose
  pub record TellsRefusals {T : Type 0} (old new : A) (result : Result T WriteFault) : Type 0 where
    pub refused : IfErr result (λ fault.
        fault ≡ NoMemory → Rose (sink.refusals old) (sink.refusals new))
    pub kept : sink.refusals old ≤ sink.refusals new
    pub quiet : OnOk result (sink.refusals new ≡ sink.refusals old)
