-- What the status says of how a run ends.
use Rattle.ports.specs.declared.sink.Sink as sinks
use Rattle.ports.specs.declared.source.Source as sources
use Rattle.std.proofs.Common.{◌≡◌, ◌≤◌, ◌⊎◌, ◌∙◌, ℕ, Bool, List, [], Option, Some, None, IsSome, inl, inr, refl, sym, ap, subst, true≢false, arith}
use Rattle.ports.specs.Bytes.{GaveUpTo, Rose}
use Rattle.query_lang.specs.Asked.{ScriptOf}
use Rattle.settings.specs.Settings.{AreAccepted, AreRefused, Reads, or_name}
use Rattle.settings.specs.declared.Settings.{Settings}
use Rattle.semi.specs.Ends.{HasFailed, HasNoSettings, HasReported}
use Rattle.run_parts.specs.Limits.{most_bytes}
use Rattle.run_parts.specs.Made.{input_of}
use Rattle.semi.specs.Settings.{OnInput}
use Rattle.run_parts.specs.Input.{IsRefusal, IsRefused, IsScript}
use Rattle.semi.specs.Report.{GainsBeginning}
use Rattle.semi.specs.Settings.{AskToMake, Under, UnlessMade}
use Rattle.run_parts.specs.Status.{status_of}
use Rattle.run_parts.specs.Taken.{IsTakenAt, IsTakenWhole}
use Rattle.run_parts.specs.declared.fault.Fault.{Fault}
use Rattle.run_parts.specs.declared.fault.Fault.TheVariants.{TooLong, Script, Arguments, Read, Write, NoMemory}
use Rattle.semi.proofs.UniqueReport.{any_refused, begun_not_refused, refused_no_script, why_refused}

-- the faults of the statuses
pub least_status : (fault : Fault) → 2 ≤ status_of fault
least_status TooLong = omega arith
least_status (Script line cause) = omega arith
least_status Arguments = omega arith
least_status Read = omega arith
least_status Write = omega arith
least_status NoMemory = omega arith

pub most_status : (fault : Fault) → status_of fault ≤ 6
most_status TooLong = omega arith
most_status (Script line cause) = omega arith
most_status Arguments = omega arith
most_status Read = omega arith
most_status Write = omega arith
most_status NoMemory = omega arith

arguments_of : (fault : Fault) → status_of fault ≡ 3 → fault ≡ Arguments
arguments_of TooLong e = let bad : 2 ≡ 3 = e in absurd (omega arith)
arguments_of (Script line cause) e = let bad : 2 ≡ 3 = e in absurd (omega arith)
arguments_of Arguments e = refl
arguments_of Read e = let bad : 4 ≡ 3 = e in absurd (omega arith)
arguments_of Write e = let bad : 5 ≡ 3 = e in absurd (omega arith)
arguments_of NoMemory e = let bad : 6 ≡ 3 = e in absurd (omega arith)

read_of : (fault : Fault) → status_of fault ≡ 4 → fault ≡ Read
read_of TooLong e = let bad : 2 ≡ 4 = e in absurd (omega arith)
read_of (Script line cause) e = let bad : 2 ≡ 4 = e in absurd (omega arith)
read_of Arguments e = let bad : 3 ≡ 4 = e in absurd (omega arith)
read_of Read e = refl
read_of Write e = let bad : 5 ≡ 4 = e in absurd (omega arith)
read_of NoMemory e = let bad : 6 ≡ 4 = e in absurd (omega arith)

write_of : (fault : Fault) → status_of fault ≡ 5 → fault ≡ Write
write_of TooLong e = let bad : 2 ≡ 5 = e in absurd (omega arith)
write_of (Script line cause) e = let bad : 2 ≡ 5 = e in absurd (omega arith)
write_of Arguments e = let bad : 3 ≡ 5 = e in absurd (omega arith)
write_of Read e = let bad : 4 ≡ 5 = e in absurd (omega arith)
write_of Write e = refl
write_of NoMemory e = let bad : 6 ≡ 5 = e in absurd (omega arith)

memory_of : (fault : Fault) → status_of fault ≡ 6 → fault ≡ NoMemory
memory_of TooLong e = let bad : 2 ≡ 6 = e in absurd (omega arith)
memory_of (Script line cause) e = let bad : 2 ≡ 6 = e in absurd (omega arith)
memory_of Arguments e = let bad : 3 ≡ 6 = e in absurd (omega arith)
memory_of Read e = let bad : 4 ≡ 6 = e in absurd (omega arith)
memory_of Write e = let bad : 5 ≡ 6 = e in absurd (omega arith)
memory_of NoMemory e = refl

status_is : (fault one : Fault) → fault ≡ one → status_of fault ≡ status_of one
status_is fault one is = ap status_of is

-- words that ask for a made script have settings that do
makes : (words : List (List ℕ)) (settings : Settings) → Reads (or_name words) settings → AskToMake words → IsSome settings.make
makes words settings reads (other, also, some) = subst (λ (k : Option ℕ). IsSome k) (sym also.make ∙ reads.make) some

-- words that are refused set nothing
none_read : (words : List (List ℕ)) (settings : Settings) → Reads (or_name words) settings → AreRefused words → ⊥
none_read words settings reads refused = true≢false (sym reads.taken ∙ refused)

unless_made : (words : List (List ℕ)) (settings : Settings) (P : Type 0) → Reads (or_name words) settings → IsSome settings.make ⊎ P → UnlessMade words P
unless_made words settings P reads (inl made) = inl (settings, reads, made)
unless_made words settings P reads (inr p) = inr p

-- a source that is left as it is gave no more than a script may have
gave_nothing : (left : Option (List ℕ)) → GaveUpTo most_bytes left left
gave_nothing None = record { bytes = []; gave = tt; within = omega arith }
gave_nothing (Some bytes) = record { bytes = []; gave = refl; within = omega arith }

module _ {A B : Type 0} (source : sources.Ghosts A) (sink : sinks.Ghosts B) (words : List (List ℕ)) (old new : A) (before after : B) where
  -- a run that reports
  module _ (undecided : Bool) (ran : Under words (λ settings. HasReported source sink old new before after settings undecided)) where
    pub whole_taken : UnlessMade words (IsTakenWhole (source.left old) (source.left new))
    whole_taken = unless_made words ran.0 (IsTakenWhole (source.left old) (source.left new)) ran.1 ran.2.taken

    pub reported_made : AskToMake words → new ≡ old
    reported_made asks = ran.2.made (makes words ran.0 ran.1 asks)

    pub reported_accepted : AreRefused words → ⊥
    reported_accepted refused = none_read words ran.0 ran.1 refused

  -- a run that fails
  module _ (fault : Fault) (status : ℕ) (is : status ≡ status_of fault)
      (ran : Under words (λ settings. HasFailed source sink old new before after settings fault)
      ⊎ HasNoSettings source sink old new before after words fault) where
    -- words without settings are at fault, or memory is wanting
    none_set : (n : ℕ) → status_of fault ≡ n → n ≤ 2 → HasNoSettings source sink old new before after words fault → ⊥
    none_set n e small none = elim none.0 [
      | inl why ↦ let three : status_of fault ≡ 3 = status_is fault Arguments why.0 in absurd (omega (arith, e, small, three))
      | inr why ↦ let six : status_of fault ≡ 6 = status_is fault NoMemory why in absurd (omega (arith, e, small, six))
    ]

    pub why_refusal : status ≡ 2 → OnInput words (source.left old) (λ _ input. IsRefusal input fault)
    why_refusal two = let e = sym is ∙ two in elim ran [
      | inl under ↦ (under.0, under.1, under.2.refused e)
      | inr none ↦ absurd (none_set 2 e (omega arith) none)
    ]

    pub why_status_two : status ≡ 2 → OnInput words (source.left old) (λ _. IsRefused)
    why_status_two two = let u = why_refusal two in (u.0, u.1, why_refused (input_of u.0 (source.left old)) fault u.2)

    pub why_arguments : status ≡ 3 → AreRefused words
    why_arguments three = let e = arguments_of fault (sym is ∙ three) in elim ran [
      | inl under ↦ absurd (under.2.accepted e)
      | inr none ↦ elim none.0 [ inl why ↦ why.1 | inr why ↦ absurd (let bad : Arguments ≡ NoMemory = sym e ∙ why in cc) ]
    ]

    pub why_read : status ≡ 4 → Rose (source.faults old) (source.faults new)
    why_read four = let e = read_of fault (sym is ∙ four) in elim ran [
      | inl under ↦ under.2.read e
      | inr none ↦ elim none.0 [
        | inl why ↦ absurd (let bad : Read ≡ Arguments = sym e ∙ why.0 in cc)
        | inr why ↦ absurd (let bad : Read ≡ NoMemory = sym e ∙ why in cc)
      ]
    ]

    pub why_write : status ≡ 5 → Rose (sink.faults before) (sink.faults after)
    why_write five = let e = write_of fault (sym is ∙ five) in elim ran [
      | inl under ↦ under.2.write e
      | inr none ↦ elim none.0 [
        | inl why ↦ absurd (let bad : Write ≡ Arguments = sym e ∙ why.0 in cc)
        | inr why ↦ absurd (let bad : Write ≡ NoMemory = sym e ∙ why in cc)
      ]
    ]

    pub begun : status ≡ 5 → OnInput words (source.left old) (λ settings input. GainsBeginning settings input (sink.taken before) (sink.taken after))
    begun five = let e = write_of fault (sym is ∙ five) in elim ran [
      | inl under ↦ (under.0, under.1, under.2.beginning e)
      | inr none ↦ elim none.0 [
        | inl why ↦ absurd (let bad : Write ≡ Arguments = sym e ∙ why.0 in cc)
        | inr why ↦ absurd (let bad : Write ≡ NoMemory = sym e ∙ why in cc)
      ]
    ]

    pub without_memory : status ≡ 6 → (after ≡ before) ⊎ OnInput words (source.left old) (λ settings input. GainsBeginning settings input (sink.taken before) (sink.taken after))
    without_memory six = elim ran [
      | inl under ↦ elim (under.2.memory (memory_of fault (sym is ∙ six))) [ inl same ↦ inl same | inr part ↦ inr (under.0, under.1, part) ]
      | inr none ↦ inl none.2
    ]

    pub out_kept : status ≤ 4 → after ≡ before
    out_kept few = elim ran [
      | inl under ↦ under.2.untouched (omega (arith, is, few))
      | inr none ↦ none.2
    ]

    pub source_kept : status ≡ 3 → new ≡ old
    source_kept three = elim ran [
      | inl under ↦ absurd (under.2.accepted (arguments_of fault (sym is ∙ three)))
      | inr none ↦ none.1
    ]

    two_or_three : status ≤ 3 → (status_of fault ≡ 2) ⊎ (status_of fault ≡ 3)
    two_or_three few = two_or_three_of fault (omega (arith, is, few))
      where
        two_or_three_of : (one : Fault) → status_of one ≤ 3 → (status_of one ≡ 2) ⊎ (status_of one ≡ 3)
        two_or_three_of TooLong h = inl refl
        two_or_three_of (Script line cause) h = inl refl
        two_or_three_of Arguments h = inr refl
        two_or_three_of Read h = let bad : 4 ≤ 3 = h in absurd (omega arith)
        two_or_three_of Write h = let bad : 5 ≤ 3 = h in absurd (omega arith)
        two_or_three_of NoMemory h = let bad : 6 ≤ 3 = h in absurd (omega arith)

    pub none_failed : status ≤ 3 → (source.faults new ≡ source.faults old) × (sink.faults after ≡ sink.faults before)
    none_failed few = elim ran [
      | inl under ↦ (
        elim (two_or_three few) [ inl two ↦ under.2.still two | inr three ↦ absurd (under.2.accepted (arguments_of fault three)) ],
        ap sink.faults (under.2.untouched (omega (arith, is, few))),
      )
      | inr none ↦ (ap source.faults none.1, ap sink.faults none.2)
    ]

    pub part_taken : UnlessMade words (IsTakenAt fault (source.left old) (source.left new))
    part_taken = elim ran [
      | inl under ↦ unless_made words under.0 (IsTakenAt fault (source.left old) (source.left new)) under.1 under.2.taken
      | inr none ↦ inr (nothing_taken fault none)
    ]
      where
        nothing_taken : (one : Fault) → HasNoSettings source sink old new before after words one → IsTakenAt one (source.left old) (source.left new)
        nothing_taken Arguments none = ap source.left none.1
        nothing_taken NoMemory none = subst (λ (s : A). GaveUpTo most_bytes (source.left old) (source.left s)) (sym none.1) (gave_nothing (source.left old))
        nothing_taken TooLong none = elim none.0 [ inl why ↦ absurd (let bad : TooLong ≡ Arguments = why.0 in cc) | inr why ↦ absurd (let bad : TooLong ≡ NoMemory = why in cc) ]
        nothing_taken (Script line cause) none = elim none.0 [ inl why ↦ absurd (let bad : Script line cause ≡ Arguments = why.0 in cc) | inr why ↦ absurd (let bad : Script line cause ≡ NoMemory = why in cc) ]
        nothing_taken Read none = elim none.0 [ inl why ↦ absurd (let bad : Read ≡ Arguments = why.0 in cc) | inr why ↦ absurd (let bad : Read ≡ NoMemory = why in cc) ]
        nothing_taken Write none = elim none.0 [ inl why ↦ absurd (let bad : Write ≡ Arguments = why.0 in cc) | inr why ↦ absurd (let bad : Write ≡ NoMemory = why in cc) ]

    pub failed_made : AskToMake words → new ≡ old
    failed_made asks = elim ran [
      | inl under ↦ under.2.made (makes words under.0 under.1 asks)
      | inr none ↦ none.1
    ]

    pub made_late : AskToMake words → (status ≤ 1) ⊎ (5 ≤ status)
    made_late asks = elim ran [
      | inl under ↦ let late = under.2.made_fault (makes words under.0 under.1 asks) in inr (omega (arith, is, late))
      | inr none ↦ elim none.0 [
        | inl why ↦ absurd (none_read words asks.0 asks.1 why.1)
        | inr why ↦ let six : status_of fault ≡ 6 = status_is fault NoMemory why in inr (omega (arith, is, six))
      ]
    ]

    pub rejected : AreRefused words → (status ≡ 3) ⊎ (status ≡ 6)
    rejected refused = elim ran [
      | inl under ↦ absurd (none_read words under.0 under.1 refused)
      | inr none ↦ elim none.0 [
        | inl why ↦ inl (is ∙ status_is fault Arguments why.0)
        | inr why ↦ inr (is ∙ status_is fault NoMemory why)
      ]
    ]

    -- how a fault ends for a script, and for what is refused, where it is none of the source and the sink
    pub refuses : AreAccepted words → (Rose (source.faults old) (source.faults new) → ⊥)
        → (status ≡ 6) ⊎ OnInput words (source.left old) (λ _ input. IsRefused input → status ≡ 2)
    refuses accepted quiet = elim ran [
      | inl under ↦ refuses_by fault is under.0 under.1 under.2
      | inr none ↦ elim none.0 [
        | inl why ↦ absurd (true≢false (sym accepted ∙ why.1))
        | inr why ↦ inl (is ∙ status_is fault NoMemory why)
      ]
    ]
      where
        refuses_by : (one : Fault) → status ≡ status_of one → (settings : Settings) → Reads (or_name words) settings → HasFailed source sink old new before after settings one
            → (status ≡ 6) ⊎ OnInput words (source.left old) (λ _ input. IsRefused input → status ≡ 2)
        refuses_by TooLong e settings reads failed = inr (settings, reads, any_refused (input_of settings (source.left old)) (status ≡ 2) e)
        refuses_by (Script line cause) e settings reads failed = inr (settings, reads, any_refused (input_of settings (source.left old)) (status ≡ 2) e)
        refuses_by Arguments e settings reads failed = absurd (failed.accepted refl)
        refuses_by Read e settings reads failed = absurd (quiet (failed.read refl))
        refuses_by Write e settings reads failed =
            inr (settings, reads, begun_not_refused (input_of settings (source.left old)) settings (sink.taken before) (sink.taken after) (status ≡ 2) (failed.beginning refl))
        refuses_by NoMemory e settings reads failed = inl e

    pub answers : AreAccepted words → (Rose (source.faults old) (source.faults new) → ⊥) → (Rose (sink.faults before) (sink.faults after) → ⊥)
        → (status ≡ 6) ⊎ OnInput words (source.left old) (λ _ input. (script : ScriptOf) → IsScript input script → status ≤ 1)
    answers accepted quiet passes = elim ran [
      | inl under ↦ answers_by fault is under.0 under.1 under.2
      | inr none ↦ elim none.0 [
        | inl why ↦ absurd (true≢false (sym accepted ∙ why.1))
        | inr why ↦ inl (is ∙ status_is fault NoMemory why)
      ]
    ]
      where
        answers_by : (one : Fault) → status ≡ status_of one → (settings : Settings) → Reads (or_name words) settings → HasFailed source sink old new before after settings one
            → (status ≡ 6) ⊎ OnInput words (source.left old) (λ _ input. (script : ScriptOf) → IsScript input script → status ≤ 1)
        answers_by TooLong e settings reads failed = inr (settings, reads, refused_no_script (input_of settings (source.left old)) TooLong (status ≤ 1) (failed.refused refl))
        answers_by (Script line cause) e settings reads failed =
            inr (settings, reads, refused_no_script (input_of settings (source.left old)) (Script line cause) (status ≤ 1) (failed.refused refl))
        answers_by Arguments e settings reads failed = absurd (failed.accepted refl)
        answers_by Read e settings reads failed = absurd (quiet (failed.read refl))
        answers_by Write e settings reads failed = absurd (passes (failed.write refl))
        answers_by NoMemory e settings reads failed = inl e
