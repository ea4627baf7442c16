-- An input is a script, or refused for one fault.
use Rattle.std.proofs.Common.{◌≡◌, ℕ, ◌≤◌, length, arith, List, ◌++◌, Option, Some, None, IfSome, refl, sym, ap, ap₂, ◌∙◌, subst, append-nil}
use Rattle.ports.specs.Bytes.{Gave, IsAtEnd}
use Rattle.line_parts.specs.Causes.{number_of_cause}
use Rattle.query_lang.specs.declared.fault.ScriptFault.{ScriptFault}
use Rattle.query_lang.specs.declared.fault.ScriptFault.TheVariants as script
use Rattle.query_lang.specs.Asked.{ScriptOf}
use Rattle.query_lang.specs.Faults.{IsScriptFault}
use Rattle.query_lang.proofs.ScriptLaw.{no_script_with_fault, one_fault}
use Rattle.run_parts.specs.declared.fault.Fault.{Fault}
use Rattle.run_parts.specs.declared.fault.Fault.TheVariants.{TooLong, Script, Arguments, Read, Write, NoMemory}
use Rattle.run_parts.specs.Limits.{most_bytes}
use Rattle.run_parts.specs.Status.{of_script, status_of}
use Rattle.run_parts.specs.Input.{IsRefusal, IsRefused, IsScript}

-- a script is not refused
pub no_refused_script : (input : List ℕ) (script : ScriptOf) → IsScript input script → IsRefused input → ⊥
no_refused_script input script s (TooLong, long) = let short : length input ≤ most_bytes = s.short in absurd (omega (arith, long))
no_refused_script input script s (Script line cause, refused) = no_script_with_fault input script line refused.1.0 s.reads refused.1.1
no_refused_script input script s (Arguments, refused) = refused
no_refused_script input script s (Read, refused) = refused
no_refused_script input script s (Write, refused) = refused
no_refused_script input script s (NoMemory, refused) = refused

-- an input is refused for one fault
pub one_refusal : (input : List ℕ) (one other : Fault) → IsRefusal input one → IsRefusal input other → one ≡ other
one_refusal input TooLong TooLong p q = refl
one_refusal input TooLong (Script line cause) p q = absurd (omega (arith, p, q.0))
one_refusal input TooLong Arguments p q = absurd q
one_refusal input TooLong Read p q = absurd q
one_refusal input TooLong Write p q = absurd q
one_refusal input TooLong NoMemory p q = absurd q
one_refusal input (Script line cause) TooLong p q = absurd (omega (arith, p.0, q))
one_refusal input (Script line cause) (Script other number) p q =
    let same = one_fault input line other p.1.0 q.1.0 p.1.1 q.1.1 in
    ap₂ Script same.0 (p.1.2 ∙ ap number_of_cause same.1 ∙ sym q.1.2)
one_refusal input (Script line cause) Arguments p q = absurd q
one_refusal input (Script line cause) Read p q = absurd q
one_refusal input (Script line cause) Write p q = absurd q
one_refusal input (Script line cause) NoMemory p q = absurd q
one_refusal input Arguments other p q = absurd p
one_refusal input Read other p q = absurd p
one_refusal input Write other p q = absurd p
one_refusal input NoMemory other p q = absurd p

-- the bytes that a source gave are all of its input
pub whole_input : (old new : Option (List ℕ)) (bytes : List ℕ) (P : List ℕ → Type 0) → Gave old new bytes → IsAtEnd new → P bytes → IfSome old P
whole_input None new bytes P gave end p = tt
whole_input (Some input) None bytes P gave end p = absurd gave
whole_input (Some input) (Some left) bytes P gave end p = subst P (sym (gave ∙ ap (λ rest. bytes ++ rest) end ∙ append-nil bytes)) p

-- the first fault of bytes that are not too long refuses them
pub refused_bytes : (bytes : List ℕ) (fault : ScriptFault) → length bytes ≤ most_bytes → IsScriptFault bytes fault → status_of (of_script fault) ≡ 2 → IsRefusal bytes (of_script fault)
refused_bytes bytes (script.Bad line cause) short fault two = (short, fault)
refused_bytes bytes script.NoMemory short fault two = let bad : 6 ≡ 2 = two in absurd (omega arith)
