use Rattle.std.proofs.Common.{◌≡◌, ◌≤◌, ◌∙◌, ℕ, List, refl, subst}
use Rattle.query_lang.specs.declared.fault.ScriptFault.{ScriptFault}
use Rattle.query_lang.specs.declared.fault.ScriptFault.TheVariants as script
use Rattle.query_lang.specs.Faults.{IsScriptFault}
use Rattle.query_lang.proofs.ScriptLaw.{no_script_with_fault}
use Rattle.run_parts.specs.Made.{made_script}
use Rattle.run_parts.specs.Status.{of_script}
use Rattle.run_parts.specs.declared.fault.Fault.TheVariants.{NoMemory}
use Rattle.run_parts.proofs.MadeLaw.{made_reads}
use Rattle.run_parts.proofs.FaultLemmas.{handed_on}
use Rattle.run_parts.proofs.made.read_made.Goals as goal

-- a fault of the made script is want of memory
only_memory : (k : ℕ) → 1 ≤ k → k ≤ 200 → (fault : ScriptFault) → IsScriptFault (made_script k) fault → of_script fault ≡ NoMemory
only_memory k least most (script.Bad line number) told =
    let s = made_reads k least most in
    absurd (no_script_with_fault (made_script k) s.0 line told.0 s.1.reads told.1)
only_memory k least most script.NoMemory told = refl

pub returns-in_err-script-clause-fault : goal.returns-in_err-script-clause-fault
returns-in_err-script-clause-fault c =
    let is = c.as_slice.ensures.value ∙ c.in_ok-bytes.ensures in
    let told = subst (λ (bytes : List ℕ). IsScriptFault bytes c.in_err-script.field-0.0) is c.in_err-script.ensures.err in
    handed_on (λ fault. fault ≡ NoMemory) _ _ c.from_residual-in_err-script.ensures.1 (only_memory c.args.k c.requires.least c.requires.most c.in_err-script.field-0.0 told)
