use Rattle.std.proofs.Common.{◌≡◌, ◌≤◌, ℕ, List, IfSome, length, subst}
use Rattle.query_lang.specs.declared.fault.ScriptFault.{ScriptFault}
use Rattle.query_lang.specs.Faults.{IsScriptFault}
use Rattle.run_parts.specs.Limits.{most_bytes}
use Rattle.run_parts.specs.Input.{IsRefusal}
use Rattle.run_parts.specs.Status.{of_script, status_of}
use Rattle.run_parts.proofs.FaultLemmas.{handed_on}
use Rattle.run_parts.proofs.InputLaws.{refused_bytes, whole_input}
use Rattle.run_parts.proofs.reading.take_script.Goals as goal

pub returns-in_err-script-clause-refused : goal.returns-in_err-script-clause-refused
returns-in_err-script-clause-refused g c =
    let bytes : List ℕ = c.in_ok-bytes.bytes.items in
    let fault : ScriptFault = c.in_err-script.field-0.0 in
    let told : IsScriptFault bytes fault = subst (λ b. IsScriptFault b fault) c.as_slice.ensures.value c.in_err-script.ensures.err in
    let short : length bytes ≤ most_bytes = subst (λ n. n ≤ most_bytes) c.in_ok-bytes.bytes.ok.0 c.in_ok-bytes.ensures.within in
    let all = c.in_ok-bytes.ensures.all in
    handed_on (λ fault. status_of fault ≡ 2 → IfSome (g.S.Source.left c.args.source.now) (λ input. IsRefusal input fault)) _ (of_script fault) c.from_residual-in_err-script.ensures.1
    (λ two. whole_input (g.S.Source.left c.args.source.now) _ bytes (λ input. IsRefusal input (of_script fault)) all.0 all.1 (refused_bytes bytes fault short told two))
