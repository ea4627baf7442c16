-- The lines of queries, and their bytes.
use Rattle.std.proofs.Common.{◌≡◌, ℕ, List, [], ◌∷◌, Result, sym, subst, append-nil}
use Rattle.ports.specs.declared.sink.Sink.{Ghosts}
use Rattle.ports.specs.declared.fault.WriteFault.{WriteFault}
use Rattle.ports.specs.Writes.{Writes, WritesBytes}
use Rattle.ports.proofs.WriteLemmas.{meant_bytes}
use Rattle.problem.specs.declared.kinds.Problem.{Problem}
use Rattle.query_lang.specs.declared.script.Query.{Query}
use Rattle.report_lines.specs.LineBytes.{AreBytesOf, bytes_of}
use Rattle.query_answers.specs.Answer.{AreLines}

-- the bytes of lines of a query, which is what was matched
pub writes_lines : {K : Type 0} (sink : Ghosts K) (p : Problem) (bound : ℕ) (q r : Query) (lines : List (List ℕ)) → q ≡ r → AreLines p bound r lines → (bytes : List ℕ) (old new : K) (result : Result (Unit {0}) WriteFault)
    → bytes ≡ bytes_of lines → WritesBytes sink bytes old new result → Writes sink (λ _. AreBytesOf (AreLines p bound q)) old new result
writes_lines sink p bound q r lines is are_lines bytes old new result e =
    meant_bytes sink bytes old new result tt (λ _. record { lines = lines; are_such = subst (λ s. AreLines p bound s lines) (sym is) are_lines; are_bytes = e })

-- the bytes of one line
pub one_line : (line : List ℕ) → line ≡ bytes_of (line ∷ [])
one_line line = sym (append-nil line)
