-- The bytes of an answer, from those of its lines.
use Rattle.std.proofs.Common.{inl, inr, ℕ, List, [], ◌∷◌, Result, Ok, Err, true, ◌≡◌, ◌∙◌, ap, subst, sym}
use Rattle.std.specs.Result.{result_and}
use Rattle.ports.specs.declared.sink.Sink.{Ghosts}
use Rattle.ports.specs.declared.fault.WriteFault.{WriteFault}
use Rattle.ports.specs.Writes.{Writes, WritesBytes}
use Rattle.ports.proofs.WriteLemmas.{answered, faulted}
use Rattle.problem.specs.declared.budgets.Budgets.{Budgets}
use Rattle.problem.specs.declared.kinds.Problem.{Problem}
use Rattle.query_lang.specs.declared.script.Query.{Query}
use Rattle.report_lines.specs.LineBytes.{AreBytesOf}
use Rattle.report.specs.declared.answers.Answered.{Answered}
use Rattle.report.specs.declared.answers.Answered.TheVariants.{Defined}
use Rattle.query_answers.specs.declared.awaited.Awaited.{Awaited}
use Rattle.query_answers.specs.Answer.{AreLines, ComesAbout, FailsToCome, IsAnswer, awaited_by, line_without}
use Rattle.report.specs.Gains.{AreAnswerBytes, is_undecided}
use Rattle.query_answers.proofs.AnswerLemmas.{one_line}

-- what a query waits for comes about, by its name
pub comes_about : (p : Problem) (b : Budgets) (q : Query) (a : Awaited) → awaited_by q ≡ a → ComesAbout p b a → ComesAbout p b (awaited_by q)
comes_about p b q a is = subst (ComesAbout p b) (sym is)

-- what a query waits for does not come about, by its name
pub left_undecided : (p : Problem) (b : Budgets) (bound : ℕ) (q : Query) (a : Awaited) → awaited_by q ≡ a → FailsToCome p b a → IsAnswer p b bound q (line_without a ∷ []) true
left_undecided p b bound q a is fails = record { fails = subst (FailsToCome p b) (sym is) fails; line = ap (λ w. line_without w ∷ []) (sym is) }

module _ {K : Type 0} (sink : Ghosts K) (p : Problem) (b : Budgets) (bound : ℕ) (q : Query) (old new : K) where
  module _ (comes : ComesAbout p b (awaited_by q)) (asked : ℕ) (same : asked ≡ bound) where
    defined_bytes : (bytes : List ℕ) → AreBytesOf (AreLines p asked q) bytes → AreAnswerBytes p b bound q Defined bytes
    defined_bytes bytes h = record { lines = h.lines; are_such = record { comes = comes; are_lines = subst (λ n. AreLines p n q h.lines) same h.are_such }; are_bytes = h.are_bytes }

    defined_and : (r : Result (Unit {0}) WriteFault) → Writes sink (λ _. AreBytesOf (AreLines p asked q)) old new r → Writes sink (AreAnswerBytes p b bound q) old new (result_and r (Ok Defined))
    defined_and (Ok value) = answered sink old new value Defined defined_bytes
    defined_and (Err fault) = faulted sink old new fault (λ bytes c. elim c [ inl none ↦ inl none | inr some ↦ inr (Defined, defined_bytes bytes some.1) ])

    -- the lines of a query for which what it waits for comes about
    pub defined_told : (r : Result (Unit {0}) WriteFault) (s : Result Answered WriteFault) → s ≡ result_and r (Ok Defined) → Writes sink (λ _. AreBytesOf (AreLines p asked q)) old new r → Writes sink (AreAnswerBytes p b bound q) old new s
    defined_told r s is h = subst (λ s. Writes sink (AreAnswerBytes p b bound q) old new s) (sym is) (defined_and r h)

  -- an answer of one line
  module _ (told : Answered) (line : List ℕ) (is_answer : IsAnswer p b bound q (line ∷ []) (is_undecided told)) where
    line_bytes : (bytes : List ℕ) → bytes ≡ line → AreAnswerBytes p b bound q told bytes
    line_bytes bytes e = record { lines = line ∷ []; are_such = is_answer; are_bytes = e ∙ one_line line }

    line_and : (r : Result (Unit {0}) WriteFault) → WritesBytes sink line old new r → Writes sink (AreAnswerBytes p b bound q) old new (result_and r (Ok told))
    line_and (Ok value) = answered sink old new value told line_bytes
    line_and (Err fault) = faulted sink old new fault (λ bytes e. inr (told, line_bytes bytes e))

    pub line_told : (r : Result (Unit {0}) WriteFault) (s : Result Answered WriteFault) → s ≡ result_and r (Ok told) → WritesBytes sink line old new r → Writes sink (AreAnswerBytes p b bound q) old new s
    line_told r s is h = subst (λ s. Writes sink (AreAnswerBytes p b bound q) old new s) (sym is) (line_and r h)
