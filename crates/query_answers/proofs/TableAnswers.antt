-- The answers that are tables.
use Rattle.std.proofs.Common.{◌≡◌, ℕ, List, [], ◌∷◌, length, Result, refl, sym, subst}
use Rattle.ports.specs.declared.sink.Sink.{Ghosts}
use Rattle.ports.specs.declared.fault.WriteFault.{WriteFault}
use Rattle.ports.specs.Writes.{Writes, WritesBytes}
use Rattle.ports.proofs.WriteLemmas.{meant_bytes}
use Rattle.theory.specs.Graph.{Graph}
use Rattle.theory.specs.Word.{Word}
use Rattle.lattice.specs.Tables.{AreTables, IsTableOf}
use Rattle.problem.specs.declared.kinds.Problem.{Problem}
use Rattle.problem.specs.Problem.{letters_of}
use Rattle.query_lang.specs.declared.script.Query.{Query}
use Rattle.query_lang.specs.declared.script.Query.TheVariants.{Meet, Join}
use Rattle.query_lang.specs.Query.{IsQueryOf}
use Rattle.report_lines.specs.LineBytes.{AreBytesOf}
use Rattle.query_answers.specs.Answer.{AreLines, IsTableAnswer}
use Rattle.query_answers.proofs.AnswerLemmas.{one_line}

-- the line of a table of a relation
pub table_told : {K : Type 0} (sink : Ghosts K) (line : Graph → List ℕ) (k : ℕ) (V : Word → Word → Type 0) (g : Graph) → IsTableOf k V g
    → (old new : K) (result : Result (Unit {0}) WriteFault) → WritesBytes sink (line g) old new result
    → Writes sink (λ _. AreBytesOf (IsTableAnswer line k V)) old new result
table_told sink line k V g is old new result =
    meant_bytes sink (line g) old new result tt
    (λ _. record { lines = line g ∷ []; are_such = record { table = g; is = is; are_lines = refl }; are_bytes = one_line (line g) })

-- the tables of a query are standard, over the letters of the problem
tables_of : (p : Problem) (s t : Graph) → IsQueryOf p (Meet s t) → AreTables (length (letters_of p)) s t
tables_of p s t h = record { left = h.over.0.table.standard; right = h.over.1.table.standard }

joins_of : (p : Problem) (s t : Graph) → IsQueryOf p (Join s t) → AreTables (length (letters_of p)) s t
joins_of p s t h = record { left = h.over.0.table.standard; right = h.over.1.table.standard }

pub meet_tables : (p : Problem) (q : Query) (s t : Graph) → q ≡ Meet s t → IsQueryOf p q → AreTables (length (letters_of p)) s t
meet_tables p q s t e h = tables_of p s t (subst (IsQueryOf p) e h)

pub join_tables : (p : Problem) (q : Query) (s t : Graph) → q ≡ Join s t → IsQueryOf p q → AreTables (length (letters_of p)) s t
join_tables p q s t e h = joins_of p s t (subst (IsQueryOf p) e h)

-- what is written is the answer of the query that was matched
pub lines_told : {K : Type 0} (sink : Ghosts K) (p : Problem) (bound : ℕ) (q r : Query) → q ≡ r → (old new : K) (result : Result (Unit {0}) WriteFault)
    → Writes sink (λ _. AreBytesOf (AreLines p bound r)) old new result → Writes sink (λ _. AreBytesOf (AreLines p bound q)) old new result
lines_told sink p bound q r is old new result h = subst (λ s. Writes sink (λ _. AreBytesOf (AreLines p bound s)) old new result) (sym is) h
