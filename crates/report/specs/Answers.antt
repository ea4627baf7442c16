-- The answers of all queries of a script.
use Rattle.ports.specs.declared.sink.Sink.{Ghosts}
use Rattle.std.specs.Prelude.{◌≡◌, ℕ, Bool, List, [], ◌∷◌, Result}
use Rattle.std.specs.List.{flat_map, list_any}
use Rattle.ports.specs.declared.fault.WriteFault.{WriteFault}
use Rattle.ports.specs.Writes.{WritesOrBegins}
use Rattle.problem.specs.declared.kinds.Problem.{Problem}
use Rattle.query_lang.specs.declared.script.Query.{Query}
use Rattle.report_lines.specs.LineBytes.{bytes_of}
use Rattle.report.specs.declared.bounds.Bounds.{Bounds}
use Rattle.report.specs.declared.state.State.{State}
use Rattle.query_answers.specs.Answer.{IsAnswer}

-- an answer: its lines, and whether the query is left undecided
pub record Answer : Type 0 where
  pub lines : List (List ℕ)
  pub undecided : Bool

-- the bytes of its lines
abbrev pub answer_bytes : Answer → List ℕ
answer_bytes a = bytes_of a.lines

abbrev pub leaves_undecided : Answer → Bool
leaves_undecided a = a.undecided

-- the answer of a query
abbrev pub IsAnswerOf : Bounds → Problem → Query → Answer → Type 0
IsAnswerOf bounds problem query a =
    IsAnswer problem bounds.budgets bounds.classes query a.lines a.undecided

-- the answers of the queries, one by one
abbrev pub AreAnswers : Bounds → Problem → List Query → List Answer → Type 0
AreAnswers bounds problem [] [] = Unit {0}
AreAnswers bounds problem [] (a ∷ answers) = ⊥
AreAnswers bounds problem (q ∷ queries) [] = ⊥
AreAnswers bounds problem (q ∷ queries) (a ∷ answers) =
    IsAnswerOf bounds problem q a × AreAnswers bounds problem queries answers

-- the answers of the first queries
abbrev pub AreFirstAnswers : Bounds → Problem → List Query → List Answer → Type 0
AreFirstAnswers bounds problem queries [] = Unit {0}
AreFirstAnswers bounds problem [] (a ∷ answers) = ⊥
AreFirstAnswers bounds problem (q ∷ queries) (a ∷ answers) =
    IsAnswerOf bounds problem q a × AreFirstAnswers bounds problem queries answers

-- the lines of the answers of these queries, in order, and whether an answer is undecided
pub record AreAllLines (bounds : Bounds) (problem : Problem) (queries : List Query)
    (report : List ℕ) (undecided : Bool) : Type 0 where
  pub answers : List Answer
  pub correct : AreAnswers bounds problem queries answers
  pub lines : report ≡ flat_map answer_bytes answers
  pub status : undecided ≡ list_any leaves_undecided answers

-- the lines of the answers of the first of these queries, in order
pub record AreFirstLines (bounds : Bounds) (problem : Problem) (queries : List Query)
    (report : List ℕ) : Type 0 where
  pub answers : List Answer
  pub correct : AreFirstAnswers bounds problem queries answers
  pub lines : report ≡ flat_map answer_bytes answers

-- a call writes the lines of these queries and tells whether an answer is undecided, or begins them
abbrev pub WritesLines : {A : Type 0} → Ghosts A → Bounds → Problem → List Query → A → A
    → Result Bool WriteFault → Type 0
WritesLines sink bounds problem queries =
    WritesOrBegins sink (λ undecided report. AreAllLines bounds problem queries report undecided)
    (AreFirstLines bounds problem queries)

-- what the state may use
abbrev pub state_bounds : State → Bounds
state_bounds state =
    record { budgets = state.budgets; classes = state.classes; workers = state.workers }
