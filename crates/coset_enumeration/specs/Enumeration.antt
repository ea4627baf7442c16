-- A coset enumeration with a budget of definitions or rows, and where it stands.
use Rattle.std.specs.Prelude.{◌≡◌, ◌≢◌, ℕ, ◌≤◌, nat_lt, Bool, true, false, List, [], ◌∷◌, cond}
use Rattle.theory.specs.Word.{Word}
use Rattle.theory.specs.Congruence.{Congruence}
use Rattle.theory.specs.Graph.{Graph, PathsRelate}
use Rattle.coincidence.specs.Table.{CosetTable, bare}
use Rattle.race.specs.declared.engines.Progress.{Progress}
use Rattle.race.specs.declared.engines.Progress.TheVariants.{More, Decided, Spent, NoMemory}

-- whether a strategy ends for a congruence within a budget
pub record EnumerationTask : Type 0 where
  pub congruence : Congruence
  pub budget : ℕ

-- an enumeration: what it was made for, its budget, the definitions or rows made, whether a turn
-- was made, the graph of its coset table, and what the last turn gave
pub record EnumerationRun : Type 0 where
  pub congruence : Congruence
  pub budget : ℕ
  pub made : ℕ
  pub begun : Bool
  pub graph : Graph
  pub said : Progress

-- the same, of a coset table
abbrev pub run_of : CosetTable → ℕ → ℕ → Bool → Progress → EnumerationRun
run_of t budget made begun said = record {
  congruence = t.congruence;
  budget = budget;
  made = made;
  begun = begun;
  graph = t.graph;
  said = said;
}

-- the paths of the graph relate what the facts do at a stage of the strategy, with the words that
-- have been defined, or had their row, by then
pub record IsAt (Stage : List Word → Type 0) (Facts : List Word → Word → Word → Type 0)
    (g : Graph) : Type 0 where
  pub words : List Word
  pub stage : Stage words
  pub shows : PathsRelate g (Facts words)

-- the table was made, and nothing else
pub record IsFresh (t : CosetTable) : Type 0 where
  pub graph : t.graph ≡ bare t.congruence
  pub marked : t.marked ≡ false ∷ []
  pub failed : t.failed ≡ false

-- what a turn gives, by whether there is more to do, the definitions or rows made and the budget
abbrev pub answer_of : Bool → ℕ → ℕ → Progress
answer_of goes_on made budget = cond goes_on (cond (nat_lt made budget) More Spent) Decided

-- what the last turn gave is true: Ends is the condition, Found what is known where it has decided,
-- Stage what a turn leaves, and Due what a further one goes on from
pub record IsTold (Ends Found Stage Due : Type 0) (run : EnumerationRun) : Type 0 where
  pub decided : run.said ≡ Decided → Ends
  pub found : run.said ≡ Decided → Found
  pub spent : run.said ≡ Spent → Ends → ⊥
  pub stage : run.said ≢ NoMemory → run.begun ≡ true → Stage
  pub within : run.said ≢ NoMemory → run.made ≤ run.budget
  pub due : run.said ≡ More → Due
  pub ended : run.said ≢ More → run.begun ≡ true
