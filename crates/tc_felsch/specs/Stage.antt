-- Where Felsch's strategy stands.
use Rattle.std.specs.Prelude.{◌≡◌, ◌≢◌, ℕ, suc, ◌+◌, ◌-◌, ◌<◌, ◌≤◌, Bool, true, false, length, cond, Option, None, Some}
use Rattle.theory.specs.Congruence.{Congruence}
use Rattle.theory.specs.Facts.{AllDefined}
use Rattle.theory.specs.Graph.{Graph, SameEnd}
use Rattle.theory.specs.Felsch.{FelschFacts, FelschStage, FelschEnds}
use Rattle.word_graph.specs.Walk.{IsFirstMissing}
use Rattle.coincidence.specs.Table.{CosetTable, IsTable}
use Rattle.race.specs.declared.engines.Progress.TheVariants.{NoMemory}
use Rattle.coset_enumeration.specs.Enumeration.{EnumerationRun, IsAt, IsFresh, IsTold}

-- the paths of the graph relate what the facts do once so many words are defined; of nodes that no
-- word leads to, as the table's graph may have them, nothing is said
abbrev pub IsAtStage : Congruence → ℕ → Graph → Type 0
IsAtStage c made = IsAt (FelschStage c made) (FelschFacts c)

-- definitions left, with one more before the first turn
abbrev pub left_of : EnumerationRun → ℕ
left_of f = (f.budget - f.made) + cond f.begun 0 1

-- a definition is due: the node and letter of the least undefined word, within the budget
pub record IsDue (t : CosetTable) (budget made : ℕ) (next : Option (ℕ × ℕ)) : Type 0 where
  pub within : made < budget
  pub node : ℕ
  pub letter : ℕ
  pub is : next ≡ Some (node, letter)
  pub first : IsFirstMissing t.congruence.presentation.letters t.graph node letter

-- what an enumeration goes on from
abbrev pub Stands : CosetTable → ℕ → ℕ → Option (ℕ × ℕ) → Bool → Type 0
Stands t budget made next false = IsFresh t × (made ≡ 0) × (next ≡ None)
Stands t budget made next true = IsDue t budget made next

-- what the last turn left; by IsTable the live nodes of the graph are those that are reached, and
-- only they have edges
pub record IsRun (t : CosetTable) (next : Option (ℕ × ℕ)) (run : EnumerationRun) : Type 0 where
  pub table : IsTable t
  pub nodes : run.said ≢ NoMemory → length t.graph ≤ suc run.made
  pub told : IsTold (FelschEnds t.congruence run.budget)
      (AllDefined t.congruence.presentation.letters (SameEnd t.graph))
      (IsAtStage t.congruence run.made t.graph) (Stands t run.budget run.made next run.begun) run
