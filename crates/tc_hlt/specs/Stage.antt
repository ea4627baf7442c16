-- Where the strategy of rows stands.
use Rattle.std.specs.Prelude.{◌≡◌, ◌↔◌, ◌⊎◌, ℕ, ◌+◌, ◌-◌, ◌<◌, Bool, true, false, IsTrue, List, ◌∷◌, cond, Option, Some, MatchOption, IfSome, is_some}
use Rattle.theory.specs.Word.{Word}
use Rattle.theory.specs.Congruence.{Congruence}
use Rattle.theory.specs.Graph.{Graph, path, SameEnd, PathsRelate}
use Rattle.theory.specs.Facts.{AllDefined}
use Rattle.theory.specs.Hlt.{HltFacts, HltStage, HltEnds, HasEnded, has_lookahead, FactsFrom, Drawn, IsMet}
use Rattle.coincidence.specs.Live.{IsOn}
use Rattle.coincidence.specs.Marks.{AllMarked, IsFirstUnmarked}
use Rattle.coincidence.specs.Table.{CosetTable, IsTable}
use Rattle.coset_enumeration.specs.Enumeration.{EnumerationRun, IsAt, IsFresh, IsTold}

-- the paths of the graph relate what the facts do after so many rows; of nodes that no word leads
-- to, nothing is said
abbrev pub IsAtStage : Congruence → ℕ → Graph → Type 0
IsAtStage c made = IsAt (HltStage c made) (HltFacts c)

-- they relate what the facts of the last stage do, at which the strategy has ended
abbrev pub IsAtEnd : Congruence → ℕ → Graph → Type 0
IsAtEnd c made = IsAt (λ words. HltStage c made words × HasEnded c words) (HltFacts c)

-- rows left
abbrev pub left_of : EnumerationRun → ℕ
left_of h = h.budget - h.made

-- a word's node is marked exactly where the word is related to one of the list
abbrev pub MarksMet : CosetTable → List Word → Type 0
MarksMet t U = (u : Word) (n : ℕ) → path t.graph 0 u ≡ Some n
    → IsOn t.marked n ↔ IsMet (SameEnd t.graph) U u

-- the paths of the table relate what the facts do after so many rows, and it marks what is met; the
-- strategy has not ended with fewer
pub record HasRows (t : CosetTable) (made : ℕ) : Type 0 where
  pub words : List Word
  pub stage : HltStage t.congruence made words
  pub earlier : (i : ℕ) → i < made → HltEnds t.congruence i → ⊥
  pub shows : PathsRelate t.graph (HltFacts t.congruence words)
  pub marks : MarksMet t words
  pub failed : t.failed ≡ false

-- the same, but for the lookahead after the last row
pub record HasLastRow (t : CosetTable) (made : ℕ) : Type 0 where
  pub word : Word
  pub words : List Word
  pub stage : HltStage t.congruence made (word ∷ words)
  pub earlier : (i : ℕ) → i < made → HltEnds t.congruence i → ⊥
  pub shows : PathsRelate t.graph (FactsFrom t.congruence (Drawn t.congruence words) (word ∷ words))
  pub marks : MarksMet t (word ∷ words)
  pub failed : t.failed ≡ false

-- a lookahead has come after the last row, and each word has a path
abbrev pub IsWhole : CosetTable → ℕ → Type 0
IsWhole t made = IsTrue (has_lookahead made)
    × AllDefined t.congruence.presentation.letters (SameEnd t.graph)

-- the strategy goes on, with the row of the node
pub record IsReady (t : CosetTable) (made node : ℕ) : Type 0 where
  pub rows : HasRows t made
  pub first : IsFirstUnmarked t.graph t.marked node
  pub unended : IsWhole t made → ⊥

-- the node of the next row, or none where the strategy has ended: each node has its mark, or a
-- lookahead has found a path for each word
abbrev pub TellsNext : CosetTable → ℕ → Option ℕ → Type 0
TellsNext t made next = MatchOption next (AllMarked t.graph t.marked ⊎ IsWhole t made)
    (λ node. IsFirstUnmarked t.graph t.marked node × (IsWhole t made → ⊥))

-- what an enumeration goes on from
abbrev pub Stands : CosetTable → Bool → ℕ → ℕ → Type 0
Stands t false made node = IsFresh t × (made ≡ 0) × (node ≡ 0)
Stands t true made node = IsReady t made node

-- the enumeration stands, and with the row of the node, if one is due, so many rows are made
pub record IsTurn (t : CosetTable) (begun : Bool) (row : Option ℕ) (made : ℕ) : Type 0 where
  pub before : ℕ
  pub next : ℕ
  pub stands : Stands t begun before next
  pub is : IfSome row (λ node. node ≡ next)
  pub count : made ≡ before + cond (is_some row) 1 0

-- what the last turn left
pub record IsRun (t : CosetTable) (c : Congruence) (next : ℕ) (run : EnumerationRun) : Type 0 where
  pub table : IsTable t
  pub congruence : c ≡ t.congruence
  pub told : IsTold (HltEnds t.congruence run.budget) (IsAtEnd t.congruence run.made t.graph)
      (IsAtStage t.congruence run.made t.graph) (Stands t run.begun run.made next) run
