-- Cosets, while memory was never wanting (Sims 1994, 5.1; libsemigroups, `ToddCoxeter`).
use Rattle.std.specs.Prelude.{◌≡◌, ℕ, length}
use Rattle.theory.specs.Congruence.{Congruence, IsWellFormed}
use Rattle.theory.specs.Graph.{IsGraph}
use Rattle.coincidence.specs.Live.{IsOn, IsLiveGraph}
use Rattle.coincidence.specs.Kept.{IsKept}
use Rattle.coincidence.specs.Marks.{KeepsMarks, KeepsNumbers}
use Rattle.coincidence.specs.Pending.{IsClosedBut}
use Rattle.coincidence.specs.Seen.{HoldWhereSeen}
use Rattle.coincidence.specs.declared.cosets.Cosets.{Cosets}

-- the live cosets are those that are reached, only they are marked, the relations ask for nothing
-- but by what is pending, the order is that of the cosets, and what was seen to hold does
pub record IsWhole (c : Congruence) (t : Cosets) : Type 0 where
  pub congruence : IsWellFormed c
  pub graph : IsGraph c.presentation.letters t.edges.graph
  pub lives : IsLiveGraph t.edges.graph t.live.items
  pub shape : length t.marked.items ≡ length t.edges.graph
  pub marks : (n : ℕ) → IsOn t.marked.items n → IsOn t.live.items n
  pub closed : IsClosedBut c.presentation.relations t.edges.graph t.live.items t.pending
  pub order : IsKept c.presentation.letters t.edges.graph t.marked.items t.order
  pub seen : HoldWhereSeen c.presentation.relations t.edges.graph t.seen

-- cosets became one: marks went with their words, and each that lives kept its number
pub record IsGathered (old new : Cosets) : Type 0 where
  pub marks : KeepsMarks old.edges.graph old.marked.items new.edges.graph new.marked.items
  pub numbers : KeepsNumbers old.edges.graph new.edges.graph
