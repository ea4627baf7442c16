-- Rows read in order, and the greatest node seen.
use Rattle.std.specs.Prelude.{◌≡◌, ℕ, suc, ◌<◌, nat_lt, cond, max, take, List, [], ◌∷◌, Option, Some, None}
use Rattle.theory.specs.Graph.{target}
use Rattle.theory.specs.LowIndex.{Rows, graph_of, entries, IsNumberedFrom}

-- the greatest node seen after more entries
abbrev pub max_from : ℕ → List ℕ → ℕ
max_from seen [] = seen
max_from seen (n ∷ ns) = max_from (max seen n) ns

-- the greatest node seen after an entry, unless it is more than one greater than all before
abbrev pub seen_at : Option ℕ → ℕ → Option ℕ
seen_at None seen = Some seen
seen_at (Some n) seen = cond (nat_lt (suc seen) n) None (Some (max seen n))

-- the rows before the node are numbered by first appearance, the greatest node seen in them, and
-- each node before appears before its row
pub record IsSeenTo (rows : Rows) (node seen : ℕ) : Type 0 where
  pub numbered : IsNumberedFrom 0 (entries (take node rows))
  pub seen_is : seen ≡ max_from 0 (entries (take node rows))
  pub appears : (i : ℕ) → 0 < i → i < node
      → (before letter : ℕ) × (before < i) × (target (graph_of rows) before letter ≡ Some i)
