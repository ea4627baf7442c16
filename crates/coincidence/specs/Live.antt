-- Graphs of live nodes.
use Rattle.std.specs.Prelude.{◌≡◌, ◌≢◌, ℕ, ◌+◌, ◌<◌, Bool, true, false, List, [], ◌∷◌, length, slice_index_or, cond}
use Rattle.theory.specs.Graph.{Graph, PathsRelate}
use Rattle.coincidence.specs.Merged.{MergedNodes}
use Rattle.coincidence.specs.Merging.{IsReached, EdgesReached}

-- the node is live
abbrev pub IsOn : List Bool → ℕ → Type 0
IsOn live n = slice_index_or live n false ≡ true

-- the live nodes are those that are reached, and edges start there
pub record IsLiveGraph (g : Graph) (live : List Bool) : Type 0 where
  pub shape : length live ≡ length g
  pub reached : (n : ℕ) → IsOn live n → IsReached g n
  pub lives : (n : ℕ) → IsReached g n → IsOn live n
  pub edges : EdgesReached g

-- how many are live
abbrev pub count_on : List Bool → ℕ
count_on [] = 0
count_on (b ∷ bs) = cond b 1 0 + count_on bs

-- x and y are one in new, and whatever follows from that by letters, and nothing else
pub record IsIdentified (old new : Graph) (was is : List Bool) (x y : ℕ) : Type 0 where
  pub live : IsLiveGraph new is
  pub relates : PathsRelate new (MergedNodes old x y)
  pub nodes : length new ≡ length old
  pub fewer : x ≢ y → count_on is < count_on was
