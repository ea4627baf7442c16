-- Edges in the order in which they became known.
use Rattle.std.specs.Prelude.{ℕ, ◌<◌, List, [], ◌∷◌, slice_set, Option, None}
use Rattle.sims_one.specs.declared.paths.TheConstants.{MOST_NODES}
use Rattle.sims_one.specs.declared.trail.TheConstants.{MOST_EDGES, MOST_LETTERS}
use Rattle.sims_one.specs.declared.trail.Edge.{Edge}

-- an edge that a table may have
pub record IsEdge (e : Edge) : Type 0 where
  pub node : e.node < MOST_NODES
  pub letter : e.letter < MOST_LETTERS
  pub place : e.place < MOST_EDGES

-- the targets without those of these edges
abbrev pub without : List (Option ℕ) → List Edge → List (Option ℕ)
without targets [] = targets
without targets (e ∷ es) = slice_set (without targets es) e.place None
