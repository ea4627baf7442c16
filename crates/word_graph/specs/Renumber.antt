-- Nodes that are numbered anew.
use Rattle.std.specs.Prelude.{ℕ, List, slice_index_or, Option, None, option_and_then}

-- the place of the node that an edge leads to
abbrev pub renumber : List (Option ℕ) → Option ℕ → Option ℕ
renumber places t = option_and_then (λ m. slice_index_or places m None) t
