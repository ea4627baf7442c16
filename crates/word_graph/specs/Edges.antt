-- Graphs with one more edge or node.
use Rattle.std.specs.Prelude.{ℕ, Some}
use Rattle.theory.specs.Graph.{Graph}
use Rattle.cells.specs.Rows.{with_entry}
pub use Rattle.cells.specs.Rows.{with_node}

-- g with the edge of the letter a from the node j to m
abbrev pub with_edge : Graph → ℕ → ℕ → ℕ → Graph
with_edge g j a m = with_entry g j a (Some m)
