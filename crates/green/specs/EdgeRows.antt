-- Edges of the Cayley graphs in tables.
use Rattle.std.specs.Prelude.{ℕ, List}
use Rattle.froidure_pin.specs.declared.tables.CayleyTables.{CayleyTables}
use Rattle.cayley.specs.Tables.{edge}
use Rattle.green.specs.declared.edges.Edges.{Edges}
use Rattle.green.specs.declared.edges.Edges.TheVariants.{Right, Left}

-- the rows of these edges
abbrev pub rows_along : Edges → CayleyTables → List (List ℕ)
rows_along Right t = t.right
rows_along Left t = t.left

-- to which number an edge of a letter leads
abbrev pub next : Edges → CayleyTables → ℕ → ℕ → ℕ
next edges t = edge (rows_along edges t)
