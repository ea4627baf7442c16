-- Standard graphs, and nodes that are numbered anew.
use Rattle.std.specs.Prelude.{◌≡◌, ℕ, List, [], map, slice_index_or, Option}
use Rattle.theory.specs.Graph.{Graph}
use Rattle.theory.specs.LowIndex.{Rows, graph_of, IsStandard}
use Rattle.word_graph.specs.Renumber.{renumber}
use Rattle.word_graph.specs.declared.walks.Step.{Step}

-- the graph is complete, and its nodes are numbered by first appearance when the rows are read in
-- order
pub record IsStandardGraph (k : ℕ) (g : Graph) : Type 0 where
  pub rows : Rows
  pub is : g ≡ graph_of rows
  pub standard : IsStandard k rows

-- the rows of the nodes of the steps, with places for nodes
abbrev pub renumbered : List Step → List (Option ℕ) → Graph → Graph
renumbered steps places g = map (λ s. map (renumber places) (slice_index_or g s.node [])) steps
