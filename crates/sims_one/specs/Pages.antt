-- Pages of tables.
use Rattle.std.specs.Prelude.{◌≡◌, ℕ, Bool, true, List, map, Option}
use Rattle.theory.specs.Graph.{Graph}
use Rattle.theory.specs.Listing.{IsPage}
use Rattle.theory.specs.LowIndex.{Rows, graph_of, IsLowIndex, TableLess}
use Rattle.theory.specs.TwoSidedTable.{IsTwoSidedTable}
use Rattle.sims_one.specs.Targets.{cursor_of}
use Rattle.sims_one.specs.Asked.{Asked}

-- the tables as graphs, and whether there are more behind them
pub record IsTablePage (P : Rows → Type 0) (cursor : Option Rows) (count : ℕ)
    (graphs : List Graph) (more : Bool) : Type 0 where
  pub rows : List Rows
  pub are : graphs ≡ map graph_of rows
  pub page : IsPage P TableLess cursor count rows more

-- a table that is asked for, by its rows
abbrev pub IsTableAsked : Asked → Rows → Type 0
IsTableAsked a rows = IsLowIndex a.presentation a.classes rows
    × (a.two_sided ≡ true → IsTwoSidedTable (graph_of rows))

-- the page of what is asked for
abbrev pub IsPageOf : Asked → List Graph → Bool → Type 0
IsPageOf a = IsTablePage (IsTableAsked a) (cursor_of a.presentation.letters a.cursor) a.count
