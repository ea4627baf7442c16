-- Names of connected components.
use Rattle.std.specs.Prelude.{◌≡◌, ℕ, ◌<◌, ◌↔◌, List, length, slice_index}
use Rattle.theory.specs.Green.{AreConnected, IsEdge}
use Rattle.froidure_pin.specs.declared.tables.CayleyTables.{CayleyTables}
use Rattle.green.specs.EdgeRows.{next}
use Rattle.green.specs.declared.edges.Edges.{Edges}

-- numbers below n have one name exactly where they are related, and names are such numbers
pub record AreNames (n : ℕ) (R : ℕ → ℕ → Type 0) (names : List ℕ) : Type 0 where
  pub count : length names ≡ n
  pub within : (i : ℕ) → i < n → slice_index names i < n
  pub same : (i j : ℕ) → i < n → j < n → (slice_index names i ≡ slice_index names j) ↔ R i j

-- names of the components of one graph
abbrev pub AreNamesAlong : Edges → CayleyTables → List ℕ → Type 0
AreNamesAlong edges t names =
    AreNames (length t.words) (AreConnected (IsEdge (length t.letters) (next edges t))) names
