-- The rows of one graph of tables that fit together.
use Rattle.std.proofs.Common.{◌≡◌, ℕ, List, length, sym, subst}
use Rattle.theory.specs.Green.{AreConnected, IsEdge}
use Rattle.froidure_pin.specs.declared.tables.CayleyTables.{CayleyTables}
use Rattle.cayley.specs.Tables.{AreEdges, FitTogether, edge}
use Rattle.green.specs.EdgeRows.{rows_along}
use Rattle.green.specs.Naming.{AreNames, AreNamesAlong}
use Rattle.green.specs.declared.edges.Edges.{Edges}
use Rattle.green.specs.declared.edges.Edges.TheVariants.{Right, Left}

rows_fit : (edges : Edges) (t : CayleyTables) → FitTogether t → AreEdges (length t.letters) (length t.words) (rows_along edges t)
rows_fit Right t fit = fit.right
rows_fit Left t fit = fit.left

module _ (edges : Edges) (t : CayleyTables) (fit : FitTogether t) (rows : List (List ℕ)) (are : rows ≡ rows_along edges t) (letters : List ℕ) (all : letters ≡ t.letters) where
  -- they are edges
  pub rows_alone : AreEdges (length letters) (length rows) rows
  rows_alone =
      subst (λ (xs : List ℕ). AreEdges (length xs) (length rows) rows) (sym all) (subst (λ (r : List (List ℕ)). AreEdges (length t.letters) (length r) r) (sym are)
      (subst (λ n. AreEdges (length t.letters) n (rows_along edges t)) (sym (rows_fit edges t fit).count) (rows_fit edges t fit)))

  -- names of their components
  pub names_alone : (names : List ℕ) → AreNames (length rows) (AreConnected (IsEdge (length letters) (edge rows))) names → AreNamesAlong edges t names
  names_alone names h =
      subst (λ n. AreNames n (AreConnected (IsEdge (length t.letters) (edge (rows_along edges t)))) names) (rows_fit edges t fit).count
      (subst (λ (r : List (List ℕ)). AreNames (length r) (AreConnected (IsEdge (length t.letters) (edge r))) names) are
      (subst (λ (xs : List ℕ). AreNames (length rows) (AreConnected (IsEdge (length xs) (edge rows))) names) all h))
