-- The lines of tables of low index.
use Rattle.std.specs.Prelude.{ℕ, Bool, true, false, List, Option, option_map}
use Rattle.theory.specs.Graph.{Graph}
use Rattle.theory.specs.Congruence.{Presentation}
use Rattle.theory.specs.LowIndex.{IsLowIndex, Rows, TableLess}
use Rattle.theory.specs.TwoSidedTable.{IsTwoSidedLowIndex}
use Rattle.problem.specs.declared.kinds.Problem.{Problem}
use Rattle.problem.specs.Problem.{OfProblem}
use Rattle.line_parts.specs.Tables.{rows_in}
use Rattle.report_lines.specs.Lines.{table_line}
use Rattle.report_lines.specs.Pages.{ArePageLines}

-- a table of low index, or one that is two-sided too
abbrev pub IsListed : (two_sided : Bool) → Presentation → ℕ → Rows → Type 0
IsListed false p classes = IsLowIndex p classes
IsListed true p classes = IsTwoSidedLowIndex p classes

-- the lines of a page of tables of at most so many classes, where relations are given
abbrev pub AreTableLines : Problem → (two_sided : Bool) → ℕ → ℕ → Option Graph → List (List ℕ)
    → Type 0
AreTableLines problem two_sided classes count after = OfProblem
    (λ p. ArePageLines (IsListed two_sided p.congruence.presentation classes) TableLess table_line
    (option_map rows_in after) count)
    (λ _ _ _ _. ⊥) problem
