-- A cursor has one page of each size.
use Rattle.std.proofs.Common.{◌≡◌, ℕ, Bool, List, Option, option_map, sym, ap₂, ◌∙◌}
use Rattle.theory.specs.Listing.{IsStrictOrder}
use Rattle.theory.specs.Graph.{Graph}
use Rattle.theory.specs.LowIndex.{TableLess}
use Rattle.theory.proofs.Listings.{page_unique}
use Rattle.problem.specs.declared.kinds.Problem.{Problem}
use Rattle.problem.specs.declared.kinds.Problem.TheVariants as problem
use Rattle.line_parts.specs.Tables.{rows_in}
use Rattle.report_lines.specs.Lines.{page_lines, table_line}
use Rattle.report_lines.specs.Pages.{ArePageLines}
use Rattle.report_lines.specs.TableLines.{AreTableLines, IsListed}
use Rattle.report_lines.proofs.TablePages.{listed_order}

pub one_page : {A : Type 0} (P : A → Type 0) (Less : A → A → Type 0) → IsStrictOrder P Less → (line : A → List ℕ) (after : Option A) (count : ℕ) (lines others : List (List ℕ))
    → ArePageLines P Less line after count lines → ArePageLines P Less line after count others → lines ≡ others
one_page P Less order line after count lines others h g =
    let same = page_unique P Less order after count h.items g.items h.more g.more h.is_page g.is_page in
    h.are_lines ∙ ap₂ (page_lines line) same.0 same.1 ∙ sym g.are_lines

pub one_table_page : (p : Problem) (two_sided : Bool) (classes count : ℕ) (after : Option Graph) (lines others : List (List ℕ)) → AreTableLines p two_sided classes count after lines → AreTableLines p two_sided classes count after others → lines ≡ others
one_table_page (problem.Presented p) two_sided classes count after lines others h g =
    let relations = p.congruence.presentation in
    one_page (IsListed two_sided relations classes) TableLess (listed_order two_sided relations classes) table_line (option_map rows_in after) count lines others h g
one_table_page (problem.Transf p) two_sided classes count after lines others h g = absurd h
one_table_page (problem.PPerm p) two_sided classes count after lines others h g = absurd h
one_table_page (problem.BMat p) two_sided classes count after lines others h g = absurd h
one_table_page (problem.MaxPlus p) two_sided classes count after lines others h g = absurd h
