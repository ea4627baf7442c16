-- Tables of low index in pages: their order, their rows in graphs, and their lines.
use Rattle.std.proofs.Common.{◌≡◌, ℕ, Bool, true, false, zero, suc, ◌<◌, ◌≤◌, List, [], ◌∷◌, ◌++◌, length, map, Option, Some, None, IfSome, Result, Ok, Err, IfOk, refl, sym, ap, ap₂, subst, ◌∙◌, arith, inl, inr, option_map}
use Rattle.std.proofs.lemmas.Bool.{cases_lt}
use Rattle.std.specs.Option.{unwrap_or}
use Rattle.theory.specs.Listing.{IsStrictOrder}
use Rattle.theory.specs.Congruence.{Presentation}
use Rattle.theory.specs.Graph.{Graph, target}
use Rattle.theory.specs.LowIndex.{Rows, graph_of, IsStandard, IsLowIndex, TableLess}
use Rattle.theory.proofs.TableLaws as laws
use Rattle.word_graph.specs.Standard.{IsStandardGraph}
use Rattle.presentation.specs.Presented.{Posed}
use Rattle.problem.specs.declared.kinds.Problem.{Problem}
use Rattle.problem.specs.declared.kinds.Problem.TheVariants.{Presented}
use Rattle.ports.specs.declared.fault.NoMemory.{NoMemory}
use Rattle.sims_one.specs.declared.pages.TablePage.{TablePage}
use Rattle.sims_one.specs.Pages.{IsTablePage}
use Rattle.line_parts.specs.Tables.{rows_in}
use Rattle.report_lines.specs.TableLines.{AreTableLines, IsListed}
use Rattle.report_lines.specs.Lines.{end_line, graph_line, page_lines, table_line}

-- over no letter there is one standard table
row_alone : (rows : Rows) → IsStandard 0 rows → rows ≡ [] ∷ []
row_alone [] standard = absurd (omega (arith, standard.rooted))
row_alone ([] ∷ []) standard = refl
row_alone ((n ∷ row) ∷ []) standard = absurd (omega (arith, standard.width 0 [] (omega arith)))
row_alone (row ∷ next ∷ rows) standard =
    let at = standard.appears 1 (omega arith) (omega arith) in
    absurd (no_edge row at.0 at.1 at.2 (standard.width 0 [] (omega arith)) at.3)
  where
    no_edge : (r : List ℕ) (before letter : ℕ) → before < 1 → length r ≡ 0 → target (graph_of (r ∷ next ∷ rows)) before letter ≡ Some 1 → ⊥
    no_edge [] zero letter less width e = cc
    no_edge (n ∷ r) zero letter less width e = omega (arith, width)
    no_edge r (suc before) letter less width e = omega (arith, less)

-- the order of tables is strict and total, over any letters
pub table_order : (p : Presentation) (n : ℕ) → IsStrictOrder (IsLowIndex p n) TableLess
table_order p n = elim (cases_lt 0 p.letters) [
  | inl some ↦ laws.table_order p n some
  | inr none ↦ record {
    cases = λ s t left right. inr (inl (alone s left none ∙ sym (alone t right none)));
    irrefl = laws.table_irrefl;
    trans = laws.table_trans;
  }
]
  where
    alone : (s : Rows) → IsLowIndex p n s → p.letters ≤ 0 → s ≡ [] ∷ []
    alone s low none = row_alone s (subst (λ k. IsStandard k s) (let e : p.letters ≡ 0 = omega (arith, none) in e) low.standard)

-- and of those that are listed
pub listed_order : (two_sided : Bool) (p : Presentation) (n : ℕ) → IsStrictOrder (IsListed two_sided p n) TableLess
listed_order false p n = table_order p n
listed_order true p n =
    let order = table_order p n in
    record {
      cases = λ s t left right. order.cases s t left.low right.low;
      irrefl = order.irrefl;
      trans = order.trans;
    }

-- the rows of the graph of rows
row_in : (row : List ℕ) → map (λ t. unwrap_or t 0) (map Some row) ≡ row
row_in [] = refl
row_in (n ∷ row) = ap (λ ns. n ∷ ns) (row_in row)

pub rows_back : (rows : Rows) → rows_in (graph_of rows) ≡ rows
rows_back [] = refl
rows_back (row ∷ rows) = ap₂ (λ r rs. r ∷ rs) (row_in row) (rows_back rows)

-- a standard graph is that of its rows
graphs_back : (k : ℕ) (after : Option Graph) → IfSome after (IsStandardGraph k) → after ≡ option_map graph_of (option_map rows_in after)
graphs_back k None h = refl
graphs_back k (Some g) h = ap (λ x. Some x) (h.is ∙ sym (ap graph_of (ap rows_in h.is ∙ rows_back h.rows)))

lines_of_rows : (tables : List Rows) → map graph_line (map graph_of tables) ≡ map table_line tables
lines_of_rows [] = refl
lines_of_rows (rows ∷ tables) = ap (λ lines. table_line rows ∷ lines) (lines_of_rows tables)

-- a page of tables, as lines
pub page_told : (p : Problem) (q : Posed) (two_sided : Bool) (k classes count : ℕ) (after : Option Graph) (graphs : List Graph) (more : Bool) → p ≡ Presented q → IfSome after (IsStandardGraph k)
    → ((cursor : Option Rows) → after ≡ option_map graph_of cursor → IsTablePage (IsListed two_sided q.congruence.presentation classes) cursor count graphs more)
    → AreTableLines p two_sided classes count after (page_lines graph_line graphs more)
page_told p q two_sided k classes count after graphs more is standard found =
    let page = found (option_map rows_in after) (graphs_back k after standard) in
    subst (λ (r : Problem). AreTableLines r two_sided classes count after (page_lines graph_line graphs more)) (sym is)
    (record {
      items = page.rows;
      more = more;
      is_page = page.page;
      are_lines = ap (λ gs. page_lines graph_line gs more) page.are ∙ ap (λ lines. lines ++ end_line more ∷ []) (lines_of_rows page.rows);
    })

-- the same of what a search gives
pub page_found : (p : Problem) (q : Posed) (two_sided : Bool) (k classes count : ℕ) (after : Option Graph) (r : Result TablePage NoMemory) → p ≡ Presented q → IfSome after (IsStandardGraph k)
    → IfOk r (λ page. (cursor : Option Rows) → after ≡ option_map graph_of cursor → IsTablePage (IsListed two_sided q.congruence.presentation classes) cursor count page.tables.items page.more)
    → IfOk r (λ page. AreTableLines p two_sided classes count after (page_lines graph_line page.tables.items page.more))
page_found p q two_sided k classes count after (Ok page) is standard found =
    page_told p q two_sided k classes count after page.tables.items page.more is standard found
page_found p q two_sided k classes count after (Err fault) is standard found = tt
