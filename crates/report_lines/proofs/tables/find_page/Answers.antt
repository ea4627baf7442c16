use Rattle.std.proofs.Common.{◌≡◌, ℕ, true, false, length, IfOk, Option, option_map, sym, subst}
use Rattle.std.specs.Option.{option_copied}
use Rattle.theory.specs.Congruence.{Presentation}
use Rattle.theory.specs.LowIndex.{Rows, graph_of}
use Rattle.problem.specs.Problem.{letters_of}
use Rattle.sims_one.specs.Pages.{IsTablePage}
use Rattle.report_lines.specs.TableLines.{AreTableLines, IsListed}
use Rattle.report_lines.specs.Lines.{graph_line, page_lines}
use Rattle.report_lines.proofs.TablePages.{page_found}
use Rattle.report_lines.proofs.tables.find_page.Goals as goal

pub returns-then-two_sided : goal.returns-then-two_sided
returns-then-two_sided g c =
    let k : ℕ = length (letters_of c.args.problem.now) in
    subst (λ b. IfOk c.page_two_sided.result (λ page. AreTableLines c.args.problem.now b c.args.classes c.args.count (option_copied c.args.after) (page_lines graph_line page.tables.items page.more))) (sym c.if-two_sided.true)
    (page_found c.args.problem.now c.in-Presented.congruence true k c.args.classes c.args.count (option_copied c.args.after) c.page_two_sided.result c.in-Presented.is c.requires.after
    (subst (λ (p : Presentation). IfOk c.page_two_sided.result (λ page. (cursor : Option Rows) → option_copied c.args.after ≡ option_map graph_of cursor
    → IsTablePage (IsListed true p c.args.classes) cursor c.args.count page.tables.items page.more)) c.presentation-presentation.ensures.presentation c.page_two_sided.ensures))

pub returns-else-two_sided : goal.returns-else-two_sided
returns-else-two_sided g c =
    let k : ℕ = length (letters_of c.args.problem.now) in
    subst (λ b. IfOk c.page.result (λ page. AreTableLines c.args.problem.now b c.args.classes c.args.count (option_copied c.args.after) (page_lines graph_line page.tables.items page.more))) (sym c.if-two_sided.false)
    (page_found c.args.problem.now c.in-Presented.congruence false k c.args.classes c.args.count (option_copied c.args.after) c.page.result c.in-Presented.is c.requires.after
    (subst (λ (p : Presentation). IfOk c.page.result (λ page. (cursor : Option Rows) → option_copied c.args.after ≡ option_map graph_of cursor
    → IsTablePage (IsListed false p c.args.classes) cursor c.args.count page.tables.items page.more)) c.presentation-presentation.ensures.presentation c.page.ensures))
