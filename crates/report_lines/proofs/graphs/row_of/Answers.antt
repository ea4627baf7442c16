use Rattle.std.proofs.Common.{ℕ, [], codes, decimal, get_or, ap, ◌∙◌, ◌++◌}
use Rattle.froidure_pin.specs.declared.tables.CayleyTables.{CayleyTables}
use Rattle.words.specs.WordText.{text_of}
use Rattle.cayley.specs.Tables.{edge}
use Rattle.problem.specs.declared.kinds.Problem.{Problem}
use Rattle.problem.specs.Problem.{letters_of, count_of}
use Rattle.report_lines.specs.Lines.{numbers_text}
use Rattle.report_lines.proofs.GraphLemmas.{row_numbers, row_texts}
use Rattle.report_lines.proofs.graphs.row_of.Goals as goal

pub returns : goal.returns
returns c =
    let p : Problem = c.args.problem.now in
    let t : CayleyTables = c.args.tables.now in
    let i : ℕ = c.args.number in
    let right = row_numbers p t c.requires.tables i c.requires.number t.right c.requires.tables.fit.right in
    let left = row_numbers p t c.requires.tables i c.requires.number t.left c.requires.tables.fit.left in
    row_texts (decimal i) (codes " ") (text_of (letters_of p) (get_or t.words i [])) (codes " right") (numbers_text (count_of p) (edge t.right i)) (codes " left") (numbers_text (count_of p) (edge t.left i)) (codes "\n")
    c.in_ok-line.line c.put_element.new.line c.put_edges.new.line c.put_edges-2.new.line c.in_ok-line.ensures c.in_ok-put_element.ensures
    (c.in_ok-put_edges.ensures ∙ ap (λ x. c.put_element.new.line ++ (codes " right" ++ x)) right) (c.in_ok-put_edges-2.ensures ∙ ap (λ x. c.put_edges.new.line ++ (codes " left" ++ x)) left)
