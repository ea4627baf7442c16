use Rattle.std.proofs.Common.{◌≡◌, ℕ, List, [], ◌∷◌, length, Option, refl, subst}
use Rattle.std.specs.Option.{option_copied}
use Rattle.theory.specs.Graph.{Graph}
use Rattle.ports.proofs.WriteLemmas.{handed_on, refused}
use Rattle.problem.specs.declared.kinds.Problem.{Problem}
use Rattle.problem.specs.Problem.{letters_of, value_text}
use Rattle.query_lang.specs.declared.script.Query.TheVariants as query
use Rattle.report_lines.specs.TableLines.{AreTableLines}
use Rattle.report_lines.specs.Lines.{element_line, graph_line, page_lines}
use Rattle.query_answers.proofs.AnswerLemmas.{one_line, writes_lines}
use Rattle.query_answers.proofs.TableAnswers.{join_tables, lines_told, meet_tables}
use Rattle.query_answers.proofs.told.write_told.Goals as goal

pub returns-in-ElementOf : goal.returns-in-ElementOf
returns-in-ElementOf g c bound =
    let line : List ℕ = element_line (value_text c.args.problem.now c.in-ElementOf.word) in
    writes_lines g.O.Sink c.args.problem.now bound c.args.query.now (query.ElementOf c.in-ElementOf.word) (line ∷ []) c.in-ElementOf.is refl _ _ _ _ (one_line line) c.write_element.ensures

pub returns-in_err-page-in-LowIndex : goal.returns-in_err-page-in-LowIndex
returns-in_err-page-in-LowIndex g c bound = handed_on g.O.Sink _ _ _ _ c.from_residual.ensures.1 (refused g.O.Sink c.args.sink.now)

pub returns-in_ok-page-in-LowIndex : goal.returns-in_ok-page-in-LowIndex
returns-in_ok-page-in-LowIndex g c bound =
    let p : Problem = c.args.problem.now in
    let a = c.in-LowIndex in
    let lines : List (List ℕ) = page_lines graph_line c.in_ok-page-in-LowIndex.page.tables.items c.in_ok-page-in-LowIndex.page.more in
    let after : option_copied c.as_ref.result ≡ a.after = c.as_ref.ensures.value in
    writes_lines g.O.Sink p bound c.args.query.now (query.LowIndex a.two_sided a.classes a.count a.after) lines a.is
    (subst (λ (o : Option Graph). AreTableLines p a.two_sided a.classes a.count o lines) after c.in_ok-page-in-LowIndex.ensures) _ _ _ _ refl c.write_page.ensures

pub returns-in-Meet : goal.returns-in-Meet
returns-in-Meet g c bound =
    let p : Problem = c.args.problem.now in
    lines_told g.O.Sink p bound c.args.query.now (query.Meet c.in-Meet.s c.in-Meet.t) c.in-Meet.is _ _ _
    (c.write_meet.ensures (length (letters_of p)) (meet_tables p c.args.query.now c.in-Meet.s c.in-Meet.t c.in-Meet.is c.requires.query))

pub returns-in-Join : goal.returns-in-Join
returns-in-Join g c bound =
    let p : Problem = c.args.problem.now in
    lines_told g.O.Sink p bound c.args.query.now (query.Join c.in-Join.s c.in-Join.t) c.in-Join.is _ _ _
    (c.write_join.ensures (length (letters_of p)) (join_tables p c.args.query.now c.in-Join.s c.in-Join.t c.in-Join.is c.requires.query))
