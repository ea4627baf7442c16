use Rattle.std.proofs.Common.{List, ℕ, [], ◌∷◌, length, refl, sym, ap, ◌∙◌}
use Rattle.ports.proofs.WriteLemmas.{handed_on, refused}
use Rattle.theory.specs.Word.{Word}
use Rattle.problem.specs.declared.kinds.Problem.{Problem}
use Rattle.problem.specs.Problem.{letters_of}
use Rattle.query_lang.specs.declared.script.Query.TheVariants as query
use Rattle.report_lines.specs.Lines.{normal_line}
use Rattle.query_answers.proofs.AnswerLemmas.{writes_lines, one_line}
use Rattle.report.proofs.SolvedLemmas.{element_counted, normal_over, solved_normal}
use Rattle.report.proofs.solved.write_normal.Goals as goal

pub returns-in_err-normal : goal.returns-in_err-normal
returns-in_err-normal g c bound = handed_on g.O.Sink _ _ _ _ c.from_residual.ensures.1 (refused g.O.Sink c.args.sink.now)

pub normal-requires : goal.normal-requires
normal-requires g c = element_counted c.args.solved.now.problem c.args.word.now (c.requires.one_each ∙ ap length (sym c.requires.letters)) c.requires.query.over

pub write_normal_form-requires : goal.write_normal_form-requires
write_normal_form-requires g c =
    let p : Problem = c.args.solved.now.problem in
    normal_over p p refl c.args.alphabet.now c.in_ok-normal.normal (sym c.requires.letters) (c.requires.one_each ∙ ap length (sym c.requires.letters)) c.in_ok-normal.ensures.least

pub returns : goal.returns
returns g c bound =
    let p : Problem = c.args.solved.now.problem in
    let letters : List ℕ = letters_of p in
    let normal : Word = c.in_ok-normal.normal in
    let asked = query.Normal c.args.word.now in
    writes_lines g.O.Sink p bound asked asked (normal_line letters normal ∷ []) refl (solved_normal p p refl bound c.args.word.now normal c.in_ok-normal.ensures)
    _ _ _ _ (ap (λ ls. normal_line ls normal) (sym c.requires.letters) ∙ one_line (normal_line letters normal)) c.write_normal_form.ensures
