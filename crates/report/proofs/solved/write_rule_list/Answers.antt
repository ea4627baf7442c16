use Rattle.std.proofs.Common.{List, ℕ, false, [], ◌∷◌, ◌++◌, map, length, refl, sym, ap, ◌∙◌, subst}
use Rattle.ports.proofs.WriteLemmas.{handed_on, refused}
use Rattle.theory.specs.Word.{Word}
use Rattle.theory.specs.Class.{IsRuleList}
use Rattle.problem.specs.declared.kinds.Problem.{Problem}
use Rattle.problem.specs.Problem.{SameClassOf, letters_of}
use Rattle.query_lang.specs.declared.script.Query.TheVariants as query
use Rattle.report_lines.specs.LineBytes.{bytes_of}
use Rattle.report_lines.specs.Lines.{rule_line, end_line}
use Rattle.query_answers.proofs.AnswerLemmas.{writes_lines}
use Rattle.report.proofs.SolvedLemmas.{solved_rules, solved_rules_over}
use Rattle.report.proofs.solved.write_rule_list.Goals as goal

pub returns-in_err-rules : goal.returns-in_err-rules
returns-in_err-rules g c bound = handed_on g.O.Sink _ _ _ _ c.from_residual.ensures.1 (refused g.O.Sink c.args.sink.now)

pub write_rules-requires : goal.write_rules-requires
write_rules-requires g c =
    let p : Problem = c.args.solved.now.problem in
    let listed = subst (IsRuleList (SameClassOf p)) (sym c.into_vec-rules.ensures.rules) c.in_ok-rules.ensures in
    solved_rules_over p p refl c.args.alphabet.now c.into_vec-rules.result.items (sym c.requires.letters) (c.requires.one_each ∙ ap length (sym c.requires.letters)) listed

pub returns : goal.returns
returns g c bound =
    let p : Problem = c.args.solved.now.problem in
    let rules : List (Word × Word) = c.into_vec-rules.result.items in
    let lines : List (List ℕ) = map (rule_line (letters_of p)) rules ++ end_line false ∷ [] in
    let listed = subst (IsRuleList (SameClassOf p)) (sym c.into_vec-rules.ensures.rules) c.in_ok-rules.ensures in
    writes_lines g.O.Sink p bound query.RuleList query.RuleList lines refl (solved_rules p p refl bound rules listed)
    _ _ _ _ (ap (λ ls. bytes_of (map (rule_line ls) rules ++ end_line false ∷ [])) (sym c.requires.letters)) c.write_rules.ensures
