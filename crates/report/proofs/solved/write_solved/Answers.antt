use Rattle.std.proofs.Common.{◌≡◌, ℕ, false, List, [], ◌∷◌, ◌++◌, refl, sym, subst, subst₂, OnOk}
use Rattle.std.specs.Option.{option_copied}
use Rattle.froidure_pin.specs.declared.tables.CayleyTables.{CayleyTables}
use Rattle.cayley.specs.Tables.{edge}
use Rattle.problem.specs.declared.kinds.Problem.{Problem}
use Rattle.problem.specs.Problem.{count_of, letters_of}
use Rattle.element_tables.specs.CayleyGraphs.{AreTablesFor}
use Rattle.query_lang.specs.declared.script.Query.{Query}
use Rattle.query_lang.specs.declared.script.Query.TheVariants as query
use Rattle.query_lang.specs.Query.{IsQueryOf}
use Rattle.report_lines.specs.Lines.{cayley_lines, end_line}
use Rattle.report.specs.Kept.{HasElements}
use Rattle.query_answers.proofs.AnswerLemmas.{writes_lines}
use Rattle.report.proofs.KeptLaws.{known_stays, none_needed}
use Rattle.report.proofs.SolvedLemmas.{counted, solved_cayley, solved_page, solved_shape, solved_told, solved_unpaired}
use Rattle.query_answers.proofs.TableAnswers.{lines_told}
use Rattle.report.proofs.solved.write_solved.Goals as goal

-- the query that was matched is one of the problem that was solved
asked : (p s : Problem) (q r : Query) → s ≡ p → q ≡ r → IsQueryOf p q → IsQueryOf s r
asked p s q r solved is = subst₂ IsQueryOf (sym solved) is

-- what is known of the elements stays, and is enough for a query that needs nothing of them
pub returns-in-Index-clause-keeps : goal.returns-in-Index-clause-keeps
returns-in-Index-clause-keeps g c = known_stays c.args.elements.now

pub returns-in-Index-clause-found : goal.returns-in-Index-clause-found
returns-in-Index-clause-found g c = none_needed c.write_index.result c.args.query.now query.Index c.args.elements.now c.in-Index.is tt

pub returns-in-Index-clause-written : goal.returns-in-Index-clause-written
returns-in-Index-clause-written g c = solved_told g.O.Sink c.args.solved.now.problem c.args.problem.now c.args.bound query.Index c.args.query.now c.requires.solved c.in-Index.is _ _ _ c.write_index.ensures.written

pub write_same_class-requires-clause-one_each : goal.write_same_class-requires-clause-one_each
write_same_class-requires-clause-one_each g c = counted c.args.problem.now c.args.solved.now.problem c.requires.solved c.alphabet-alphabet.ensures.one_each

pub write_same_class-requires-clause-query : goal.write_same_class-requires-clause-query
write_same_class-requires-clause-query g c = asked c.args.problem.now c.args.solved.now.problem c.args.query.now (query.Equal c.in-Equal.left c.in-Equal.right) c.requires.solved c.in-Equal.is c.requires.query

pub returns-in-Equal-clause-keeps : goal.returns-in-Equal-clause-keeps
returns-in-Equal-clause-keeps g c = known_stays c.args.elements.now

pub returns-in-Equal-clause-found : goal.returns-in-Equal-clause-found
returns-in-Equal-clause-found g c = none_needed c.write_same_class.result c.args.query.now (query.Equal c.in-Equal.left c.in-Equal.right) c.args.elements.now c.in-Equal.is tt

pub returns-in-Equal-clause-written : goal.returns-in-Equal-clause-written
returns-in-Equal-clause-written g c =
    solved_told g.O.Sink c.args.solved.now.problem c.args.problem.now c.args.bound (query.Equal c.in-Equal.left c.in-Equal.right) c.args.query.now c.requires.solved c.in-Equal.is _ _ _ (c.write_same_class.ensures c.args.bound)

pub write_normal-requires-clause-query : goal.write_normal-requires-clause-query
write_normal-requires-clause-query g c = asked c.args.problem.now c.args.solved.now.problem c.args.query.now (query.Normal c.in-Normal.word) c.requires.solved c.in-Normal.is c.requires.query

pub returns-in-Normal-clause-keeps : goal.returns-in-Normal-clause-keeps
returns-in-Normal-clause-keeps g c = known_stays c.args.elements.now

pub returns-in-Normal-clause-found : goal.returns-in-Normal-clause-found
returns-in-Normal-clause-found g c = none_needed c.write_normal.result c.args.query.now (query.Normal c.in-Normal.word) c.args.elements.now c.in-Normal.is tt

pub returns-in-Normal-clause-written : goal.returns-in-Normal-clause-written
returns-in-Normal-clause-written g c =
    solved_told g.O.Sink c.args.solved.now.problem c.args.problem.now c.args.bound (query.Normal c.in-Normal.word) c.args.query.now c.requires.solved c.in-Normal.is _ _ _ (c.write_normal.ensures c.args.bound)

pub returns-in-Classes-clause-keeps : goal.returns-in-Classes-clause-keeps
returns-in-Classes-clause-keeps g c = known_stays c.args.elements.now

pub returns-in-Classes-clause-found : goal.returns-in-Classes-clause-found
returns-in-Classes-clause-found g c = none_needed c.write_classes.result c.args.query.now (query.Classes c.in-Classes.count c.in-Classes.after) c.args.elements.now c.in-Classes.is tt

pub returns-in-Classes-clause-written : goal.returns-in-Classes-clause-written
returns-in-Classes-clause-written g c =
    solved_page c.args.problem.now c.args.solved.now.problem c.requires.solved c.args.bound c.args.query.now c.in-Classes.count c.in-Classes.after (option_copied c.as_ref.result) c.alphabet-alphabet.result.now
    c.in-Classes.is c.as_ref.ensures.value c.alphabet-alphabet.ensures.letters g.O.Sink _ _ _ c.write_classes.ensures.written

pub write_rule_list-requires-clause-query : goal.write_rule_list-requires-clause-query
write_rule_list-requires-clause-query g c = asked c.args.problem.now c.args.solved.now.problem c.args.query.now query.RuleList c.requires.solved c.in-RuleList.is c.requires.query

pub returns-in-RuleList-clause-keeps : goal.returns-in-RuleList-clause-keeps
returns-in-RuleList-clause-keeps g c = known_stays c.args.elements.now

pub returns-in-RuleList-clause-found : goal.returns-in-RuleList-clause-found
returns-in-RuleList-clause-found g c = none_needed c.write_rule_list.result c.args.query.now query.RuleList c.args.elements.now c.in-RuleList.is tt

pub returns-in-RuleList-clause-written : goal.returns-in-RuleList-clause-written
returns-in-RuleList-clause-written g c =
    solved_told g.O.Sink c.args.solved.now.problem c.args.problem.now c.args.bound query.RuleList c.args.query.now c.requires.solved c.in-RuleList.is _ _ _ (c.write_rule_list.ensures c.args.bound)

pub returns-in-Cayley-clause-keeps : goal.returns-in-Cayley-clause-keeps
returns-in-Cayley-clause-keeps g c = known_stays c.args.elements.now

pub returns-in-Cayley-clause-found : goal.returns-in-Cayley-clause-found
returns-in-Cayley-clause-found g c = none_needed c.write_cayley.result c.args.query.now query.Cayley c.args.elements.now c.in-Cayley.is tt

pub returns-in-Cayley-clause-written : goal.returns-in-Cayley-clause-written
returns-in-Cayley-clause-written g c =
    let p : Problem = c.args.problem.now in
    let t : CayleyTables = c.tables.result.now in
    let lines : List (List ℕ) = cayley_lines (letters_of p) (count_of p) t.words (edge t.right) (edge t.left) ++ end_line false ∷ [] in
    let tables = subst (λ s. AreTablesFor s t) c.requires.solved c.tables.ensures in
    writes_lines g.O.Sink p c.args.bound c.args.query.now query.Cayley lines c.in-Cayley.is
    (solved_cayley p c.args.bound c.args.query.now t c.in-Cayley.is c.alphabet-alphabet.ensures.posed c.requires.query tables)
    _ _ _ _ refl c.write_cayley.ensures

pub write_green-requires-clause-shape : goal.write_green-requires-clause-shape
write_green-requires-clause-shape g c =
    solved_shape c.args.problem.now c.args.query.now (query.Green c.in-Green.relation) c.in-Green.is refl c.alphabet-alphabet.ensures.posed c.requires.query

pub write_green-requires-clause-unpaired : goal.write_green-requires-clause-unpaired
write_green-requires-clause-unpaired g c = solved_unpaired c.args.problem.now c.args.query.now (query.Green c.in-Green.relation) c.in-Green.is refl c.requires.query

pub returns-in-Green-clause-written : goal.returns-in-Green-clause-written
returns-in-Green-clause-written g c = lines_told g.O.Sink c.args.problem.now c.args.bound c.args.query.now (query.Green c.in-Green.relation) c.in-Green.is _ _ _ c.write_green.ensures.written

pub write_idempotents-requires-clause-shape : goal.write_idempotents-requires-clause-shape
write_idempotents-requires-clause-shape g c =
    solved_shape c.args.problem.now c.args.query.now query.Idempotents c.in-Idempotents.is refl c.alphabet-alphabet.ensures.posed c.requires.query

pub write_idempotents-requires-clause-unpaired : goal.write_idempotents-requires-clause-unpaired
write_idempotents-requires-clause-unpaired g c = solved_unpaired c.args.problem.now c.args.query.now query.Idempotents c.in-Idempotents.is refl c.requires.query

pub returns-in-Idempotents-clause-written : goal.returns-in-Idempotents-clause-written
returns-in-Idempotents-clause-written g c = lines_told g.O.Sink c.args.problem.now c.args.bound c.args.query.now query.Idempotents c.in-Idempotents.is _ _ _ c.write_idempotents.ensures.written

pub returns-in-Green-clause-found : goal.returns-in-Green-clause-found
returns-in-Green-clause-found g c =
    subst (λ (q : Query). OnOk c.write_green.result (HasElements q c.write_green.new.elements)) (sym c.in-Green.is) c.write_green.ensures.found

pub returns-in-Idempotents-clause-found : goal.returns-in-Idempotents-clause-found
returns-in-Idempotents-clause-found g c =
    subst (λ (q : Query). OnOk c.write_idempotents.result (HasElements q c.write_idempotents.new.elements)) (sym c.in-Idempotents.is) c.write_idempotents.ensures.found
