use Rattle.std.proofs.Common.{rules, ◌≡◌, IfSome, Option, Some, sym, subst}
use Rattle.ports.proofs.WriteLemmas.{handed_on, refused}
use Rattle.froidure_pin.specs.declared.tables.CayleyTables.{CayleyTables}
use Rattle.element_tables.specs.CayleyGraphs.{AreTablesFor}
use Rattle.problem.specs.declared.kinds.Problem.{Problem}
use Rattle.problem.specs.Problem.{letters_of}
use Rattle.report_lines.specs.Known.{AreKnownOf, AreTextsOf, HasGreen}
use Rattle.report_lines.specs.Texts.{AreTexts, JoinedTexts}
use Rattle.report_lines.specs.declared.known.KnownElements.{KnownElements}
use Rattle.report_lines.proofs.GreenLists.{green_told}
use Rattle.report_lines.proofs.GreenTables.{commutes}
use Rattle.report_lines.proofs.ResultLaws.{of_each}
use Rattle.report_lines.proofs.SameTables.{known_alike}
use Rattle.report_lines.proofs.greens.write_green.Goals as goal

-- the texts that are known
known_texts : (p : Problem) (t : CayleyTables) (known : KnownElements) (texts : JoinedTexts) → AreTablesFor p t → AreKnownOf p known → known.texts ≡ Some texts → AreTextsOf p t texts
known_texts p t known texts tables h e = subst (λ (o : Option JoinedTexts). IfSome o (AreTextsOf p t)) e (h.texts t tables)

pub returns-in_err-find_texts-clause-written : goal.returns-in_err-find_texts-clause-written
returns-in_err-find_texts-clause-written g c = handed_on g.O.Sink _ _ _ _ c.from_residual.ensures.1 (refused g.O.Sink c.args.sink.now)

pub class_lines-requires-clause-commute : goal.class_lines-requires-clause-commute
class_lines-requires-clause-commute g c = commutes c.args.problem.now c.args.tables.now c.requires.shape c.requires.tables

pub returns-in_err-lines-clause-known : goal.returns-in_err-lines-clause-known
returns-in_err-lines-clause-known g c = record {
  names = λ s other. known_alike c.args.problem.now c.requires.shape c.requires.unpaired c.args.tables.now s c.requires.tables other c.class_lines.new.names c.class_lines.ensures.known;
  texts = c.find_texts.ensures.known.texts;
}

pub returns-in_err-lines-clause-written : goal.returns-in_err-lines-clause-written
returns-in_err-lines-clause-written g c = handed_on g.O.Sink _ _ _ _ c.from_residual-in_err-lines.ensures.1 (refused g.O.Sink c.args.sink.now)

pub returns-clause-known : goal.returns-clause-known
returns-clause-known g c = record {
  names = λ s other. known_alike c.args.problem.now c.requires.shape c.requires.unpaired c.args.tables.now s c.requires.tables other c.class_lines.new.names c.class_lines.ensures.known;
  texts = c.find_texts.ensures.known.texts;
}

pub returns-clause-written : goal.returns-clause-written
returns-clause-written g c =
    let p : Problem = c.args.problem.now in
    let t : CayleyTables = c.args.tables.now in
    let known : c.find_texts.new.self.texts ≡ Some c.unwrap-texts.result.now = search rules in
    let texts : AreTexts (letters_of p) t.words c.in_ok-lines.lines.texts =
    subst (AreTexts (letters_of p) t.words) (sym c.in_ok-lines.ensures.texts) (known_texts p t c.find_texts.new.self c.unwrap-texts.result.now c.requires.tables c.find_texts.ensures.known known).1 in
    let found = c.in_ok-lines.ensures.lines in
    green_told p t c.requires.shape c.requires.unpaired c.requires.tables g.O.Sink c.args.relation c.in_ok-lines.lines found.0 found.1 texts found.2 _ _ _ c.write.ensures

pub returns-clause-found : goal.returns-clause-found
returns-clause-found g c =
    of_each c.write.result (λ _. HasGreen c.args.relation (record { names = c.class_lines.new.names; texts = c.find_texts.new.self.texts }))
    (λ _. (c.in_ok-lines.ensures.found, c.in_ok-find_texts.ensures.some))
