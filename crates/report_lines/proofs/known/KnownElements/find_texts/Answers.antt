use Rattle.std.proofs.Common.{List, ℕ, refl, subst}
use Rattle.problem.specs.Problem.{letters_of}
use Rattle.report_lines.specs.Texts.{AreTexts}
use Rattle.report_lines.proofs.GraphLemmas.{row_word_over}
use Rattle.report_lines.proofs.SameTables.{texts_alike}
use Rattle.report_lines.proofs.known.KnownElements.find_texts.Goals as goal

pub new-requires : goal.new-requires
new-requires c = λ i within. row_word_over c.args.problem.now c.args.tables.now c.requires.tables i within c.alphabet.result.now _ c.alphabet.ensures.letters c.alphabet.ensures.one_each refl

pub returns-in_ok-new-clause-known : goal.returns-in_ok-new-clause-known
returns-in_ok-new-clause-known c =
    let texts : AreTexts (letters_of c.args.problem.now) c.args.tables.now.words c.in_ok-new.field-0 =
    subst (λ (letters : List ℕ). AreTexts letters c.args.tables.now.words c.in_ok-new.field-0) c.alphabet.ensures.letters c.in_ok-new.ensures.texts in
    record {
      names = c.requires.known.names;
      texts = λ s other. texts_alike c.args.problem.now c.requires.shape c.requires.unpaired c.args.tables.now s c.requires.tables other c.in_ok-new.field-0 (c.in_ok-new.ensures.count, texts);
    }
