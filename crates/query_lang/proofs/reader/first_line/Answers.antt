use Rattle.std.proofs.Common.{ℕ, List, [], Bor, sym, ◌∙◌, subst}
use Rattle.std.specs.Cmp.Lexicographic.{same_text}
use Rattle.line_parts.specs.Texts.{texts}
use Rattle.query_lang.specs.Grammar.{Nothing, Step, header}
use Rattle.query_lang.proofs.FormLemmas.{fault_handed}
use Rattle.query_lang.proofs.HeaderLemmas.{version_fault, version_reads}
use Rattle.query_lang.proofs.ReaderLemmas.{named_texts}
use Rattle.query_lang.proofs.reader.first_line.Goals as goal

pub returns-in_ok-version_of-in-len1-up-clause-ok : goal.returns-in_ok-version_of-in-len1-up-clause-ok
returns-in_ok-version_of-in-len1-up-clause-ok c =
    let name : Bor (List ℕ) = record { ref_ptr = (0, 0); now = [] } in
    subst (Step Nothing (texts c.args.line.now)) (sym c.versioned.ensures)
    (version_reads (texts c.args.line.now) _ _ _ (named_texts c.args.line.now name c.in-len1-up.len_at_least) (same_text _ _ (sym (sym c.is_word.ensures ∙ c.if-is_word.true))) c.requires (sym c.version_of.ensures ∙ c.in_ok-version_of-in-len1-up.was))

pub returns-in_ok-header_line-in_default-clause-ok : goal.returns-in_ok-header_line-in_default-clause-ok
returns-in_ok-header_line-in_default-clause-ok c =
    subst (Step Nothing (texts c.args.line.now)) (sym c.reading.ensures) (header c.requires c.in_ok-header_line-in_default.ensures.ok)

pub returns-in_err-version_of-in-len1-up-clause-err : goal.returns-in_err-version_of-in-len1-up-clause-err
returns-in_err-version_of-in-len1-up-clause-err c =
    let name : Bor (List ℕ) = record { ref_ptr = (0, 0); now = [] } in
    fault_handed _ _ _ c.from_residual.ensures.1
    (version_fault (texts c.args.line.now) _ _ _ (named_texts c.args.line.now name c.in-len1-up.len_at_least) (same_text _ _ (sym (sym c.is_word.ensures ∙ c.if-is_word.true))) (sym c.version_of.ensures ∙ c.in_err-version_of-in-len1-up.was))
