use Rattle.std.proofs.Common.{ℕ, List, [], Bor, subst}
use Rattle.std.proofs.lemmas.Result.{IfErr-weaker, IfOk-weaker}
use Rattle.query_lang.specs.Grammar.{HeaderReads}
use Rattle.query_lang.proofs.HeaderLemmas.{header_fault, header_reads}
use Rattle.query_lang.proofs.ReaderLemmas.{named_texts}
use Rattle.query_lang.proofs.reader.header_line.Goals as goal

pub returns-in-len1-up-clause-ok : goal.returns-in-len1-up-clause-ok
returns-in-len1-up-clause-ok c =
    IfOk-weaker c.named_header.result _ _ (λ next h. subst (λ line. HeaderReads c.args.version line next) (named_texts c.args.line.now _ c.in-len1-up.len_at_least) (header_reads c.args.version _ _ next h)) c.named_header.ensures.ok

pub returns-in-len1-up-clause-err : goal.returns-in-len1-up-clause-err
returns-in-len1-up-clause-err c =
    let name : Bor (List ℕ) = record { ref_ptr = (0, 0); now = [] } in
    IfErr-weaker c.named_header.result _ _ (λ fault h. header_fault c.args.version _ _ _ fault (named_texts c.args.line.now name c.in-len1-up.len_at_least) h) c.named_header.ensures.err
