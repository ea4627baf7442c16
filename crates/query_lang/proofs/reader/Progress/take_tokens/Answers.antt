use Rattle.std.proofs.Common.{sym, ◌∙◌}
use Rattle.query_lang.specs.Grammar.{skipped}
use Rattle.query_lang.proofs.reader.Progress.take_tokens.Goals as goal

pub returns-else-is_kept-clause-ok : goal.returns-else-is_kept-clause-ok
returns-else-is_kept-clause-ok c = skipped (sym c.is_kept.ensures ∙ c.if-is_kept.false)
