use Rattle.std.proofs.lemmas.Result.{IfOk-weaker}
use Rattle.query_lang.proofs.HeaderLemmas.{letters_unmarked}
use Rattle.query_lang.proofs.header.alphabet_of.Goals as goal

pub returns-then-wide-clause-unmarked : goal.returns-then-wide-clause-unmarked
returns-then-wide-clause-unmarked c = IfOk-weaker c.wide.result _ _ (λ letters is. letters_unmarked _ letters is) c.wide.ensures.alphabet

pub returns-else-wide-clause-unmarked : goal.returns-else-wide-clause-unmarked
returns-else-wide-clause-unmarked c = IfOk-weaker c.new.result _ _ (λ letters is. letters_unmarked _ letters is) c.new.ensures.alphabet
