use Rattle.std.proofs.Common.{List, IfOk, subst}
use Rattle.theory.specs.Word.{Word}
use Rattle.theory.specs.Completion.{IsReduced, Listed}
use Rattle.knuth_bendix.proofs.indexed_rules.IndexedRules.reduce_traced.Goals as goal

pub returns-clause-reduced : goal.returns-clause-reduced
returns-clause-reduced c =
    subst (λ (rs : List (Word × Word)). IfOk c.reduce_traced.result (λ r. IsReduced (Listed rs) r.0)) c.self.view_is c.reduce_traced.ensures.reduced
