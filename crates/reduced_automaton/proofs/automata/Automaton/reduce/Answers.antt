use Rattle.std.proofs.Common.{subst}
use Rattle.std.specs.Result.{IfOk}
use Rattle.theory.specs.Completion.{IsReduced, Listed, Reduces}
use Rattle.reduced_automaton.specs.Automaton.{Reading}
use Rattle.reduced_automaton.proofs.automata.Automaton.reduce.Goals as goal

pub returns-clause-reached : goal.returns-clause-reached
returns-clause-reached c =
    let P : Reading → Type 0 = λ r. IfOk c.reduce.result (λ w. Reduces (Listed r.rules) c.args.word.now w) in
    subst P c.self.view_is c.reduce.ensures.reached

pub returns-clause-reduced : goal.returns-clause-reduced
returns-clause-reduced c =
    let P : Reading → Type 0 = λ r. IfOk c.reduce.result (λ w. IsReduced (Listed r.rules) w) in
    subst P c.self.view_is c.reduce.ensures.reduced
