use Rattle.std.proofs.Common.{List, ◌∙◌, sym, subst, subst₂}
use Rattle.theory.specs.Word.{Word}
use Rattle.knuth_bendix.specs.Held.{held_of}
use Rattle.knuth_bendix.specs.Runs.{IsTurn}
use Rattle.knuth_bendix.specs.Logs.{LogsHeld}
use Rattle.knuth_bendix.proofs.LogLaws.{keeps_none, taken_held}
use Rattle.knuth_bendix.proofs.Turns.{end_turn, join_turn}
use Rattle.knuth_bendix.proofs.completions.go_on.Goals as goal

pub returns-in_ok-join-in-Some-clause-turn : goal.returns-in_ok-join-in-Some-clause-turn
returns-in_ok-join-in-Some-clause-turn c =
    join_turn c.args.presentation.now.presentation c.args.length c.args.rules.now c.args.pending.now.equations c.join.new.rules c.join.new.pending.equations c.pop.new.self
    c.in-Some.pair c.requires.sound c.in-Some.ensures.pair c.in_ok-join-in-Some.ensures.joins

pub returns-in_ok-ends-in-None-clause-turn : goal.returns-in_ok-ends-in-None-clause-turn
returns-in_ok-ends-in-None-clause-turn c =
    let Turn : List (Word × Word) → Type 0 = λ rs. IsTurn c.args.presentation.now.presentation c.args.length (held_of c.args.rules.now c.args.pending.now.equations) (held_of rs c.pop.new.self) c.last_answer.result in
    subst Turn (sym c.rebuild.ensures)
    (end_turn c.args.presentation.now.presentation c.args.length c.args.rules.now c.args.pending.now.equations c.pop.new.self c.in_ok-ends-in-None.ends c.last_answer.result
    c.requires.sound c.in-None.ensures.pair c.in_ok-ends-in-None.ensures c.last_answer.ensures)

pub join-requires-clause-pair : goal.join-requires-clause-pair
join-requires-clause-pair c =
    (taken_held c.args.pending.now.log c.args.rules.now c.args.pending.now.equations c.pop.new.self c.in-Some.pair c.in-Some.ensures.pair c.requires.held).0

pub join-requires-clause-held : goal.join-requires-clause-held
join-requires-clause-held c =
    (taken_held c.args.pending.now.log c.args.rules.now c.args.pending.now.equations c.pop.new.self c.in-Some.pair c.in-Some.ensures.pair c.requires.held).1

pub returns-in_ok-ends-in-None-clause-logged : goal.returns-in_ok-ends-in-None-clause-logged
returns-in_ok-ends-in-None-clause-logged c =
    keeps_none c.args.pending.now.log c.rebuild.new.self c.pop.new.self
    (subst₂ (λ (rs es : List (Word × Word)). LogsHeld c.args.pending.now.log rs es) (sym c.rebuild.ensures) (c.in-None.ensures.pair.0 ∙ sym c.in-None.ensures.pair.1) c.requires.held)
