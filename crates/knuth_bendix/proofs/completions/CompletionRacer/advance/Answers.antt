use Rattle.std.proofs.Common.{◌∙◌, ap}
use Rattle.knuth_bendix.proofs.SpelledChains.{IsSettled, settled_log}
use Rattle.knuth_bendix.specs.Runs.{CompletionRun}
use Rattle.knuth_bendix.proofs.Turns.{Leaves, turn_leaves}
use Rattle.knuth_bendix.proofs.completions.CompletionRacer.advance.Goals as goal

after_turn : (c : goal.After-said-1)
    → Leaves c.args.self.now.left c.self.inside.presentation.presentation c.self.inside.length c.told_by-said.new.rules c.go_on-turn.new.pending.equations c.told_by-said.result
after_turn c =
    turn_leaves c.args.self.now.left c.self.inside.presentation.presentation c.self.inside.length c.self.inside.rules c.self.inside.pending.equations
    c.go_on-turn.new.rules c.go_on-turn.new.pending.equations c.told_by-said.new.rules c.go_on-turn.result c.told_by-said.result (ap (λ (r : CompletionRun). r.left) c.self.view_is)
    c.go_on-turn.ensures.turn c.told_by-said.ensures

settled : (c : goal.After-said-1)
    → IsSettled c.self.inside.presentation.presentation c.self.inside.pending.log c.settle.new.log c.told_by-said.new.rules c.go_on-turn.new.pending.equations c.told_by-said.result
settled c =
    settled_log c.self.inside.presentation.presentation c.self.inside.pending.log c.go_on-turn.new.pending.log c.settle.new.log c.go_on-turn.new.rules c.go_on-turn.new.pending.equations
    c.told_by-said.new.rules c.go_on-turn.result c.told_by-said.result c.self.invariant.1 c.go_on-turn.ensures.logged c.told_by-said.ensures c.settle.ensures.kept c.settle.ensures.lost

pub returns-clause-logged : goal.returns-clause-logged
returns-clause-logged c = λ n. (settled c).same n ∙ ap (λ (r : CompletionRun). r.logged) c.self.view_is

pub invariant_of-self : goal.invariant_of-self
invariant_of-self c = (record { elements = c.self.invariant.0.elements; run = (after_turn c).run }, (settled c).log_of, (settled c).held)

pub returns-clause-more : goal.returns-clause-more
returns-clause-more c = (after_turn c).nearer

pub returns-clause-short : goal.returns-clause-short
returns-clause-short c = (after_turn c).run.short

pub returns-clause-decided : goal.returns-clause-decided
returns-clause-decided c = (after_turn c).run.decided

pub returns-clause-rules : goal.returns-clause-rules
returns-clause-rules c = (after_turn c).run.kept
