use Rattle.std.proofs.Common.{refl, sym, ◌∙◌}
use Rattle.coincidence.specs.declared.cosets.Cosets.{Cosets}
use Rattle.coincidence.proofs.HeldLaws.{read_whole}
use Rattle.coincidence.proofs.cosets.Cosets.due_unmarked.Goals as goal

pub returns-in_default-clause-whole : goal.returns-in_default-clause-whole
returns-in_default-clause-whole c =
    let new : Cosets = record c.args.self.now { pending = c.due_in_nodes.new.pending; seen = c.due_in_nodes.new.seen } in
    read_whole c.args.congruence.now.congruence c.args.self.now new refl c.due_in_nodes.ensures.closed c.due_in_nodes.ensures.seen c.requires.whole

pub returns-in_default-clause-due : goal.returns-in_default-clause-due
returns-in_default-clause-due c = c.due_in_nodes.ensures.due (λ e. c.in_default.not-Nothing e)

pub gather_unmarked-requires : goal.gather_unmarked-requires
gather_unmarked-requires c = c.requires.whole.shape ∙ sym c.requires.whole.lives.shape

pub due_next-requires-clause-closed : goal.due_next-requires-clause-closed
due_next-requires-clause-closed c =
    c.in_ok-gather_unmarked.ensures c.args.congruence.now.congruence.presentation.relations c.args.self.now.edges.graph c.requires.hold c.due_in_nodes.ensures.closed

pub returns-clause-whole : goal.returns-clause-whole
returns-clause-whole c =
    let new : Cosets = record c.args.self.now { pending = c.due_next.new.pending; seen = c.due_next.new.seen } in
    read_whole c.args.congruence.now.congruence c.args.self.now new refl c.due_next.ensures.closed c.due_next.ensures.seen c.requires.whole
