use Rattle.std.proofs.Common.{subst, sym}
use Rattle.coincidence.specs.Seen.{HoldWhereSeen}
use Rattle.coincidence.proofs.reads.due_at_start.Goals as goal

pub due_in_lists-requires-clause-seen : goal.due_in_lists-requires-clause-seen
due_in_lists-requires-clause-seen c = subst (λ z. HoldWhereSeen z c.args.edges.now.graph c.args.seen.now) (sym c.relations.ensures) c.requires.seen

pub due_where_open-requires-clause-seen : goal.due_where_open-requires-clause-seen
due_where_open-requires-clause-seen c = subst (λ z. HoldWhereSeen z c.args.edges.now.graph c.args.seen.now) (sym c.relations.ensures) c.requires.seen

pub returns-in-None-clause-seen : goal.returns-in-None-clause-seen
returns-in-None-clause-seen c = subst (λ z. HoldWhereSeen z c.args.edges.now.graph c.due_in_lists.new.seen) c.relations.ensures c.due_in_lists.ensures.seen

pub returns-in-Some-clause-seen : goal.returns-in-Some-clause-seen
returns-in-Some-clause-seen c = subst (λ z. HoldWhereSeen z c.args.edges.now.graph c.due_where_open.new.seen) c.relations.ensures c.due_where_open.ensures.seen
