use Rattle.std.proofs.Common.{inl}
use Rattle.coincidence.proofs.PlaceLaws.{group_due}
use Rattle.coincidence.proofs.crossings.due_in_group.Goals as goal

pub returns-then-is_open-clause-due : goal.returns-then-is_open-clause-due
returns-then-is_open-clause-due c =
    group_due c.args.sides.now.second c.args.sides.now.edges.now.graph c.args.sides.now.pairs.now c.args.node c.args.letter c.args.group.now c.due_of_kind.result c.due_of_kind.ensures.due

pub returns-clause-due : goal.returns-clause-due
returns-clause-due c = inl (c.is_open.ensures c.if-is_open.false)
