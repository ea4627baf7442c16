use Rattle.std.proofs.Common.{subst}
use Rattle.coincidence.specs.Pending.{IsAmong}
use Rattle.coincidence.specs.Uses.{IsDueInList}
use Rattle.coincidence.proofs.StartLaws.{mask_list}
use Rattle.coincidence.proofs.reads.due_at_fronts.Goals as goal

pub due_in_list-requires-clause-within : goal.due_in_list-requires-clause-within
due_in_list-requires-clause-within c = λ i p h. c.requires.within i p (subst (λ z. IsAmong (i, p) z) c.as_slice.ensures h)

pub returns-in-None-clause-due : goal.returns-in-None-clause-due
returns-in-None-clause-due c = subst (λ z. IsDueInList c.args.edges.now.graph c.args.begun.now.pairs.now c.args.node z c.due_in_list.result) c.as_slice.ensures c.due_in_list.ensures.due

pub returns-in-Some-clause-due : goal.returns-in-Some-clause-due
returns-in-Some-clause-due c =
    mask_list c.args.edges.now.graph c.args.begun.now.pairs.now c.args.node c.unseen.result c.args.fronts.now c.args.seen.now c.due_in_mask.result c.requires.node c.requires.seen
    c.requires.within (λ i p h. c.unseen.ensures i (c.in-Some.ensures i p h)) c.due_in_mask.ensures.due
