use Rattle.std.proofs.Common.{◌+◌, subst}
use Rattle.coincidence.specs.Pending.{IsAmong}
use Rattle.coincidence.specs.Uses.{IsDueInList}
use Rattle.coincidence.proofs.StartLaws.{by_letter}
use Rattle.coincidence.proofs.reads.due_by_letter.Goals as goal

pub due_in_list-requires-clause-within : goal.due_in_list-requires-clause-within
due_in_list-requires-clause-within c = λ i p h. c.requires.starts.within (c.args.letter + 1) i p (subst (λ z. IsAmong (i, p) z) c.of.ensures h)

pub returns-clause-due : goal.returns-clause-due
returns-clause-due c =
    by_letter c.args.edges.now.graph c.args.begun.now.pairs.now c.args.node c.args.letter c.args.begun.now.starts.now c.due_in_list.result
    (subst (λ z. IsDueInList c.args.edges.now.graph c.args.begun.now.pairs.now c.args.node z c.due_in_list.result) c.of.ensures c.due_in_list.ensures.due)
