use Rattle.std.proofs.Common.{subst}
use Rattle.coincidence.specs.Pending.{IsAmong}
use Rattle.coincidence.specs.Uses.{IsDueInList}
use Rattle.coincidence.specs.declared.due.Due.TheVariants.{Nothing}
use Rattle.coincidence.proofs.reads.due_in_lists.Goals as goal

pub due_in_list-requires-clause-within : goal.due_in_list-requires-clause-within
due_in_list-requires-clause-within c = λ i p h. c.requires.starts.within 0 i p (subst (λ z. IsAmong (i, p) z) c.short.ensures h)

pub due_by_letters-requires-clause-short : goal.due_by_letters-requires-clause-short
due_by_letters-requires-clause-short c = subst (λ z. IsDueInList c.args.edges.now.graph c.args.begun.now.pairs.now c.args.node z Nothing) c.short.ensures c.in-Nothing.ensures.due
