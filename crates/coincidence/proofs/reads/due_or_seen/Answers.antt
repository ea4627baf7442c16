use Rattle.std.proofs.Common.{subst}
use Rattle.std.proofs.lemmas.List.{get_or_read}
use Rattle.theory.specs.Word.{Word}
use Rattle.coincidence.specs.Holding.{MeetAt}
use Rattle.coincidence.specs.Reading.{IsDueBoth, IsQuietBoth}
use Rattle.coincidence.proofs.ReadLaws.{met_quiet}
use Rattle.coincidence.proofs.reads.due_or_seen.Goals as goal

pub returns-in-None-clause-due : goal.returns-in-None-clause-due
returns-in-None-clause-due c = λ p.
    let met = c.in-None.ensures in
    subst (λ (q : Word × Word). IsQuietBoth c.args.edges.now.graph c.args.node q.0 q.1) (get_or_read c.args.begun.now.pairs.now c.args.number c.pair.result.now c.requires.number c.pair.ensures p)
    (met_quiet c.args.edges.now.graph c.args.node met.0 c.pair.result.now.0 c.pair.result.now.1 met.1 met.2)

pub note_held-requires-clause-meets : goal.note_held-requires-clause-meets
note_held-requires-clause-meets c = λ p. subst (MeetAt c.args.edges.now.graph c.args.node) (get_or_read c.args.begun.now.pairs.now c.args.number c.pair.result.now c.requires.number c.pair.ensures p) c.in-None.ensures

pub returns-in-Some-clause-due : goal.returns-in-Some-clause-due
returns-in-Some-clause-due c = λ p.
    subst (λ (q : Word × Word). IsDueBoth c.args.edges.now.graph c.args.node q.0 q.1 c.in-Some.due) (get_or_read c.args.begun.now.pairs.now c.args.number c.pair.result.now c.requires.number c.pair.ensures p) c.in-Some.ensures
