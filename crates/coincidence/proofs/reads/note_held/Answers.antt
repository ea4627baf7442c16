use Rattle.std.proofs.Common.{sym, subst}
use Rattle.coincidence.specs.Holding.{MeetAt}
use Rattle.coincidence.proofs.SeenLaws.{met_home, seen_more, seen_round}
use Rattle.coincidence.proofs.reads.note_held.Goals as goal

pub note_round-requires-clause-home : goal.note_round-requires-clause-home
note_round-requires-clause-home c =
    met_home c.args.edges.now.graph c.args.node c.pair-pair.result.now.0 c.pair-pair.result.now.1 (c.is_empty.ensures.0 c.if-is_empty.true)
    (subst (MeetAt c.args.edges.now.graph c.args.node) (sym c.pair-pair.ensures) (c.requires.meets c.pair-pair.result.now))

pub returns-then-has : goal.returns-then-has
returns-then-has c =
    let pairs = c.args.begun.now.pairs.now in
    let meets = subst (MeetAt c.args.edges.now.graph c.args.node) (sym c.pair-pair.ensures) (c.requires.meets c.pair-pair.result.now) in
    seen_round pairs c.args.edges.now.graph c.args.number c.pair-pair.result.now c.note.new.self c.note_round.new.seen c.requires.number c.pair-pair.ensures (c.is_empty.ensures.0 c.if-is_empty.true) c.note_round.ensures
    (seen_more pairs c.args.edges.now.graph c.args.seen.now c.note.new.self c.args.node c.args.number c.pair-pair.result.now c.requires.number c.pair-pair.ensures meets c.note.ensures c.requires.seen)

pub returns-else-is_empty : goal.returns-else-is_empty
returns-else-is_empty c =
    seen_more c.args.begun.now.pairs.now c.args.edges.now.graph c.args.seen.now c.note.new.self c.args.node c.args.number c.pair-pair.result.now c.requires.number c.pair-pair.ensures
    (subst (MeetAt c.args.edges.now.graph c.args.node) (sym c.pair-pair.ensures) (c.requires.meets c.pair-pair.result.now)) c.note.ensures c.requires.seen
