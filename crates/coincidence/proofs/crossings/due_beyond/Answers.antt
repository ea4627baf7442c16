use Rattle.std.proofs.Common.{[], sym, ◌∙◌}
use Rattle.coincidence.proofs.ReadLaws.{met_quiet, stopped_quiet}
use Rattle.coincidence.proofs.SeenLaws.{seen_sides, sides_meet}
use Rattle.coincidence.proofs.crossings.due_beyond.Goals as goal

pub returns-then-has-clause-due : goal.returns-then-has-clause-due
returns-then-has-clause-due c =
    let met = sides_meet c.args.crossing.now.pairs.now c.args.crossing.now.number c.args.crossing.now.side.now c.args.crossing.now.other.now c.args.edges.now.graph c.args.node ([], []) c.requires.pair
    (c.requires.seen c.args.node c.args.crossing.now.number ([], []) (c.has.ensures c.if-has.true) c.requires.node) in
    met_quiet c.args.edges.now.graph c.args.node met.0 c.args.crossing.now.side.now c.args.crossing.now.other.now met.1 met.2

pub returns-in_default-clause-due : goal.returns-in_default-clause-due
returns-in_default-clause-due c = stopped_quiet c.args.edges.now.graph c.args.node c.args.crossing.now.side.now c.args.crossing.now.other.now (sym (c.front_from.ensures c.args.node c.requires.middle) ∙ c.in_default.is)

pub asked_beside-requires : goal.asked_beside-requires
asked_beside-requires c = sym (c.front_from.ensures c.args.node c.requires.middle) ∙ c.in-Some.is

pub returns-in-None-clause-due : goal.returns-in-None-clause-due
returns-in-None-clause-due c =
    let met = c.in-None.ensures in
    met_quiet c.args.edges.now.graph c.args.node met.0 c.args.crossing.now.side.now c.args.crossing.now.other.now met.1 met.2

pub returns-in-None-clause-seen : goal.returns-in-None-clause-seen
returns-in-None-clause-seen c =
    seen_sides c.args.crossing.now.pairs.now c.args.crossing.now.number c.args.crossing.now.side.now c.args.crossing.now.other.now c.args.edges.now.graph c.args.seen.now c.note.new.self c.args.node c.requires.pair c.in-None.ensures c.note.ensures c.requires.seen
