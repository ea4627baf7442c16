use Rattle.std.proofs.Common.{sym, ◌∙◌}
use Rattle.coincidence.proofs.ReadLaws.{stopped_quiet}
use Rattle.coincidence.proofs.reads.asked_beside.Goals as goal

pub returns-in_default : goal.returns-in_default
returns-in_default c =
    let quiet = stopped_quiet c.args.edges.now.graph c.args.node c.args.second.now c.args.first.now (sym c.front_end.ensures ∙ c.in_default.is) in
    (quiet.1, quiet.0)

pub returns-then-meet : goal.returns-then-meet
returns-then-meet c =
    let met = c.meet.ensures c.if-meet.true in
    (met.0, sym (c.side_end-first_end.ensures c.args.node c.requires) ∙ met.1, sym (c.side_end-second_end.ensures c.args.node (sym c.front_end.ensures ∙ c.in-Some.is)) ∙ met.2)
