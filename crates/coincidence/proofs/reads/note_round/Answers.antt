use Rattle.std.proofs.Common.{sym, ◌∙◌}
use Rattle.coincidence.proofs.SeenLaws.{round_on, round_noted}
use Rattle.coincidence.proofs.reads.note_round.Goals as goal

pub loop-preserved : goal.loop-preserved
loop-preserved c =
    let home = round_on c.args.edges.now.graph c.loop.at c.in-Some.next c.args.count c.args.one.now.side.now c.requires.stays c.loop.invariant.home (sym c.prefix_path.ensures ∙ c.in-Some.is) in
    record {
      home = home;
      noted = round_noted c.args.edges.now.graph c.args.one.now.side.now c.args.one.now.number c.in-Some.next c.args.seen.now c.loop.seen c.note.new.self home c.note.ensures c.loop.invariant.noted;
    }
