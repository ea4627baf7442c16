use Rattle.std.proofs.Common.{arith, ◌∙◌, ap}
use Rattle.race.specs.Winner.{phase_of}
use Rattle.race.specs.SeatedLane.{unseated}
use Rattle.workers.proofs.Moves.{room_out}
use Rattle.race.proofs.Deals.{gathering_none, gathering_more, next_sits, collect_may}
use Rattle.race.proofs.threads.gather.Goals as goal

pub loop-seated-init : goal.loop-seated-init
loop-seated-init g c = (
  c.requires.keeper.0,
  gathering_none g.R.Racer c.args.word.now.table_id c.args.groups.now c.args.lanes.now c.args.keeper.now.me c.requires.seated c.requires.keeper.1 c.requires.room.0 c.requires.room.1,
)

pub join_seat-requires : goal.join_seat-requires
join_seat-requires g c =
    let t = c.in-Some.seated in
    let sits = next_sits g.R.Racer c.args.word.now.table_id c.args.groups.now.items c.loop-seated.groups c.take.new.self c.loop-seated.lanes c.loop-seated.keeper.me t c.loop-seated.invariant.1 c.in-Some.ensures.0 in (
      c.loop-seated.invariant.0,
      sits.table,
      ap (λ m. m.1) sits.view,
      omega (arith, c.requires.word),
      collect_may c.loop-seated.keeper.id t.seat.id t.lane.number (phase_of t.lane.state) c.loop-seated.keeper.me t.seat.me sits.view,
    )

pub push_reserved-requires : goal.push_reserved-requires
push_reserved-requires g c = room_out unseated c.args.groups.now.items c.loop-seated.groups c.take.new.self c.loop-seated.lanes c.in-Some.seated c.loop-seated.invariant.1.back c.in-Some.ensures.0

pub loop-seated-preserved : goal.loop-seated-preserved
loop-seated-preserved g c =
    let e = c.join_seat.ensures in (
      e.0 ∙ c.loop-seated.invariant.0,
      gathering_more g.R.Racer c.args.word.now.table_id c.args.groups.now.items c.loop-seated.groups c.take.new.self c.loop-seated.lanes c.loop-seated.keeper.me c.in-Some.seated c.loop-seated.invariant.1 c.in-Some.ensures.0
          c.push_reserved.new.self c.join_seat.new.seat.me c.push_reserved.ensures.items c.push_reserved.ensures.capacity e.2,
    )
