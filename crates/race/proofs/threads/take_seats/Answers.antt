use Rattle.std.proofs.Common.{[], arith, ap, ◌∙◌}
use Rattle.atomic_table.specs.Table.{Me}
use Rattle.race.specs.Winner.{seat_given, newcomer}
use Rattle.race.specs.declared.winner.View.{View}
use Rattle.race.proofs.Deals.{seat_may, seats_more}
use Rattle.race.proofs.threads.take_seats.Goals as goal

pub split_seat-seat-requires : goal.split_seat-seat-requires
split_seat-seat-requires c = (c.loop.invariant.0, omega arith, seat_may c.loop.keeper.id c.loop.counter c.loop.keeper.me c.loop.invariant.1 (omega arith))

pub loop-preserved : goal.loop-preserved
loop-preserved c =
    let e = c.split_seat-seat.ensures in
    let i = c.loop.invariant in
    let n = c.push_reserved.ensures.len in
    let k = c.push_reserved.ensures.capacity in
    let ok = c.push_reserved.new.self.ok.0 in
    let i3 = i.3 in let i4 = i.4 in let i5 = i.5 in (
      e.0 ∙ i.0,
      e.2 ∙ ap (λ (m : Me (Unit {0}) View). (seat_given m.0, m.1)) i.1,
      seats_more c.args.word.now.table_id c.loop.seats.items c.push_reserved.new.self.items c.split_seat-seat.result c.loop.counter i.2 i.3 c.push_reserved.ensures.items (e.3 ∙ i.0, e.4 ∙ ap (λ (m : Me (Unit {0}) View). (newcomer m.0, [])) i.1),
      omega arith,
      omega arith,
      omega arith,
    )
