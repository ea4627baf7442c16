use Rattle.std.proofs.Common.{arith}
use Rattle.race.proofs.Seats.{publish_may}
use Rattle.race.proofs.steps.publish.Goals as goal

pub compare_exchange-seen-requires : goal.compare_exchange-seen-requires
compare_exchange-seen-requires g c = rw c.word-mine.ensures.word (
  c.requires.seated.table,
  omega (arith, c.requires.seated.words),
  publish_may c.args.word.now.table_id.slots c.args.seated.now.seat.id c.args.seated.now.lane.number c.args.seated.now.lane.state c.args.seated.now.seat.me c.requires.running c.requires.seated.view,
)
