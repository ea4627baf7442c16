use Rattle.std.proofs.Common.{arith}
use Rattle.race.proofs.Seats.{look_may}
use Rattle.race.proofs.steps.look.Goals as goal

pub load-found-requires : goal.load-found-requires
load-found-requires g c = (
  c.requires.seated.table,
  omega (arith, c.requires.seated.words),
  look_may c.args.word.now.table_id.slots c.args.seated.now.seat.id c.args.seated.now.lane.number c.args.seated.now.lane.state c.args.seated.now.seat.me c.requires.running c.requires.seated.view,
)
