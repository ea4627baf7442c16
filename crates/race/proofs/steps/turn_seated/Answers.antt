use Rattle.race.proofs.Seats.{turn_done, turn_ended}
use Rattle.race.proofs.steps.turn_seated.Goals as goal

pub returns-in-Load-clause-turned : goal.returns-in-Load-clause-turned
returns-in-Load-clause-turned g c =
    let r = g.R.Racer in
    turn_done r c.args.seated.now.lane c.begin.new.lane c.look.new.seated.lane c.begin.result c.look.result c.requires.running c.begin.ensures c.look.ensures.lane

pub returns-in-Exchange-clause-turned : goal.returns-in-Exchange-clause-turned
returns-in-Exchange-clause-turned g c =
    let r = g.R.Racer in
    turn_done r c.args.seated.now.lane c.begin.new.lane c.publish.new.seated.lane c.begin.result c.publish.result c.requires.running c.begin.ensures c.publish.ensures.lane

pub returns-in-Ended-clause-turned : goal.returns-in-Ended-clause-turned
returns-in-Ended-clause-turned g c =
    let r = g.R.Racer in
    turn_ended r c.args.seated.now.lane c.begin.new.lane c.begin.result c.requires.running c.begin.ensures c.in-Ended.is
