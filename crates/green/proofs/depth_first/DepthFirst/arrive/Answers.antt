use Rattle.std.proofs.Common.{sym, length}
use Rattle.cayley.specs.Tables.{edge}
use Rattle.green.specs.Touring.{IsEdgeTo}
use Rattle.green.proofs.StepLaws.{some_start, led_below, led_small, path_leads, back_arrived, done_arrived, joined_left}
use Rattle.green.proofs.depth_first.DepthFirst.arrive.Goals as goal

pub state-requires : goal.state-requires
state-requires c =
    led_small (length c.args.rows.now) c.args.letters (edge c.args.rows.now) (IsEdgeTo (edge c.args.rows.now) c.args.number)
    c.args.self.now c.requires.tour c.requires.led.0 c.requires.led.1 c.requires.edges.within c.args.number c.requires.led.2

pub enter-requires-clause-number : goal.enter-requires-clause-number
enter-requires-clause-number c =
    led_below (length c.args.rows.now) c.args.letters (edge c.args.rows.now) (IsEdgeTo (edge c.args.rows.now) c.args.number)
    c.args.self.now c.requires.tour c.requires.led.0 c.requires.led.1 c.requires.edges.within c.args.number c.requires.led.2

pub enter-requires-clause-led : goal.enter-requires-clause-led
enter-requires-clause-led c =
    path_leads (length c.args.rows.now) c.args.letters (edge c.args.rows.now) c.args.self.now c.args.number c.requires.tour c.requires.led

pub join-requires-clause-some : goal.join-requires-clause-some
join-requires-clause-some c =
    some_start (length c.args.rows.now) c.args.letters (edge c.args.rows.now) (IsEdgeTo (edge c.args.rows.now) c.args.number)
    c.args.self.now c.requires.tour c.requires.led.0 c.requires.led.1

pub join-requires-clause-first : goal.join-requires-clause-first
join-requires-clause-first c =
    c.requires.tour.starts.first
    (some_start (length c.args.rows.now) c.args.letters (edge c.args.rows.now) (IsEdgeTo (edge c.args.rows.now) c.args.number)
    c.args.self.now c.requires.tour c.requires.led.0 c.requires.led.1)

pub returns-in-OnPath-clause-tour : goal.returns-in-OnPath-clause-tour
returns-in-OnPath-clause-tour c =
    back_arrived (length c.args.rows.now) c.args.letters (edge c.args.rows.now) c.args.self.now c.args.number c.requires.tour c.requires.led
    c.join.new.self c.in-OnPath.place (sym c.in-OnPath.ensures) c.join.ensures.joined c.join.ensures.states c.join.ensures.path c.join.ensures.ahead

pub returns-in-OnPath-clause-left : goal.returns-in-OnPath-clause-left
returns-in-OnPath-clause-left c =
    joined_left c.args.letters c.in-OnPath.place c.args.self.now c.join.new.self c.join.ensures.joined c.join.ensures.states c.join.ensures.path c.join.ensures.ahead

pub returns-in-Done-clause-tour : goal.returns-in-Done-clause-tour
returns-in-Done-clause-tour c =
    done_arrived (length c.args.rows.now) c.args.letters (edge c.args.rows.now) c.args.self.now c.args.number c.requires.tour c.requires.led
    c.in-Done.field-0 (sym c.in-Done.ensures)
