use Rattle.std.proofs.Common.{length}
use Rattle.cayley.specs.Tables.{edge}
use Rattle.green.proofs.StepLaws.{begun_led, begun_tour}
use Rattle.green.proofs.depth_first.DepthFirst.visit.Goals as goal

pub enter-requires-clause-tour : goal.enter-requires-clause-tour
enter-requires-clause-tour c =
    begun_tour (length c.args.rows.now) c.args.letters (edge c.args.rows.now) c.args.self.now c.requires.tour c.requires.rest c.args.number

pub enter-requires-clause-led : goal.enter-requires-clause-led
enter-requires-clause-led c =
    begun_led (length c.args.rows.now) c.args.letters (edge c.args.rows.now) c.args.self.now c.requires.tour c.requires.rest c.args.number
