use Rattle.tc_hlt.specs.Tracing.{AreSides}
use Rattle.tc_hlt.proofs.GrowLaws.{grown_met}
use Rattle.tc_hlt.proofs.rows.trace_relation.Goals as goal

pub returns-then-known-clause-met : goal.returns-then-known-clause-met
returns-then-known-clause-met c = λ _. c.requires.known c.if-known.true

pub returns-then-known-clause-grown : goal.returns-then-known-clause-grown
returns-then-known-clause-grown c =
    grown_met (AreSides c.args.pair.now.0 c.args.pair.now.1) c.args.table.now c.args.node c.args.pair.now c.requires.failed (c.requires.known c.if-known.true)
