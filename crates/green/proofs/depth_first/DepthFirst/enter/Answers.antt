use Rattle.std.proofs.Common.{length, arith}
use Rattle.cayley.specs.Tables.{edge}
use Rattle.green.proofs.StepLaws.{all_looked, now_entered}
use Rattle.green.proofs.depth_first.DepthFirst.enter.Goals as goal

pub loop-letter-init : goal.loop-letter-init
loop-letter-init c =
    let all = now_entered (length c.args.rows.now) c.args.letters (edge c.args.rows.now) c.args.self.now c.args.number
    c.requires.tour c.requires.unseen c.requires.number c.requires.led c.begin.new.self c.in_ok-begin.ensures in
    record { tour = all.0; top = all.1; left = omega (arith, all.2); kept = all.3; seen = all.4 }

pub returns-clause-tour : goal.returns-clause-tour
returns-clause-tour c =
    all_looked (length c.args.rows.now) c.args.letters c.loop-letter.letter (edge c.args.rows.now) c.loop-letter.self c.args.number c.loop-letter.invariant.tour
    (omega (arith, c.loop-letter-test.false))
