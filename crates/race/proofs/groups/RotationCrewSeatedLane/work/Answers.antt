use Rattle.race.proofs.GroupTurns.{runs_same, runs_on, all_sit, ran_out}
use Rattle.race.proofs.groups.RotationCrewSeatedLane.work.Goals as goal

pub loop-init : goal.loop-init
loop-init g c = runs_same g.R.Racer c.args.self.now.word.now.table_id c.args.group.now c.requires

pub pass_over-requires : goal.pass_over-requires
pass_over-requires g c = all_sit g.R.Racer c.args.self.now.word.now.table_id c.args.group.now c.loop.group c.loop.invariant

pub loop-preserved : goal.loop-preserved
loop-preserved g c = runs_on g.R.Racer c.args.self.now.word.now.table_id c.args.group.now c.loop.group c.pass_over.new.group c.loop.invariant c.pass_over.ensures.ran

pub returns : goal.returns
returns g c =
    ran_out g.R.Racer c.args.self.now.word.now.table_id c.args.group.now c.pass_over.new.group
    (runs_on g.R.Racer c.args.self.now.word.now.table_id c.args.group.now c.loop.group c.pass_over.new.group c.loop.invariant c.pass_over.ensures.ran)
    (rw c.loop-test.false at c.pass_over.ensures.nearer)
