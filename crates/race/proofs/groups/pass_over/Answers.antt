use Rattle.std.proofs.Common.{arith, refl, ap, get_or}
use Rattle.race.proofs.GroupTurns.{sits_here, pass_then, pass_else, runs_same, pass_end}
use Rattle.race.proofs.groups.pass_over.Goals as goal
use Rattle.race.proofs.groups.pass_over.Goals.{then-is_running, else-is_running}

pub loop-i-init : goal.loop-i-init
loop-i-init g c = let r = g.R.Racer in (runs_same r c.args.word.now.table_id c.args.group.now c.requires, (refl, λ j h. absurd (omega arith)))

pub turn_seated-requires-clause-seated : goal.turn_seated-requires-clause-seated
turn_seated-requires-clause-seated g c =
    let r = g.R.Racer in
    sits_here r c.args.word.now.table_id c.args.group.now c.loop-i.group c.loop-i.i (get_or c.loop-i.group c.loop-i.i c.index-group-i.result) c.loop-i.invariant.0 (omega arith) (ap (λ x. get_or c.loop-i.group c.loop-i.i x) c.index-group-i.is)

pub loop-i-preserved : goal.loop-i-preserved
loop-i-preserved g c =
    let r = g.R.Racer in
    let t = get_or c.loop-i.group c.loop-i.i c.index-group-i.result in
    let at = ap (λ x. get_or c.loop-i.group c.loop-i.i x) c.index-group-i.is in
    elim c.if-is_running.branch [
      | then-is_running w ↦
          pass_then r c.args.word.now.table_id c.args.group.now c.loop-i.group c.if-is_running.group c.loop-i.i t w.turn_seated.new.seated c.loop-i.any_ran c.if-is_running.any_ran
          c.loop-i.invariant (omega arith) at w.turn_seated.ensures.ran w.turn_seated.ensures.fewer w.group-is w.any_ran-is
      | else-is_running w ↦
          pass_else r c.args.word.now.table_id c.args.group.now c.loop-i.group c.if-is_running.group c.loop-i.i t c.loop-i.any_ran c.if-is_running.any_ran c.is_running.result
          c.loop-i.invariant (omega arith) at c.is_running.ensures w.if-is_running.false w.group-is w.any_ran-is
    ]

pub returns-clause-nearer : goal.returns-clause-nearer
returns-clause-nearer g c = let r = g.R.Racer in pass_end r c.loop-i.any_ran c.loop-i.i c.args.group.now c.loop-i.group (omega arith) c.loop-i.invariant.1
