use Rattle.std.proofs.Common.{ap, arith, length, length-append}
use Rattle.race.specs.declared.lanes.Lane.{Lane}
use Rattle.congruence.specs.declared.engine.Engine.{Engine}
use Rattle.congruence.proofs.LaneLaws.{three_added, three_begin, three_few, three_tasks}
use Rattle.congruence.proofs.lanes.congruence_lanes.Goals as goal

pub add_enumerations-requires-clause-few : goal.add_enumerations-requires-clause-few
add_enumerations-requires-clause-few c = omega (arith, ap length c.new-lanes.ensures.items)

pub add_completion-requires-clause-few : goal.add_completion-requires-clause-few
add_completion-requires-clause-few c =
    let both = c.in_ok-add_enumerations.ensures in
    omega (arith, ap length c.new-lanes.ensures.items, ap length both.1.added, ap length both.2.added, length-append {A = Lane Engine})

pub returns : goal.returns
returns c =
    let both = c.in_ok-add_enumerations.ensures in
    let one = both.1 in
    let two = both.2 in
    let three = c.in_ok-add_completion.ensures in
    let all = three_added c.new-lanes.result.items both.0 c.add_enumerations.new.lanes.items c.add_completion.new.lanes.items
    one.engine two.engine three.engine c.new-lanes.ensures.items one.added two.added three.added in
    record {
      starts = three_begin c.add_completion.new.lanes.items one.engine two.engine three.engine all;
      count = three_few c.add_completion.new.lanes.items one.engine two.engine three.engine all;
      tasks = three_tasks c.add_completion.new.lanes.items one.engine two.engine three.engine all c.args.congruence.now.congruence c.args.budgets.now one.task_is two.task_is three.task_is;
    }
