use Rattle.std.proofs.Common.{ap, subst, arith, length, length-append}
use Rattle.std.proofs.lemmas.Result.{on_ok_weaker}
use Rattle.theory.specs.Congruence.{Congruence}
use Rattle.race.specs.declared.lanes.Lane.{Lane}
use Rattle.congruence.specs.declared.engine.Engine.{Engine}
use Rattle.congruence.specs.Added.{IsAdded}
use Rattle.congruence.specs.Engines.{Definitions, Rows}
use Rattle.congruence.proofs.lanes.add_enumerations.Goals as goal

pub add_hlt-requires-clause-few : goal.add_hlt-requires-clause-few
add_hlt-requires-clause-few c = omega (arith, ap length c.in_ok-add_felsch.ensures.added, length-append {A = Lane Engine})

pub returns : goal.returns
returns c =
    let one = subst (λ (r : Congruence). IsAdded c.args.lanes.now.items c.add_felsch.new.lanes.items (Definitions (record { congruence = r; budget = c.args.budgets.now.defs }))) c.in_ok-task.ensures.congruence c.in_ok-add_felsch.ensures in
    on_ok_weaker c.add_hlt.result
    (λ two. (c.add_felsch.new.lanes.items, one, subst (λ (r : Congruence). IsAdded c.add_felsch.new.lanes.items c.add_hlt.new.lanes.items (Rows (record { congruence = r; budget = c.args.budgets.now.rows }))) c.in_ok-task.ensures.congruence two))
    c.add_hlt.ensures
