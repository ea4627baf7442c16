use Rattle.congruence_classes.proofs.ElementLists.{elements_solution}
use Rattle.congruence_classes.proofs.element_classes.ElementClasses.new.Goals as goal

pub returns : goal.returns
returns c = elements_solution c.args.problem.now c.args.tables.now c.args.classes.now c.placed.result.0.now c.placed.result.1.now c.requires c.placed.ensures
