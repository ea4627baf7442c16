use Rattle.coincidence.proofs.PlaceLaws.{both_sides, first_sides}
use Rattle.coincidence.proofs.crossings.due_through.Goals as goal

pub returns-in-Nothing-clause-due : goal.returns-in-Nothing-clause-due
returns-in-Nothing-clause-due c = both_sides c.args.edges.now.graph c.args.congruence.now.congruence.presentation.relations c.args.node c.args.letter c.due_in_relations-in-Nothing.result c.in-Nothing.ensures.due c.due_in_relations-in-Nothing.ensures.due

pub returns-in_default-clause-due : goal.returns-in_default-clause-due
returns-in_default-clause-due c = first_sides c.args.edges.now.graph c.args.congruence.now.congruence.presentation.relations c.args.node c.args.letter c.due_in_relations.result (λ e. c.in_default.not-Nothing e) c.due_in_relations.ensures.due
