use Rattle.theory.proofs.EdgePairs.{right_by_edges, two_sided_by_edges}
use Rattle.theory.proofs.two_sided.tables_are_generated_by_edges.Goals as goal

pub returns-clause-right : goal.returns-clause-right
returns-clause-right c = right_by_edges

pub returns-clause-two_sided : goal.returns-clause-two_sided
returns-clause-two_sided c = two_sided_by_edges
