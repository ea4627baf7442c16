use Rattle.theory.proofs.ClassLaws.{shortlex_strict}
use Rattle.theory.proofs.TableLaws.{table_order}
use Rattle.theory.proofs.TwoSidedLaws.{two_sided_order}
use Rattle.theory.specs.Class.{IsLeast}
use Rattle.theory.proofs.pages.orders_of_pages_are_strict.Goals as goal

pub returns-clause-words : goal.returns-clause-words
returns-clause-words g c = shortlex_strict (IsLeast g.R.Relation.relates)

pub returns-clause-tables : goal.returns-clause-tables
returns-clause-tables g c = table_order

pub returns-clause-two_sided : goal.returns-clause-two_sided
returns-clause-two_sided g c = two_sided_order
