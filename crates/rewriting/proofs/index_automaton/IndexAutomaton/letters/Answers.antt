use Rattle.std.proofs.Common.{subst}
use Rattle.theory.specs.Graph.{IsGraph}
use Rattle.rewriting.specs.Tables.{IsTable, Moves, edges}
use Rattle.rewriting.proofs.TableLaws.{table_graph}
use Rattle.rewriting.proofs.index_automaton.IndexAutomaton.letters.Goals as goal

pub returns-clause-table : goal.returns-clause-table
returns-clause-table c = subst (λ (m : Moves). IsTable m) c.self.view_is c.self.invariant

pub returns-clause-graph : goal.returns-clause-graph
returns-clause-graph c = subst (λ (m : Moves). IsGraph c.self.inside.letters (edges m)) c.self.view_is (table_graph _ c.self.invariant)
