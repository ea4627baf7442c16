use Rattle.std.proofs.Common.{length, ap, arith}
use Rattle.rewriting.specs.Tables.{Moves, edges}
use Rattle.rewriting.proofs.TableLaws.{edges_count}
use Rattle.rewriting.proofs.index_automaton.IndexAutomaton.nodes.Goals as goal

pub returns-clause-nodes : goal.returns-clause-nodes
returns-clause-nodes c = omega (arith, c.len.ensures, ap (λ (m : Moves). length (edges m)) c.self.view_is, edges_count _ c.self.invariant)
