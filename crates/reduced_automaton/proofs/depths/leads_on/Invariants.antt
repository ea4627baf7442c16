use Rattle.std.proofs.Common.{ℕ, ◌<◌}
use Rattle.rewriting.specs.Tables.{edges}
use Rattle.reduced_automaton.specs.Automaton.{LeadsBy}
use Rattle.reduced_automaton.proofs.depths.leads_on.Given as goal

abbrev pub invariant-loop-number : goal.invariant-loop-number
invariant-loop-number l = (b : ℕ) → b < l.number → LeadsBy (edges l.graph) l.depths l.node l.count b → ⊥
