use Rattle.std.proofs.Common.{◌≡◌, ℕ, ◌<◌, Some}
use Rattle.theory.specs.Graph.{target}
use Rattle.rewriting.specs.Tables.{edges}
use Rattle.reduced_automaton.specs.Paths.{narrowed}
use Rattle.reduced_automaton.specs.Framings.{IsMarked}
use Rattle.reduced_automaton.proofs.marks.leads_to.Given as goal

abbrev pub invariant-loop-number : goal.invariant-loop-number
invariant-loop-number l = (b next : ℕ) → b < l.number → target (narrowed l.letters (edges l.graph)) l.node b ≡ Some next → IsMarked l.marks next → ⊥
