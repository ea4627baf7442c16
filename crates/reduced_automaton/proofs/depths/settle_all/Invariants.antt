use Rattle.std.proofs.Common.{◌≡◌, ℕ, length}
use Rattle.theory.specs.Graph.{IsGraph}
use Rattle.rewriting.specs.Tables.{edges}
use Rattle.reduced_automaton.specs.Automaton.{AreSettled, AreSettledTo, IsChange}
use Rattle.reduced_automaton.proofs.depths.settle_all.Given as goal

abbrev pub invariant-loop-node : goal.invariant-loop-node
invariant-loop-node l =
    record {
      settled : (k : ℕ) → IsGraph k (edges l.graph) → AreSettled k (edges l.graph) l.round l.initial.depths.items → AreSettledTo k (edges l.graph) l.round l.node l.depths.items;
      count : length l.depths.items ≡ length l.initial.depths.items;
      change : IsChange l.changed l.initial.depths.items l.depths.items;
    }
