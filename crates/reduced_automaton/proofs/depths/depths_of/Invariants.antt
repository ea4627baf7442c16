use Rattle.std.proofs.Common.{◌≡◌, ℕ, ◌+◌, ◌≤◌, length}
use Rattle.theory.specs.Graph.{IsGraph}
use Rattle.word_graph.specs.Gaps.{count_none}
use Rattle.rewriting.specs.Tables.{edges}
use Rattle.reduced_automaton.specs.Automaton.{AreSettled}
use Rattle.reduced_automaton.proofs.depths.depths_of.Given as goal

abbrev pub invariant-loop-round : goal.invariant-loop-round
invariant-loop-round l =
    record {
      settled : (k : ℕ) → IsGraph k (edges l.graph) → AreSettled k (edges l.graph) l.round l.depths.items;
      count : length l.depths.items ≡ length (edges l.graph);
      few : l.round + count_none l.depths.items ≤ length (edges l.graph);
    }

abbrev pub decreases-loop-round : goal.decreases-loop-round
decreases-loop-round l = count_none l.depths.items
