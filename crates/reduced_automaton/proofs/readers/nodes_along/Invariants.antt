use Rattle.std.proofs.Common.{◌≡◌, ℕ, ◌<◌, Some, length, take, get_or}
use Rattle.theory.specs.Graph.{path}
use Rattle.reduced_automaton.proofs.readers.nodes_along.Given as goal

abbrev pub invariant-loop-place : goal.invariant-loop-place
invariant-loop-place g l =
    record {
      count : length l.nodes.items ≡ l.place;
      here : path (g.P.KnownPaths.paths l.paths).graph l.root (take l.place l.word) ≡ Some l.node;
      at : (i : ℕ) → i < length l.nodes.items → path (g.P.KnownPaths.paths l.paths).graph l.root (take i l.word) ≡ Some (get_or l.nodes.items i 0);
    }
