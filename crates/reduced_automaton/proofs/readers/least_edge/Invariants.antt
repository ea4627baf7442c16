use Rattle.std.proofs.Common.{◌≡◌, ℕ, ◌<◌, ◌≤◌, Some}
use Rattle.theory.specs.Graph.{target}
use Rattle.reduced_automaton.specs.Paths.{GoesOn}
use Rattle.reduced_automaton.proofs.readers.least_edge.Given as goal

abbrev pub invariant-loop-number : goal.invariant-loop-number
invariant-loop-number g l = (b m : ℕ) → l.from ≤ b → b < l.number → target (g.P.KnownPaths.paths l.paths).graph l.node b ≡ Some m → GoesOn (g.P.KnownPaths.paths l.paths) m l.count → ⊥
