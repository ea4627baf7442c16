use Rattle.std.proofs.Common.{ℕ, ◌⊎◌}
use Rattle.coincidence.specs.Places.{HasBit}
use Rattle.coincidence.specs.Starts.{IsShutAt}
use Rattle.coincidence.proofs.first_letters.FirstLetters.open.Given as goal

abbrev pub invariant-loop-number : goal.invariant-loop-number
invariant-loop-number l = (i : ℕ) → HasBit l.self.every i → HasBit l.open i ⊎ IsShutAt l.edges.graph l.node l.self.letters.items i
