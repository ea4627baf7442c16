use Rattle.std.proofs.Common.{◌≡◌, ◌+◌, ◌<◌, ◌≤◌, ℕ}
use Rattle.reduced_automaton.specs.Paths.{GoesOn}
use Rattle.reduced_automaton.specs.Framings.{IsFramingIn, paths_in}
use Rattle.reduced_automaton.proofs.framings.Framing.next_length.Given as goal

abbrev pub invariant-loop-more : goal.invariant-loop-more
invariant-loop-more l =
    record {
      framing : IsFramingIn l.scope l.self;
      count : l.count ≡ l.from + l.more;
      none : (m : ℕ) → l.from ≤ m → m < l.count → GoesOn (paths_in l.scope) l.start m → ⊥;
    }
