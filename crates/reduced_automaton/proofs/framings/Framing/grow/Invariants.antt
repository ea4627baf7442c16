use Rattle.std.proofs.Common.{◌+◌, ◌-◌, length}
use Rattle.reduced_automaton.specs.Framings.{IsFramingIn}
use Rattle.reduced_automaton.proofs.framings.Framing.grow.Given as goal

abbrev pub invariant-loop-self : goal.invariant-loop-self
invariant-loop-self l = IsFramingIn l.scope l.self

abbrev pub decreases-loop-self : goal.decreases-loop-self
decreases-loop-self l = l.count + 1 - length l.self.layers.items
