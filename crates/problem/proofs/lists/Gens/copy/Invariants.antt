use Rattle.std.proofs.Common.{◌≡◌, take}
use Rattle.problem.proofs.lists.Gens.copy.Given as goal

abbrev pub invariant-loop-element : goal.invariant-loop-element
invariant-loop-element g l = l.elements.items ≡ take l.element-index l.element-items
