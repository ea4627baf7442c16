use Rattle.rewriting.specs.Parts.{AreParts}
use Rattle.rewriting.proofs.parts.part.Given as goal

abbrev pub invariant-loop-rule : goal.invariant-loop-rule
invariant-loop-rule l = AreParts l.left l.yielded l.fn.first l.parts
