use Rattle.std.proofs.Common.{inl, inr}
use Rattle.elements.proofs.transf.Transf.read.Goals as goal

pub returns-in-Ok-clause-refused : goal.returns-in-Ok-clause-refused
returns-in-Ok-clause-refused c = λ place _ p. elim (c.in_ok-images.ensures.refused place p) [ inl h ↦ absurd (cc) | inr h ↦ absurd (cc) ]
