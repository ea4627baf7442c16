use Rattle.std.proofs.Common.{refl, arith}
use Rattle.coincidence.proofs.SeenLaws.{first_less, first_taken, no_bit}
use Rattle.coincidence.proofs.seen.take_first.Goals as goal

pub returns-then-bits-eq0-clause-none : goal.returns-then-bits-eq0-clause-none
returns-then-bits-eq0-clause-none c = λ i h. no_bit c.args.mask.now i c.if-bits-eq0.true h

pub returns-clause-others : goal.returns-clause-others
returns-clause-others c = first_taken c.args.mask.now _ c.if-bits-eq0.false (omega arith) refl

pub returns-clause-less : goal.returns-clause-less
returns-clause-less c = first_less c.args.mask.now _ c.if-bits-eq0.false (omega arith) refl
