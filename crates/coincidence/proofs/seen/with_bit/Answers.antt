use Rattle.std.proofs.Common.{arith}
use Rattle.coincidence.proofs.SeenLaws.{bit_from, bit_here, bit_still}
use Rattle.coincidence.proofs.seen.with_bit.Goals as goal

pub returns-clause-here : goal.returns-clause-here
returns-clause-here c = bit_here c.args.mask c.args.relation (omega (arith, c.if-relation-ge-RELATIONS_KEPT.false))

pub returns-clause-still : goal.returns-clause-still
returns-clause-still c = λ i h. bit_still c.args.mask c.args.relation i (omega (arith, c.if-relation-ge-RELATIONS_KEPT.false)) h

pub returns-clause-from : goal.returns-clause-from
returns-clause-from c = λ i h. bit_from c.args.mask c.args.relation i (omega (arith, c.if-relation-ge-RELATIONS_KEPT.false)) h
