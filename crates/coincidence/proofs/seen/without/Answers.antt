use Rattle.std.proofs.Common.{arith}
use Rattle.coincidence.proofs.SeenLaws.{bits_without}
use Rattle.coincidence.proofs.seen.without.Goals as goal

pub returns : goal.returns
returns c = bits_without c.args.mask c.args.other (omega arith)
