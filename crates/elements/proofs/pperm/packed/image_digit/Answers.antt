use Rattle.std.proofs.Common.{arith}
use Rattle.elements.proofs.OptionalDigits.{image_digit_is}
use Rattle.elements.proofs.pperm.packed.image_digit.Goals as goal

pub returns-else-image-eq0-clause-digit : goal.returns-else-image-eq0-clause-digit
returns-else-image-eq0-clause-digit c = image_digit_is c.args.n c.args.right c.args.image c.digit.result (omega arith) c.requires.image c.digit.ensures.digit
