use Rattle.std.proofs.Common.{◌-◌, sym, ap, ◌∙◌, arith}
use Rattle.elements.specs.Digits.{optional}
use Rattle.elements.proofs.OptionalDigits.{optional_in}
use Rattle.elements.proofs.pperm.packed.image_at.Goals as goal

pub returns : goal.returns
returns c = c.image_of_digit.ensures ∙ ap optional c.digit.ensures.digit ∙ sym (optional_in c.args.n c.args.x c.args.point (c.args.n - 1 - c.args.point) (omega arith))
