use Rattle.line_parts.proofs.TokenLaws.{number_is_decimal}
use Rattle.line_parts.proofs.facts.numbers_are_decimals.Goals as goal

pub returns : goal.returns
returns c = number_is_decimal
