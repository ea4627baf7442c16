use Rattle.std.proofs.Common.{subst}
use Rattle.word_powers.specs.Powers.{IsOutcome}
use Rattle.line_parts.proofs.PowerWordLaws.{outcome, powers_read}
use Rattle.line_parts.proofs.facts.powers_are_read.Goals as goal

pub returns-clause-outcome : goal.returns-clause-outcome
returns-clause-outcome c alphabet allow_empty t a = outcome alphabet a allow_empty t

pub returns-clause-word : goal.returns-clause-word
returns-clause-word c alphabet allow_empty t u a =
    (λ h. subst (IsOutcome alphabet allow_empty t) h (outcome alphabet a allow_empty t), λ both. powers_read alphabet a allow_empty t u both.0 both.1)
