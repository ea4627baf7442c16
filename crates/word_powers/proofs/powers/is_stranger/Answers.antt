use Rattle.std.proofs.Common.{◌∙◌}
use Rattle.word_powers.proofs.PowerOutcomes.{no_stranger, no_byte}
use Rattle.word_powers.proofs.powers.is_stranger.Goals as goal

pub returns-in_default : goal.returns-in_default
returns-in_default c =
    no_stranger c.args.alphabet.now c.args.text.now c.args.place c.in-Some.byte.now _ c.in-Some.ensures.lookup.0 c.in-Some.ensures.lookup.1 (λ e. c.in_default.not-Stranger (c.sign_for.ensures ∙ e))

pub returns-in-None : goal.returns-in-None
returns-in-None c = no_byte c.args.alphabet.now c.args.text.now c.args.place c.in-None.ensures.lookup.0
