use Rattle.std.proofs.Common.{refl, sym, ◌∙◌}
use Rattle.word_powers.proofs.PowerOutcomes.{read_word_text, memory_out}
use Rattle.word_powers.proofs.powers.read.Goals as goal

pub returns-in_err-word : goal.returns-in_err-word
returns-in_err-word c =
    memory_out c.args.alphabet.now c.args.text.now c.args.allow_empty c.from_residual.result c.requires (sym c.is_empty_text.ensures ∙ c.if-is_empty_text.false) (c.if-not-fits.ensures.short refl) c.from_residual.ensures.1

pub returns : goal.returns
returns c =
    (c.in_ok-word.ensures, read_word_text c.args.alphabet.now c.args.text.now c.args.allow_empty c.in_ok-word.word c.requires (sym c.is_empty_text.ensures ∙ c.if-is_empty_text.false) (c.if-not-fits.ensures.short refl) c.in_ok-word.ensures)
