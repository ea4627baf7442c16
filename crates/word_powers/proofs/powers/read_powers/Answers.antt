use Rattle.word_powers.proofs.PowerOutcomes.{ok_over, told, tells_empty, tells_stranger, tells_place, tells_long}
use Rattle.word_powers.specs.declared.fault.PowerFault.TheVariants.{EmptyWord, NotInAlphabet, BadPower, TooLong}
use Rattle.word_powers.proofs.powers.read_powers.Goals as goal

pub returns-clause-over : goal.returns-clause-over
returns-clause-over c = ok_over c.args.alphabet.now c.args.text.now c.args.allow_empty c.read.result c.read.ensures

pub returns-clause-empty_word : goal.returns-clause-empty_word
returns-clause-empty_word c =
    (told c.args.alphabet.now c.args.text.now c.args.allow_empty c.read.result EmptyWord c.read.ensures, tells_empty c.args.alphabet.now c.args.text.now c.args.allow_empty c.read.result c.len-letters.ensures.alphabet c.read.ensures)

pub returns-clause-not_in_alphabet : goal.returns-clause-not_in_alphabet
returns-clause-not_in_alphabet c =
    λ place. (told c.args.alphabet.now c.args.text.now c.args.allow_empty c.read.result (NotInAlphabet place) c.read.ensures, tells_stranger c.args.alphabet.now c.args.text.now c.args.allow_empty c.read.result place c.read.ensures)

pub returns-clause-bad_power : goal.returns-clause-bad_power
returns-clause-bad_power c =
    λ place. (told c.args.alphabet.now c.args.text.now c.args.allow_empty c.read.result (BadPower place) c.read.ensures, tells_place c.args.alphabet.now c.args.text.now c.args.allow_empty c.read.result place c.read.ensures)

pub returns-clause-too_long : goal.returns-clause-too_long
returns-clause-too_long c =
    (told c.args.alphabet.now c.args.text.now c.args.allow_empty c.read.result TooLong c.read.ensures, tells_long c.args.alphabet.now c.args.text.now c.args.allow_empty c.read.result c.len-letters.ensures.alphabet c.read.ensures)
