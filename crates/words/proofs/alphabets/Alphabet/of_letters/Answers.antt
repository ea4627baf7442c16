use Rattle.std.proofs.Common.{subst, sym}
use Rattle.words.specs.Alphabet.{IsAlphabet, IsAlphabetOf, IsLetterByte}
use Rattle.words.proofs.AlphabetLemmas.{faultless, refuses}
use Rattle.words.proofs.Symbols.{letters_alphabet}
use Rattle.words.proofs.alphabets.Alphabet.of_letters.Goals as goal

pub returns-in-Some-clause-err : goal.returns-in-Some-clause-err
returns-in-Some-clause-err c = refuses c.args.wide c.args.text.now c.in-Some.fault (sym c.in-Some.ensures)

pub invariant_of-result : goal.invariant_of-result
invariant_of-result c =
    subst IsAlphabet (sym c.in_ok-bytes.ensures.items) (letters_alphabet c.args.wide c.args.text.now (faultless c.args.wide c.args.text.now (sym c.in_default.ensures)))

pub returns-clause-alphabet : goal.returns-clause-alphabet
returns-clause-alphabet c =
    subst (IsAlphabetOf (IsLetterByte c.args.wide)) (sym c.in_ok-bytes.ensures.items) (faultless c.args.wide c.args.text.now (sym c.in_default.ensures))
