use Rattle.std.proofs.Common.{subst, sym, length, arith}
use Rattle.theory.specs.Word.{IsOver}
use Rattle.words.proofs.TextLaws.{letters_over, read_spells}
use Rattle.words.proofs.alphabets.Alphabet.read_word.Goals as goal

pub returns-clause-over : goal.returns-clause-over
returns-clause-over c = subst (IsOver (length c.args.self.now)) (sym c.in_ok-word.ensures) (letters_over c.args.self.now c.args.text.now)

pub returns-clause-spells : goal.returns-clause-spells
returns-clause-spells c =
    λ _. read_spells c.args.self.now c.args.text.now c.in_ok-word.word (sym c.if-is_empty_text.ensures) (sym c.in_default.ensures) (omega arith) c.in_ok-word.ensures
