use Rattle.std.proofs.Common.{subst, sym}
use Rattle.words.specs.Alphabet.{IsAlphabet}
use Rattle.words.specs.WordText.{ReadsBack}
use Rattle.words.proofs.TextLaws.{prints_back}
use Rattle.words.proofs.alphabets.Alphabet.print_word.Goals as goal

pub returns-clause-reads_back : goal.returns-clause-reads_back
returns-clause-reads_back c =
    subst (λ text. ReadsBack c.args.self.now text c.args.word.now) (sym c.in_ok-text.ensures)
    (prints_back c.args.self.now c.args.word.now (subst IsAlphabet c.self.view_is c.self.invariant) c.requires)
