use Rattle.std.proofs.Common.{sym, ◌∙◌}
use Rattle.words.proofs.TextLemmas.{letter_more, no_letter_more}
use Rattle.words.proofs.alphabets.Alphabet.letters_of.Goals as goal
use Rattle.words.proofs.alphabets.Alphabet.letters_of.Goals.{in-Some+in_ok-push, in_default}

pub loop-byte-preserved : goal.loop-byte-preserved
loop-byte-preserved c = elim c.match-letter.branch [
  | in-Some+in_ok-push w ↦ w.word-is ∙ w.in_ok-push.ensures.ok ∙ letter_more c.args.self.now c.args.text.now c.loop-byte.byte-index 0 w.in-Some.letter c.loop-byte.word c.loop-byte-test.true c.loop-byte.invariant (sym w.in-Some.ensures.letter)
  | in_default w ↦ w.word-is ∙ no_letter_more c.args.self.now c.args.text.now c.loop-byte.byte-index 0 c.loop-byte.word c.loop-byte-test.true c.loop-byte.invariant (sym w.in_default.ensures.letter)
]
