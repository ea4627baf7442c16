use Rattle.std.proofs.Common.{◌≡◌, take}
use Rattle.words.specs.WordText.{bytes_of}
use Rattle.words.proofs.alphabets.Alphabet.text_of.Given as goal

abbrev pub invariant-loop-letter : goal.invariant-loop-letter
invariant-loop-letter l = l.text.items ≡ bytes_of l.self (take l.letter-index l.word)
