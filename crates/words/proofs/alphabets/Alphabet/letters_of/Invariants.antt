use Rattle.std.proofs.Common.{◌≡◌, take}
use Rattle.words.specs.WordText.{letters_of}
use Rattle.words.proofs.alphabets.Alphabet.letters_of.Given as goal

abbrev pub invariant-loop-byte : goal.invariant-loop-byte
invariant-loop-byte l = l.word ≡ letters_of l.self (take l.byte-index l.text)
