use Rattle.std.proofs.Common.{◌≡◌, [], take, drop}
use Rattle.words.specs.Alphabet.{first_fault}
use Rattle.words.proofs.alphabets.first_fault.Given as goal

abbrev pub invariant-loop-place : goal.invariant-loop-place
invariant-loop-place l = first_fault l.wide [] l.text ≡ first_fault l.wide (take l.place l.text) (drop l.place l.text)
