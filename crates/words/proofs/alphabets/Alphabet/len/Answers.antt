use Rattle.std.proofs.Common.{arith}
use Rattle.words.proofs.Symbols.{few_letters}
use Rattle.words.proofs.alphabets.Alphabet.len.Goals as goal

pub returns-clause-few : goal.returns-clause-few
returns-clause-few c = omega (arith, few_letters c.self.inside.bytes.items c.self.invariant)
