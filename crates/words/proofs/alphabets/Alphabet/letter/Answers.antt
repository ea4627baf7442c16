use Rattle.std.proofs.Common.{sym, arith}
use Rattle.words.proofs.Symbols.{place_fits}
use Rattle.words.proofs.TextLaws.{place_below}
use Rattle.words.proofs.alphabets.Alphabet.letter.Goals as goal

pub overflow_cast-place : goal.overflow_cast-place
overflow_cast-place c = omega (arith, place_fits c.args.self.now c.args.byte c.in-Some.place c.in-Some.ensures.alphabet (sym c.in-Some.ensures.place))

pub returns-in-Some-clause-within : goal.returns-in-Some-clause-within
returns-in-Some-clause-within c = omega (arith, c.new.ensures, place_below c.args.self.now c.args.byte c.in-Some.place (sym c.in-Some.ensures.place))
