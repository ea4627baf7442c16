use Rattle.std.proofs.Common.{length, ap, arith}
use Rattle.froidure_pin.proofs.Factors.{words_length}
use Rattle.froidure_pin.proofs.lists.Words.word.Goals as goal

pub spell-requires-clause-within : goal.spell-requires-clause-within
spell-requires-clause-within c = omega (arith, c.requires, ap length c.self.view_is, words_length c.self.inside.factors.items)
