use Rattle.std.proofs.Common.{length, ap, arith}
use Rattle.froidure_pin.proofs.Factors.{words_length}
use Rattle.froidure_pin.proofs.lists.Words.len.Goals as goal

pub returns : goal.returns
returns c = omega (arith, c.len.ensures, words_length c.self.inside.factors.items, ap length c.self.view_is)
