use Rattle.std.specs.HashMap.{get}
use Rattle.knuth_bendix.specs.Logs.{AreNumbersOf, same_words}
use Rattle.knuth_bendix.proofs.logs.numbers_of.Given as goal

abbrev pub invariant-loop-number : goal.invariant-loop-number
invariant-loop-number l = AreNumbersOf l.relations l.number (get same_words l.numbers)
