use Rattle.std.proofs.Common.{◌≡◌, ◌++◌, slice_range}
use Rattle.word_powers.specs.Powers.{power}
use Rattle.word_powers.proofs.powers.repeat.Given as goal

abbrev pub invariant-loop : goal.invariant-loop
invariant-loop l = l.word ≡ l.fn.word ++ power l.counter (slice_range l.fn.word l.start l.end)
