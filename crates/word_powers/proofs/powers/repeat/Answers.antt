use Rattle.std.proofs.Common.{sym, ap, length, length-append, slice_range, append-nil, arith}
use Rattle.word_powers.specs.Powers.{power}
use Rattle.word_powers.proofs.PowerKept.{one_copy_more}
use Rattle.word_powers.proofs.powers.repeat.Goals as goal

pub loop-init : goal.loop-init
loop-init c = sym (append-nil c.args.word.now)

pub append_within-requires-clause-within : goal.append_within-requires-clause-within
append_within-requires-clause-within c =
    let e = ap length c.loop.invariant in
    let f = length-append c.args.word.now (power c.loop.counter (slice_range c.args.word.now c.args.start c.args.end)) in
    let h = c.requires.within in
    omega arith

pub loop-preserved : goal.loop-preserved
loop-preserved c =
    one_copy_more c.args.word.now c.loop.word c.append_within.new.self c.args.start c.args.end c.loop.counter c.requires.ordered c.requires.within c.loop.invariant c.in_ok-append_within.ensures
