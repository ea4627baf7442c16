use Rattle.std.proofs.Common.{◌≡◌, ◌<◌, length, arith}
use Rattle.coincidence.proofs.StartLaws.{first_end, first_step}
use Rattle.coincidence.proofs.first_letters.FirstLetters.new.Goals as goal

pub loop-number-preserved : goal.loop-number-preserved
loop-number-preserved c =
    let less : c.loop-number.number < length c.args.pairs.now = omega arith in
    first_step c.args.pairs.now c.loop-number.every c.in-Some.mask c.loop-number.letters.items c.note_first.new.letters.items c.note_first-in-loop-number.new.letters.items c.loop-number.number c.pair-pair.result.now
    c.start_in.result c.start_in-in-loop-number.result less c.pair-pair.ensures c.start_in.ensures c.start_in-in-loop-number.ensures c.in-Some.ensures.here c.in-Some.ensures.still
    c.in_ok-note_first.ensures c.in_ok-note_first-2.ensures c.loop-number.invariant

pub returns : goal.returns
returns c =
    let end : c.loop-number.number ≡ length c.args.pairs.now = omega arith in
    first_end c.args.pairs.now c.loop-number.every c.loop-number.letters.items c.loop-number.number end c.loop-number.invariant
