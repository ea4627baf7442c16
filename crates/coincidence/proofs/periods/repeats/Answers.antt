use Rattle.std.proofs.Common.{rules, ◌≡◌, ℕ}
use Rattle.coincidence.proofs.RingLaws.{repeats_more}
use Rattle.coincidence.proofs.periods.repeats.Goals as goal

pub loop-i-preserved : goal.loop-i-preserved
loop-i-preserved c =
    let same : ◌≡◌ {A = ℕ} c.letter.result c.letter-in-loop-i.result = search rules in
    repeats_more c.args.word.now c.args.from c.args.to c.args.count c.loop-i.i c.letter.result c.letter-in-loop-i.result c.requires.from c.requires.to c.loop-i-test.true
    c.letter.ensures c.letter-in-loop-i.ensures same c.loop-i.invariant
