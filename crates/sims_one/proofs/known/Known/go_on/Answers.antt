use Rattle.std.proofs.Common.{arith}
use Rattle.sims_one.proofs.PathLaws.{letter_over}
use Rattle.sims_one.proofs.EdgeLaws.{place_within}
use Rattle.sims_one.proofs.known.Known.go_on.Goals as goal

pub target-requires : goal.target-requires
target-requires c =
    let over = letter_over c.args.letters c.args.word.now c.loop-i.i c.letter.result c.requires.word c.letter.ensures in
    place_within c.args.letters c.loop-i.at c.number.result c.requires.letters c.loop-i.invariant (omega (arith, over, c.number.ensures))
