use Rattle.std.proofs.Common.{sym, ◌∙◌, arith}
use Rattle.word_powers.proofs.PowerPlaces.{at_start, at_few, at_next, at_fault, at_word, at_open_end}
use Rattle.word_powers.proofs.powers.first_bad.Goals as goal

pub loop-place-init : goal.loop-place-init
loop-place-init c = at_start c.args.alphabet.now c.args.text.now

pub depth_after-depth-requires : goal.depth_after-depth-requires
depth_after-depth-requires c = at_few c.args.alphabet.now c.args.text.now c.loop-place.place c.loop-place.depth c.loop-place.last c.loop-place.invariant

pub returns-in-None-clause-fault : goal.returns-in-None-clause-fault
returns-in-None-clause-fault c =
    at_fault c.args.alphabet.now c.args.text.now c.loop-place.place 0 c.loop-place.depth c.loop-place.last c.sign_for-sign.result c.requires c.loop-place-test.true c.loop-place.invariant c.sign_for-sign.ensures (sym c.in-None.is ∙ c.next.ensures)

pub loop-place-preserved : goal.loop-place-preserved
loop-place-preserved c =
    at_next c.args.alphabet.now c.args.text.now c.loop-place.place 0 c.loop-place.depth c.loop-place.last c.sign_for-sign.result c.in-Some.next c.depth_after-depth.result c.loop-place-test.true c.loop-place.invariant c.sign_for-sign.ensures (sym c.in-Some.is ∙ c.next.ensures) c.depth_after-depth.ensures

pub returns-then-is_whole-clause-word : goal.returns-then-is_whole-clause-word
returns-then-is_whole-clause-word c =
    at_word c.args.alphabet.now c.args.text.now c.loop-place.place c.loop-place.depth c.loop-place.last (omega arith) c.loop-place.invariant (sym c.is_whole.ensures ∙ c.if-is_whole.true)

pub returns-else-is_whole-clause-fault : goal.returns-else-is_whole-clause-fault
returns-else-is_whole-clause-fault c =
    at_open_end c.args.alphabet.now c.args.text.now c.loop-place.place c.loop-place.depth c.loop-place.last c.requires (omega arith) c.loop-place.invariant (sym c.is_whole.ensures ∙ c.if-is_whole.false)
