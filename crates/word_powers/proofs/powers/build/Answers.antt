use Rattle.std.proofs.Common.{subst, sym, ap, ◌∙◌, length, arith}
use Rattle.word_powers.specs.PowerMarks.{marks_after, outset_marks}
use Rattle.word_powers.specs.PowerSteps.{next}
use Rattle.word_powers.proofs.PowerKept.{IsBuilt, built_start, built_few, built_next, built_end, kept_depth, kept_small, kept_base}
use Rattle.word_powers.proofs.powers.build.Goals as goal

pub loop-byte-init : goal.loop-byte-init
loop-byte-init c =
    subst (λ m. IsBuilt c.args.alphabet.now c.args.text.now 0 c.new-word.result m) (sym c.new-marks.ensures)
    (subst (λ u. IsBuilt c.args.alphabet.now c.args.text.now 0 u outset_marks) (sym c.new-word.ensures) (built_start c.args.alphabet.now c.args.text.now))

pub write-requires-clause-exponent : goal.write-requires-clause-exponent
write-requires-clause-exponent c = kept_small c.args.alphabet.now c.args.text.now c.loop-byte.byte-index (length c.loop-byte.word) c.loop-byte.marks c.loop-byte.invariant.kept

pub write-requires-clause-base : goal.write-requires-clause-base
write-requires-clause-base c = kept_base c.args.alphabet.now c.args.text.now c.loop-byte.byte-index (length c.loop-byte.word) c.loop-byte.marks c.loop-byte.invariant.kept

pub write-requires-clause-few : goal.write-requires-clause-few
write-requires-clause-few c = built_few c.args.alphabet.now c.args.text.now c.loop-byte.byte-index c.loop-byte.word c.loop-byte.marks c.requires.alphabet c.loop-byte.invariant c.requires.word

pub after-marks-requires : goal.after-marks-requires
after-marks-requires c = kept_depth c.args.alphabet.now c.args.text.now c.loop-byte.byte-index (length c.loop-byte.word) c.loop-byte.marks c.loop-byte.invariant.kept

pub loop-byte-preserved : goal.loop-byte-preserved
loop-byte-preserved c =
    built_next c.args.alphabet.now c.args.text.now c.loop-byte.byte-index 0 c.loop-byte.word c.loop-byte.marks c.sign_for-sign.result c.write.new.word c.after-marks.result c.requires.alphabet c.requires.word c.loop-byte-test.true c.loop-byte.invariant c.sign_for-sign.ensures c.in_ok-write.ensures
    (c.after-marks.ensures ∙ ap (λ n. marks_after c.loop-byte.marks n c.sign_for-sign.result (next c.loop-byte.marks.depth c.loop-byte.marks.last c.sign_for-sign.result)) c.len-len.ensures)

pub returns : goal.returns
returns c = built_end c.args.alphabet.now c.args.text.now c.loop-byte.byte-index c.loop-byte.word c.loop-byte.marks c.requires.alphabet c.requires.word (omega arith) c.loop-byte.invariant
