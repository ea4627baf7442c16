use Rattle.std.proofs.Common.{subst, sym, ap, ◌+◌, arith}
use Rattle.word_powers.proofs.PowerKept.{IsKept, kept_start, kept_depth, kept_small, kept_base, kept_next, kept_long, kept_short}
use Rattle.word_powers.proofs.powers.fits.Goals as goal

pub loop-byte-init : goal.loop-byte-init
loop-byte-init c = record {
  kept = subst (IsKept c.args.alphabet.now c.args.text.now 0 0) (sym c.new-marks.ensures) (kept_start c.args.alphabet.now c.args.text.now);
  short = omega arith;
}

pub growth-requires-clause-exponent : goal.growth-requires-clause-exponent
growth-requires-clause-exponent c = kept_small c.args.alphabet.now c.args.text.now c.loop-byte.byte-index c.loop-byte.len c.loop-byte.marks c.loop-byte.invariant.kept

pub growth-requires-clause-base : goal.growth-requires-clause-base
growth-requires-clause-base c =
    let h = kept_base c.args.alphabet.now c.args.text.now c.loop-byte.byte-index c.loop-byte.len c.loop-byte.marks c.loop-byte.invariant.kept in
    let s = c.loop-byte.invariant.short in
    omega arith

pub overflow_add-longer : goal.overflow_add-longer
overflow_add-longer c = let s = c.loop-byte.invariant.short in let f = c.growth.ensures.few in omega arith

pub after-marks-requires : goal.after-marks-requires
after-marks-requires c = kept_depth c.args.alphabet.now c.args.text.now c.loop-byte.byte-index c.loop-byte.len c.loop-byte.marks c.loop-byte.invariant.kept

pub returns-then-longer-gt-MOST_LETTERS-clause-long : goal.returns-then-longer-gt-MOST_LETTERS-clause-long
returns-then-longer-gt-MOST_LETTERS-clause-long c =
    λ _. kept_long c.args.alphabet.now c.args.text.now c.loop-byte.byte-index 0 c.loop-byte.len c.loop-byte.marks c.sign_for-sign.result c.requires.alphabet c.requires.word c.loop-byte-test.true c.loop-byte.invariant.kept c.sign_for-sign.ensures
    (let g = c.growth.ensures.growth in let l = c.if-longer-gt-MOST_LETTERS.true in omega arith)

pub loop-byte-preserved : goal.loop-byte-preserved
loop-byte-preserved c = record {
  kept = kept_next c.args.alphabet.now c.args.text.now c.loop-byte.byte-index 0 c.loop-byte.len c.loop-byte.marks c.sign_for-sign.result (c.loop-byte.len + c.growth.result) c.after-marks.result c.requires.alphabet c.requires.word c.loop-byte-test.true c.loop-byte.invariant.kept c.sign_for-sign.ensures (ap (λ n. c.loop-byte.len + n) c.growth.ensures.growth) c.after-marks.ensures;
  short = c.if-longer-gt-MOST_LETTERS.false;
}

pub returns-clause-short : goal.returns-clause-short
returns-clause-short c =
    λ _. kept_short c.args.alphabet.now c.args.text.now c.loop-byte.byte-index c.loop-byte.len c.loop-byte.marks c.requires.alphabet c.requires.word (omega arith) c.loop-byte.invariant.kept c.loop-byte.invariant.short
