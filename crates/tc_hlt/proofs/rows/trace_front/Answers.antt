use Rattle.std.proofs.Common.{◌<◌, sym, subst, take}
use Rattle.theory.specs.Congruence.{Congruence}
use Rattle.tc_hlt.proofs.GrowLaws.{traced_start, traced_live, traced_more, letter_of}
use Rattle.tc_hlt.proofs.rows.trace_front.Goals as goal

pub loop-i-init : goal.loop-i-init
loop-i-init c = traced_start c.args.table.now c.args.node c.requires.table c.requires.failed

pub step-requires-clause-node : goal.step-requires-clause-node
step-requires-clause-node c =
    traced_live c.args.table.now c.loop-i.table c.args.node c.loop-i.at (take c.loop-i.i c.args.word.now) c.requires.table c.requires.node c.loop-i.invariant

pub step-requires-clause-letter : goal.step-requires-clause-letter
step-requires-clause-letter c =
    subst (λ (k : Congruence). c.letter.result < k.presentation.letters) (sym c.loop-i.invariant.grown.congruence)
    (letter_of c.args.table.now.congruence.presentation.letters c.args.word.now c.loop-i.i c.letter.result c.requires.over c.letter.ensures)

pub loop-i-preserved : goal.loop-i-preserved
loop-i-preserved c =
    traced_more c.args.table.now c.loop-i.table c.step.new.table c.args.node c.loop-i.at c.letter.result c.in_ok-at.at c.loop-i.i c.args.word.now
    c.loop-i.invariant c.letter.ensures c.step.ensures.table c.in_ok-at.ensures.edge c.in_ok-at.ensures.grown
