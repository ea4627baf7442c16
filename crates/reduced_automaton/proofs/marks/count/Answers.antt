use Rattle.std.proofs.Common.{◌≤◌, take, ◌∙◌, ap, arith}
use Rattle.std.proofs.lemmas.List.{length-take-le, take_all}
use Rattle.reduced_automaton.specs.Framings.{count_marked}
use Rattle.reduced_automaton.proofs.MarkLaws.{count_more, count_most}
use Rattle.reduced_automaton.proofs.marks.count.Goals as goal
use Rattle.reduced_automaton.proofs.marks.count.Goals.{then-mark, else-mark}

pub overflow_add-count : goal.overflow_add-count
overflow_add-count c =
    let most = count_most (take c.loop-mark.mark-index c.args.marks.now) in
    let short = length-take-le c.loop-mark.mark-index c.args.marks.now (omega (arith, c.loop-mark-test.true)) in
    let few : c.loop-mark.count ≤ c.loop-mark.mark-index = omega (arith, c.loop-mark.invariant, most, short) in
    omega (arith, few, c.loop-mark-test.true)

pub loop-mark-preserved : goal.loop-mark-preserved
loop-mark-preserved c =
    elim c.if-mark.branch [
      | then-mark w ↦ omega (arith, w.count-is, c.loop-mark.invariant, count_more c.args.marks.now c.loop-mark.mark-index _ c.loop-mark-test.true w.if-mark.true)
      | else-mark w ↦ omega (arith, w.count-is, c.loop-mark.invariant, count_more c.args.marks.now c.loop-mark.mark-index _ c.loop-mark-test.true w.if-mark.false)
    ]

pub returns : goal.returns
returns c = c.loop-mark.invariant ∙ ap count_marked (take_all c.loop-mark.mark-index c.args.marks.now c.loop-mark-test.false)
