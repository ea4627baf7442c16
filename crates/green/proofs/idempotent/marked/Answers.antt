use Rattle.std.proofs.Common.{◌+◌, ◌<◌, ◌∙◌, true≢false, List, ℕ, None, ap, sym, subst, arith}
use Rattle.theory.specs.Listing.{IsListOf}
use Rattle.green.proofs.IdempotentLaws.{IsMarkedBefore, listed_marked, listed_same, listed_all}
use Rattle.green.proofs.idempotent.marked.Goals as goal
use Rattle.green.proofs.idempotent.marked.Goals.{then-marks-number+in_ok-push, else-marks-number}

pub loop-number-preserved : goal.loop-number-preserved
loop-number-preserved c = elim c.if-marks-number.branch [
  | then-marks-number+in_ok-push w ↦
      subst (λ (xs : List ℕ). IsListOf (IsMarkedBefore c.args.marks.now (c.loop-number.number + 1)) ◌<◌ None xs) (sym (ap (λ v. v.items) w.found-is ∙ w.in_ok-push.ensures.items))
      (listed_marked c.args.marks.now c.loop-number.number c.loop-number.found.items c.loop-number.invariant w.if-marks-number.true)
  | else-marks-number w ↦
      subst (λ (xs : List ℕ). IsListOf (IsMarkedBefore c.args.marks.now (c.loop-number.number + 1)) ◌<◌ None xs) (sym (ap (λ v. v.items) w.found-is))
      (listed_same c.args.marks.now c.loop-number.number c.loop-number.found.items c.loop-number.invariant (λ h. true≢false (sym h ∙ w.if-marks-number.false)))
]

pub returns : goal.returns
returns c =
    listed_all c.args.marks.now c.loop-number.number c.loop-number.found.items c.loop-number.invariant (omega (arith, c.loop-number-test.false, c.loop-number.auto.number-end))
