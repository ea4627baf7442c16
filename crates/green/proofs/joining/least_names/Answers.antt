use Rattle.std.proofs.Common.{◌≡◌, ◌+◌, ◌<◌, ◌∙◌, ℕ, Vec, Global, length, replicate, slice_index, sym, ap, subst, arith}
use Rattle.std.proofs.lemmas.List.{get_or_default}
use Rattle.green.proofs.JoinLaws.{AreLeastBefore, least_none, least_lower, least_same, least_all}
use Rattle.green.proofs.joining.least_names.Goals.{then-first-number, else-first-number}
use Rattle.green.proofs.joining.least_names.Goals as goal

pub loop-number-init : goal.loop-number-init
loop-number-init c = least_none c.args.first.now c.args.second.now c.in_ok-least.least.items (c.in_ok-least.ensures.items_if_clones_equal (λ y e. e) ∙ ap (replicate (length c.args.first.now)) c.in_ok-none.ensures)

pub loop-number-preserved : goal.loop-number-preserved
loop-number-preserved c =
    let name = slice_index c.args.second.now c.loop-number.number in
    let low : name < length c.args.first.now = omega (arith, c.requires.second c.loop-number.number (omega (arith, c.loop-number-test.true, c.requires.count)), c.requires.count) in
    let read : c.index.result.now ≡ slice_index c.loop-number.least.items name =
    c.index.ensures ∙ get_or_default c.loop-number.least.items name c.index.result.now 0 (omega (arith, low, c.loop-number.invariant.count)) in
    elim c.if-first-number.branch [
      | then-first-number w ↦ least_lower c.args.first.now c.args.second.now c.loop-number.number c.loop-number.least.items c.loop-number.invariant c.loop-number-test.true low
          (omega (arith, w.if-first-number.true, read)) c.if-first-number.least.items (ap (λ (v : Vec ℕ Global). v.items) w.least-is)
      | else-first-number w ↦ subst (λ (least : Vec ℕ Global). AreLeastBefore c.args.first.now c.args.second.now (c.loop-number.number + 1) least.items) (sym w.least-is)
          (least_same c.args.first.now c.args.second.now c.loop-number.number c.loop-number.least.items c.loop-number.invariant c.loop-number-test.true low
          (λ less. omega (arith, less, read, w.if-first-number.false)))
    ]

pub returns-clause-least : goal.returns-clause-least
returns-clause-least c =
    let all : c.loop-number.number ≡ length c.args.first.now = omega (arith, c.loop-number-test.false, c.loop-number.auto.number-end) in
    least_all c.args.first.now c.args.second.now c.loop-number.least.items c.requires.count c.requires.first c.requires.second
    (subst (λ m. AreLeastBefore c.args.first.now c.args.second.now m c.loop-number.least.items) all c.loop-number.invariant)
