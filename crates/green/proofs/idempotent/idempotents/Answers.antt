use Rattle.std.proofs.Common.{◌≡◌, ◌<◌, Bool, List, None, length, subst, arith}
use Rattle.theory.specs.Green.{here}
use Rattle.theory.specs.Listing.{IsListOf}
use Rattle.green.specs.Idempotents.{AreMarked, IsMarked}
use Rattle.green.proofs.Results.{if_ok}
use Rattle.green.proofs.IdempotentLaws.{marked_all}
use Rattle.green.proofs.idempotent.idempotents.Goals as goal

pub returns : goal.returns
returns c =
    let all : c.loop-number.number ≡ length c.args.tables.now.words = omega (arith, c.loop-number-test.false, c.loop-number.auto.number-end, c.len-number-end.ensures) in
    if_ok c.marked.result _ _ c.marked.ensures (λ found listed.
    marked_all c.args.tables.now c.args.both.now c.loop-number.seen.items c.loop-number.marks.items (λ e. ((here, here), (here, here)))
    (subst (λ m. AreMarked c.args.tables.now c.args.both.now m c.loop-number.seen.items c.loop-number.marks.items) all c.loop-number.invariant) found.items
    (subst (λ (marks : List Bool). IsListOf (IsMarked marks) ◌<◌ None found.items) c.deref.ensures.value listed))
