use Rattle.std.proofs.Common.{◌≡◌, ◌∙◌, ℕ, List, ◌<◌, ap, slice_index, get_or, arith, length}
use Rattle.std.proofs.lemmas.List.{get_or_default}
use Rattle.congruence_closure.proofs.LabelLaws.{skip_sum, skip_labels, skip_below, skip_tops, lower}
use Rattle.congruence_closure.proofs.parents.skip_parent.Goals as goal

above_is : (xs : List ℕ) (n m v : ℕ) → n < length xs → m < length xs → m ≡ get_or xs n m → v ≡ get_or xs m v → v ≡ slice_index xs (slice_index xs n)
above_is xs n m v h k e d =
    let first : m ≡ slice_index xs n = e ∙ get_or_default xs n m 0 h in
    d ∙ get_or_default xs m v 0 k ∙ ap (slice_index xs) first

pub returns-clause-parent : goal.returns-clause-parent
returns-clause-parent c = above_is c.args.parents.now.items c.args.number c.index.result.now c.index-above.result.now c.requires.within (omega (arith, c.requires.within, c.requires.below c.args.number c.requires.within, c.index.ensures, get_or_default c.args.parents.now.items c.args.number c.index.result.now 0 c.requires.within)) c.index.ensures c.index-above.ensures

pub returns-clause-lower : goal.returns-clause-lower
returns-clause-lower c = lower c.args.parents.now.items c.args.number c.index-above.result.now c.requires.within c.requires.below (returns-clause-parent c)

pub returns-clause-below : goal.returns-clause-below
returns-clause-below c = skip_below c.args.parents.now.items c.args.number c.index-above.result.now c.requires.within c.requires.below (returns-clause-parent c)

pub returns-clause-tops : goal.returns-clause-tops
returns-clause-tops c = skip_tops c.args.parents.now.items c.args.number c.index-above.result.now c.requires.within c.requires.below (returns-clause-parent c)

pub returns-clause-sum : goal.returns-clause-sum
returns-clause-sum c = skip_sum c.args.parents.now.items c.args.number c.index-above.result.now c.requires.within c.requires.below (returns-clause-parent c)

pub returns-clause-labels : goal.returns-clause-labels
returns-clause-labels c = skip_labels c.args.parents.now.items c.args.number c.index-above.result.now c.requires.within c.requires.below (returns-clause-parent c)
