use Rattle.std.proofs.Common.{[], ◌∷◌, ◌++◌, List, true, false, replicate, None, sym, ◌∙◌, ap, subst}
use Rattle.coincidence.specs.Absorbing.{Extends}
use Rattle.coincidence.specs.Kept.{IsKept}
use Rattle.coincidence.specs.declared.order.Order.{Order}
use Rattle.coincidence.specs.declared.pending.Pending.{Pending}
use Rattle.coincidence.specs.declared.pending.Pending.TheVariants.{NewNode}
use Rattle.coincidence.proofs.HeldLaws.{root_whole}
use Rattle.coincidence.proofs.cosets.Cosets.new.Goals as goal

pub returns-in-Ok-clause-whole : goal.returns-in-Ok-clause-whole
returns-in-Ok-clause-whole c = λ k is letters.
    let bare = c.bare-cosets.ensures in
    let added = c.in-Ok.ensures in
    root_whole k c.add_root.new.self is (ap (λ z. z.graph) (added.edges ∙ bare.edges ∙ c.in_ok-edges.ensures) ∙ ap (λ n. replicate n None ∷ []) (sym letters))
    (added.live ∙ ap (λ z. z ++ true ∷ []) bare.live) (added.marked ∙ ap (λ z. z ++ false ∷ []) bare.marked)
    (subst (λ (z : List Pending). Extends (z ++ NewNode 0 ∷ []) c.add_root.new.self.pending) bare.pending added.pending)
    (subst (λ (z : Order). IsKept k.presentation.letters (replicate k.presentation.letters None ∷ []) (false ∷ []) z) (sym (added.order ∙ bare.order)) (c.in_ok-order.ensures k.presentation.letters)) (added.seen ∙ bare.seen)
