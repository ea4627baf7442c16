use Rattle.std.proofs.Common.{◌∷◌, [], ◌++◌, ◌∙◌, ap, subst, sym}
use Rattle.std.specs.Prelude.{IfSome}
use Rattle.coincidence.specs.Places.{IsMaskOf, Places}
use Rattle.coincidence.proofs.SeenLaws.{mask_grown}
use Rattle.coincidence.proofs.UsesLaws.{pushed_with}
use Rattle.coincidence.proofs.places.PlaceList.add.Goals as goal

pub invariant_of-self : goal.invariant_of-self
invariant_of-self c = subst (λ (z : Places). IfSome c.self.inside.mask (λ mask. IsMaskOf mask z)) (sym c.in_err-push.ensures.items) c.self.invariant

pub invariant_of-self-2 : goal.invariant_of-self-2
invariant_of-self-2 c =
    mask_grown c.self.inside.entries.items c.push.new.self.items c.args.place c.self.inside.mask c.mask_with-self-inside.result
    (pushed_with c.self.inside.entries.items c.args.place c.push.new.self.items c.in_ok-push.ensures.items) c.self.invariant c.mask_with-self-inside.ensures

pub returns : goal.returns
returns c = pushed_with c.args.self.now c.args.place c.push.new.self.items (c.in_ok-push.ensures.items ∙ ap (λ (z : Places). z ++ c.args.place ∷ []) c.self.view_is)
