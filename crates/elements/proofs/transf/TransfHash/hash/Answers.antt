use Rattle.std.proofs.Common.{fold, sym, ap, subst, ◌∙◌}
use Rattle.elements.specs.Hashes.{images_hash}
use Rattle.elements.specs.TransfForms.{images_of, IsForm}
use Rattle.elements.proofs.Digits.{packed_images_hash}
use Rattle.elements.proofs.transf.TransfHash.hash.Goals as goal

pub returns-in-Packed : goal.returns-in-Packed
returns-in-Packed g c =
    let form = subst IsForm c.in-Packed.is c.self.invariant in
    c.write_u64.ensures ∙ ap (fold g.H.Hasher.write c.args.state.now) (sym (packed_images_hash c.in-Packed.field-0 c.in-Packed.x form.0 form.1) ∙ ap images_hash (sym (ap images_of c.in-Packed.is) ∙ c.self.view_is))
