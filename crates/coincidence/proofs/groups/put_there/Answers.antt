use Rattle.std.proofs.Common.{◌∙◌, ap}
use Rattle.coincidence.specs.declared.groups.Group.{Group}
use Rattle.coincidence.proofs.UsesLaws.{group_put}
use Rattle.coincidence.proofs.groups.put_there.Goals as goal

pub returns : goal.returns
returns c = λ kind is.
    group_put c.args.groups.now.items c.args.k c.index_mut.result.now c.push_place.new.group kind c.args.place c.requires c.index_mut.ensures.value
    (ap (λ (z : Group). z.kind) c.index_mut.ensures.value ∙ is c.index_mut.result.now) c.push_place.ensures.kind c.in_ok-push_place.ensures.places
