use Rattle.std.proofs.Common.{subst, sym}
use Rattle.coincidence.specs.Uses.{IsPut}
use Rattle.coincidence.proofs.UsesLaws.{group_more}
use Rattle.coincidence.proofs.groups.put_new.Goals as goal

pub returns : goal.returns
returns c =
    subst (λ z. IsPut c.args.groups.now.items z c.args.kind c.args.place) (sym c.in_ok-push.ensures.items)
    (group_more c.args.groups.now.items c.in_ok-group.group c.args.kind c.args.place c.in_ok-group.ensures.kind c.in_ok-group.ensures.places)
