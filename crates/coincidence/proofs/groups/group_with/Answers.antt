use Rattle.std.proofs.Common.{subst}
use Rattle.coincidence.specs.Places.{IsWith, Places}
use Rattle.coincidence.proofs.groups.group_with.Goals as goal

pub returns-clause-places : goal.returns-clause-places
returns-clause-places c = subst (λ (z : Places). IsWith z c.add.new.self c.args.place) c.new-places.ensures c.in_ok-add.ensures
