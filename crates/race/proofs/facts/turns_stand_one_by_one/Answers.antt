use Rattle.race.proofs.Rearranged.{rearranged, own_kept}
use Rattle.race.proofs.facts.turns_stand_one_by_one.Goals as goal

pub returns : goal.returns
returns g c = record { state = λ events s whole. rearranged events s whole; same = λ events lane whole. own_kept events lane whole }
