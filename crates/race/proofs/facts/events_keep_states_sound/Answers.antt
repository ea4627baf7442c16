use Rattle.race.proofs.Keeps.{keeps}
use Rattle.race.proofs.facts.events_keep_states_sound.Goals as goal

pub returns : goal.returns
returns g c = λ s e good may. keeps g.R.Racer s e good may
