use Rattle.word_powers.proofs.PowerFaults.{one_place}
use Rattle.word_powers.proofs.facts.texts_go_wrong_at_one_place.Goals as goal

pub returns : goal.returns
returns c = λ alphabet text p q f g. one_place alphabet text p q f g
