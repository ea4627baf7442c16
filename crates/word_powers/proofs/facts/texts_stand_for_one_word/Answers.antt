use Rattle.word_powers.proofs.PowerFaults.{one_word}
use Rattle.word_powers.proofs.facts.texts_stand_for_one_word.Goals as goal

pub returns : goal.returns
returns c = λ alphabet text u v a p q. one_word alphabet a text u v p q
