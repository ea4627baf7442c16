use Rattle.word_powers.proofs.PowerPlain.{plain_word}
use Rattle.word_powers.proofs.facts.plain_words_stand_for_themselves.Goals as goal

pub returns : goal.returns
returns c = λ alphabet text word allow_empty e. plain_word alphabet text allow_empty word e
