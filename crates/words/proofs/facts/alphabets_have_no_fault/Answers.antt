use Rattle.words.proofs.AlphabetLemmas.{faultless, unfaulted_alphabet}
use Rattle.words.proofs.facts.alphabets_have_no_fault.Goals as goal

pub returns : goal.returns
returns c = λ wide text. (unfaulted_alphabet wide text, faultless wide text)
