use Rattle.std.proofs.Common.{◌≡◌, take}
use Rattle.word_graph.specs.Steps.{words_of}
use Rattle.word_graph.proofs.walks.Walk.words.Given as goal

abbrev pub invariant-loop-step : goal.invariant-loop-step
invariant-loop-step l = l.words.items ≡ words_of (take l.step-index l.step-items)
