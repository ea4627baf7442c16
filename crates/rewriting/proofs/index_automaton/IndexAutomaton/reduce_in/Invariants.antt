use Rattle.rewriting.specs.Reductions.{IsReductionBy, weight_of}
use Rattle.rewriting.specs.Tries.{words_of}
use Rattle.rewriting.proofs.index_automaton.IndexAutomaton.reduce_in.Given as goal

abbrev pub invariant-loop-letter : goal.invariant-loop-letter
invariant-loop-letter l = IsReductionBy l.rules (words_of l.rules l.self.prefixes) l.word l.room

abbrev pub decreases-loop-letter : goal.decreases-loop-letter
decreases-loop-letter l = weight_of l.rules l.word l.room
