use Rattle.rewriting.specs.Lookups.{IsRewriting}
use Rattle.rewriting.specs.Reductions.{weight_of}
use Rattle.rewriting.proofs.kept_rules.KeptRules.reduce_in.Given as goal

abbrev pub invariant-loop-letter : goal.invariant-loop-letter
invariant-loop-letter l = IsRewriting l.self-inside.rules l.self-inside.lookup l.word l.room

abbrev pub decreases-loop-letter : goal.decreases-loop-letter
decreases-loop-letter l = weight_of l.self-inside.rules l.word l.room
