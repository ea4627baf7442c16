use Rattle.rewriting.specs.Lookups.{IsRewriting}
use Rattle.rewriting.specs.Reductions.{weight_of}
use Rattle.rewriting.specs.Traces.{LeadBy, word_so_far}
use Rattle.rewriting.proofs.kept_rules.KeptRules.reduce_traced.Given as goal

abbrev pub invariant-loop-letter : goal.invariant-loop-letter
invariant-loop-letter l = record {
  rewriting : IsRewriting l.self-inside.rules l.self-inside.lookup l.word l.reduction;
  traced : LeadBy l.self-inside.rules l.word l.trace.items (word_so_far l.reduction);
}

abbrev pub decreases-loop-letter : goal.decreases-loop-letter
decreases-loop-letter l = weight_of l.self-inside.rules l.word l.reduction
