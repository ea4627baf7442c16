use Rattle.std.proofs.Common.{take}
use Rattle.knuth_bendix.specs.Runs.{AreShortRelations}
use Rattle.knuth_bendix.proofs.completions.short_relations.Given as goal

abbrev pub invariant-loop-place : goal.invariant-loop-place
invariant-loop-place l = AreShortRelations l.bound (take l.place l.relations) l.equations
