use Rattle.std.proofs.Common.{◌≡◌, take}
use Rattle.word_graph.specs.Numbered.{max_from}
use Rattle.sims_one.proofs.paths.greatest.Given as goal

abbrev pub invariant-loop-target : goal.invariant-loop-target
invariant-loop-target l = l.greatest ≡ max_from 0 (take l.target-index l.targets)
