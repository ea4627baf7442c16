use Rattle.std.proofs.Common.{◌≡◌, ◌<◌, drop}
use Rattle.sims_one.specs.Targets.{path_in}
use Rattle.sims_one.proofs.paths.path_in.Given as goal

abbrev pub invariant-loop-i : goal.invariant-loop-i
invariant-loop-i l = record {
  path : path_in l.letters l.targets l.node l.word ≡ path_in l.letters l.targets l.at (drop l.i l.word);
  small : l.at < 17;
}
