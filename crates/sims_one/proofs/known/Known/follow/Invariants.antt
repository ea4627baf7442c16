use Rattle.std.proofs.Common.{◌≡◌, ◌<◌, ℕ, List, take}
use Rattle.std.specs.Prelude.{Some}
use Rattle.sims_one.specs.Targets.{path_in}
use Rattle.sims_one.specs.Known.{HasEdges}
use Rattle.sims_one.proofs.known.Known.follow.Given as goal

abbrev pub invariant-loop-i : goal.invariant-loop-i
invariant-loop-i l = record {
  path : (u : List ℕ) → HasEdges l.self.targets u → path_in l.letters u l.node (take l.i l.word) ≡ Some l.at;
  small : l.at < 17;
}
