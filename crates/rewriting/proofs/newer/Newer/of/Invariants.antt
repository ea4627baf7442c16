use Rattle.std.proofs.Common.{◌≡◌, ◌-◌, length}
use Rattle.rewriting.specs.Newer.{AreNewerTo}
use Rattle.rewriting.proofs.newer.Newer.of.Given as goal

abbrev pub invariant-loop-place : goal.invariant-loop-place
invariant-loop-place l = record {
  to : AreNewerTo l.rules l.first (l.place - l.first) l.newer;
  keys : length l.newer.latest.items ≡ 256;
  depth : l.newer.depth ≡ l.initial.newer.depth;
}
