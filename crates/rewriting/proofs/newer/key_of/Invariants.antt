use Rattle.std.proofs.Common.{◌≡◌, ◌<◌, drop}
use Rattle.rewriting.specs.Newer.{key_from}
use Rattle.rewriting.proofs.newer.key_of.Given as goal

abbrev pub invariant-loop-place : goal.invariant-loop-place
invariant-loop-place l = record {
  few : l.key < 256;
  key : key_from l.key (drop l.place l.letters) ≡ key_from 0 l.letters;
}
