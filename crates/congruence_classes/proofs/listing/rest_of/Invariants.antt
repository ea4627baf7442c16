use Rattle.std.proofs.Common.{◌≡◌, take, drop}
use Rattle.congruence_classes.proofs.listing.rest_of.Given as goal

abbrev pub invariant-loop-place : goal.invariant-loop-place
invariant-loop-place l = l.rest ≡ drop 1 (take l.place l.word)
