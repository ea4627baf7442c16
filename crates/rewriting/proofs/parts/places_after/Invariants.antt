use Rattle.std.proofs.Common.{◌≡◌, map, take}
use Rattle.rewriting.specs.Parts.{through}
use Rattle.rewriting.proofs.parts.places_after.Given as goal

abbrev pub invariant-loop-place : goal.invariant-loop-place
invariant-loop-place l = l.after.items ≡ map (through l.moved) (take l.place-index l.places)
