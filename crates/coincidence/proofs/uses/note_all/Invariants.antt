use Rattle.std.proofs.Common.{map}
use Rattle.coincidence.proofs.UsesLaws.{AreNotedTo}
use Rattle.coincidence.proofs.uses.note_all.Given as goal

abbrev pub invariant-loop-place : goal.invariant-loop-place
invariant-loop-place l = AreNotedTo l.power (map (λ v. v.items) l.initial.letters.items) (map (λ v. v.items) l.letters.items) l.side l.pair l.place
