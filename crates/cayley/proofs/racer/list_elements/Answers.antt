use Rattle.std.proofs.Common.{refl}
use Rattle.cayley.proofs.racer.list_elements.Goals as goal

pub returns-in-Ok-None : goal.returns-in-Ok-None
returns-in-Ok-None g c = λ unused. (c.requires.none, rw c.in-Ok-None.field-0-is at (c.in-Ok-None.ensures unused))

pub returns-in-Ok-Some : goal.returns-in-Ok-Some
returns-in-Ok-Some g c = λ unused.
    let h = rw c.in-Ok-Some.field-0-is at (c.in-Ok-Some.ensures unused) in
    (c.in-Ok-Some.found, refl, h.0, h.1)
