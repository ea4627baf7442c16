use Rattle.std.proofs.Common.{subst}
use Rattle.std.specs.Prelude.{IfSome}
use Rattle.coincidence.specs.Places.{IsMaskOf, Places}
use Rattle.coincidence.proofs.places.PlaceList.mask.Goals as goal

pub returns : goal.returns
returns c = subst (λ (z : Places). IfSome c.self.inside.mask (λ mask. IsMaskOf mask z)) c.self.view_is c.self.invariant
