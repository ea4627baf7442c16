use Rattle.std.proofs.Common.{sym, subst}
use Rattle.coincidence.specs.Places.{Places}
use Rattle.coincidence.specs.Uses.{ArePlaces}
use Rattle.coincidence.proofs.crossings.due_of_kind.Goals as goal

pub due_in_powers-requires-clause-places : goal.due_in_powers-requires-clause-places
due_in_powers-requires-clause-places c = subst (λ (z : Places). ArePlaces c.args.sides.now.second c.args.sides.now.pairs.now z) (sym c.as_slice-places.ensures) c.requires.places

pub due_at_places-requires-clause-places : goal.due_at_places-requires-clause-places
due_at_places-requires-clause-places c = subst (λ (z : Places). ArePlaces c.args.sides.now.second c.args.sides.now.pairs.now z) (sym c.as_slice-places.ensures) c.requires.places

pub due_at_places-requires-in-Behind-clause-places : goal.due_at_places-requires-in-Behind-clause-places
due_at_places-requires-in-Behind-clause-places c = subst (λ (z : Places). ArePlaces c.args.sides.now.second c.args.sides.now.pairs.now z) (sym c.as_slice-places.ensures) c.requires.places
