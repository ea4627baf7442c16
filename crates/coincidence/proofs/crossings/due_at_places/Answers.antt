use Rattle.std.proofs.Common.{◌≡◌, ◌<◌, [], length, get_or, arith, sym, subst}
use Rattle.theory.specs.Word.{Word}
use Rattle.coincidence.specs.Uses.{side_of}
use Rattle.coincidence.specs.declared.due.Due.TheVariants.{Nothing}
use Rattle.coincidence.proofs.PlaceLaws.{behind_of, place_within, places_found, places_more, places_end}
use Rattle.coincidence.proofs.SeenLaws.{sides_of_pair}
use Rattle.coincidence.proofs.crossings.due_at_places.Goals as goal

pub pair-pair-requires : goal.pair-pair-requires
pair-pair-requires c = (place_within c.args.sides.now.second c.args.sides.now.pairs.now c.args.places.now c.loop-k.k ([], []) (omega arith) c.requires.places).0

pub due_across-requires-clause-place : goal.due_across-requires-clause-place
due_across-requires-clause-place c =
    let within : (get_or c.args.places.now c.loop-k.k (0, 0)).1 < length c.side.result.now =
    subst (λ (z : Word). (get_or c.args.places.now c.loop-k.k (0, 0)).1 < length z) (sym c.side.ensures)
    (subst (λ (z : Word × Word). (get_or c.args.places.now c.loop-k.k (0, 0)).1 < length (side_of c.args.sides.now.second z)) (sym c.pair-pair.ensures)
    (place_within c.args.sides.now.second c.args.sides.now.pairs.now c.args.places.now c.loop-k.k c.pair-pair.result.now (omega arith) c.requires.places).1) in
    omega (arith, within)

pub returns-in_default-clause-due : goal.returns-in_default-clause-due
returns-in_default-clause-due c =
    places_found c.args.sides.now.second c.args.sides.now.edges.now.graph c.args.sides.now.pairs.now c.args.node c.args.letter (get_or c.args.places.now c.loop-k.k (0, 0)).0 (get_or c.args.places.now c.loop-k.k (0, 0)).1 c.args.places.now c.pair-pair.result.now c.due_across.result
    (λ e. c.in_default.not-Nothing e) (place_within c.args.sides.now.second c.args.sides.now.pairs.now c.args.places.now c.loop-k.k ([], []) (omega arith) c.requires.places).0 c.pair-pair.ensures
    (behind_of c.args.sides.now.second c.args.sides.now.edges.now.graph c.args.node (get_or c.args.places.now c.loop-k.k (0, 0)).1 c.pair-pair.result.now c.side.result.now c.other_side.result.now c.due_across.result c.side.ensures c.other_side.ensures c.due_across.ensures.due)

pub loop-k-preserved : goal.loop-k-preserved
loop-k-preserved c =
    record {
      quiet =
          places_more c.args.sides.now.second c.args.sides.now.edges.now.graph c.args.sides.now.pairs.now c.args.node c.args.places.now c.loop-k.k c.pair-pair.result.now
          (place_within c.args.sides.now.second c.args.sides.now.pairs.now c.args.places.now c.loop-k.k ([], []) (omega arith) c.requires.places).0 c.pair-pair.ensures
          (behind_of c.args.sides.now.second c.args.sides.now.edges.now.graph c.args.node (get_or c.args.places.now c.loop-k.k (0, 0)).1 c.pair-pair.result.now c.side.result.now c.other_side.result.now Nothing c.side.ensures c.other_side.ensures c.in-Nothing.ensures.due) c.loop-k.invariant.quiet;
      seen = c.due_across.ensures.seen;
    }

pub returns-clause-due : goal.returns-clause-due
returns-clause-due c =
    let end : c.loop-k.k ≡ length c.args.places.now = omega arith in
    places_end c.args.sides.now.second c.args.sides.now.edges.now.graph c.args.sides.now.pairs.now c.args.node c.args.letter c.args.places.now c.loop-k.k end c.loop-k.invariant.quiet

pub due_across-requires-clause-pair : goal.due_across-requires-clause-pair
due_across-requires-clause-pair c =
    sides_of_pair c.args.sides.now.second c.args.sides.now.pairs.now (get_or c.args.places.now c.loop-k.k (0, 0)).0 c.pair-pair.result.now _ _
    (place_within c.args.sides.now.second c.args.sides.now.pairs.now c.args.places.now c.loop-k.k ([], []) (omega arith) c.requires.places).0 c.pair-pair.ensures c.side.ensures c.other_side.ensures
