use Rattle.std.proofs.Common.{◌≡◌, [], length, get_or, arith}
use Rattle.coincidence.specs.declared.due.Due.TheVariants.{Nothing}
use Rattle.coincidence.proofs.PlaceLaws.{place_within, powers_found, powers_more, powers_end, along_of}
use Rattle.coincidence.proofs.SeenLaws.{sides_of_pair}
use Rattle.coincidence.proofs.UsesLaws.{period_read}
use Rattle.coincidence.proofs.crossings.due_in_powers.Goals as goal

pub pair-pair-requires : goal.pair-pair-requires
pair-pair-requires c = (place_within c.args.sides.now.second c.args.sides.now.pairs.now c.args.places.now c.loop-k.k ([], []) (omega arith) c.requires.places).0

pub returns-in_default-clause-due : goal.returns-in_default-clause-due
returns-in_default-clause-due c =
    powers_found c.args.sides.now.second c.args.sides.now.edges.now.graph c.args.sides.now.pairs.now c.args.node c.args.letter (get_or c.args.places.now c.loop-k.k (0, 0)).0 c.args.places.now c.pair-pair.result.now c.due_along.result
    (λ e. c.in_default.not-Nothing e) (place_within c.args.sides.now.second c.args.sides.now.pairs.now c.args.places.now c.loop-k.k ([], []) (omega arith) c.requires.places).0 c.pair-pair.ensures
    (along_of c.args.sides.now.second c.args.sides.now.edges.now.graph c.args.node c.args.letter c.pair-pair.result.now c.side.result.now c.other_side.result.now c.due_along.result c.side.ensures c.other_side.ensures c.due_along.ensures.due)

pub loop-k-preserved : goal.loop-k-preserved
loop-k-preserved c =
    record {
      quiet =
          powers_more c.args.sides.now.second c.args.sides.now.edges.now.graph c.args.sides.now.pairs.now c.args.node c.args.letter c.args.places.now c.loop-k.k c.pair-pair.result.now
          (place_within c.args.sides.now.second c.args.sides.now.pairs.now c.args.places.now c.loop-k.k ([], []) (omega arith) c.requires.places).0 c.pair-pair.ensures
          (along_of c.args.sides.now.second c.args.sides.now.edges.now.graph c.args.node c.args.letter c.pair-pair.result.now c.side.result.now c.other_side.result.now Nothing c.side.ensures c.other_side.ensures c.in-Nothing.ensures.due) c.loop-k.invariant.quiet;
      seen = c.due_along.ensures.seen;
    }

pub returns-clause-due : goal.returns-clause-due
returns-clause-due c =
    let end : c.loop-k.k ≡ length c.args.places.now = omega arith in
    powers_end c.args.sides.now.second c.args.sides.now.edges.now.graph c.args.sides.now.pairs.now c.args.node c.args.letter c.args.places.now c.loop-k.k end c.loop-k.invariant.quiet

pub due_along-requires-clause-pair : goal.due_along-requires-clause-pair
due_along-requires-clause-pair c =
    sides_of_pair c.args.sides.now.second c.args.sides.now.pairs.now (get_or c.args.places.now c.loop-k.k (0, 0)).0 c.pair-pair.result.now _ _
    (place_within c.args.sides.now.second c.args.sides.now.pairs.now c.args.places.now c.loop-k.k ([], []) (omega arith) c.requires.places).0 c.pair-pair.ensures c.side.ensures c.other_side.ensures

pub of-count-requires : goal.of-count-requires
of-count-requires c = omega (arith, (place_within c.args.sides.now.second c.args.sides.now.pairs.now c.args.places.now c.loop-k.k ([], []) (omega arith) c.requires.places).0, c.requires.periods.count)

pub due_along-requires-clause-period : goal.due_along-requires-clause-period
due_along-requires-clause-period c =
    period_read c.args.sides.now.second c.args.sides.now.pairs.now c.args.sides.now.periods.now (get_or c.args.places.now c.loop-k.k (0, 0)).0 c.of-count.result c.pair-pair.result.now c.side.result.now
    (place_within c.args.sides.now.second c.args.sides.now.pairs.now c.args.places.now c.loop-k.k ([], []) (omega arith) c.requires.places).0 c.pair-pair.ensures c.side.ensures c.of-count.ensures c.requires.periods
