use Rattle.std.proofs.Common.{◌≡◌, ◌<◌, ◌∙◌, List, ap, length, subst, sym, arith}
use Rattle.coincidence.specs.Uses.{ArePlaces, StandsIn}
use Rattle.coincidence.specs.declared.groups.Group.{Group}
use Rattle.coincidence.proofs.PlaceLaws.{AreQuietGroups, group_found, group_places, groups_more, sides_quiet}
use Rattle.coincidence.proofs.crossings.due_in_sides.Goals as goal

pub due_in_group-requires-clause-places : goal.due_in_group-requires-clause-places
due_in_group-requires-clause-places c =
    let second = c.args.sides.now.second in
    let pairs = c.args.sides.now.pairs.now in
    let groups = c.of-groups.result.now in
    let less : c.loop-k.k < length groups = omega arith in
    subst (λ (z : Group). ArePlaces second pairs z.places) (sym c.index-groups-k.is)
    (group_places second pairs groups c.loop-k.k c.index-groups-k.result less (λ i p kind d h. c.requires.uses.within c.args.letter i p kind d (subst (λ (z : List Group). StandsIn z kind (i, p)) c.of-groups.ensures h)))

pub loop-k-preserved : goal.loop-k-preserved
loop-k-preserved c =
    let groups = c.of-groups.result.now in
    let less : c.loop-k.k < length groups = omega arith in
    record {
      quiet = groups_more c.args.sides.now.second c.args.sides.now.edges.now.graph c.args.sides.now.pairs.now c.args.node c.args.letter groups c.loop-k.k c.index-groups-k.result less c.index-groups-k.is c.in-Nothing.ensures.due c.loop-k.invariant.quiet;
      seen = c.due_in_group.ensures.seen;
    }

pub returns-in_default-clause-due : goal.returns-in_default-clause-due
returns-in_default-clause-due c =
    group_found c.args.sides.now.second c.args.sides.now.edges.now.graph c.args.sides.now.pairs.now c.args.node c.args.letter c.index-groups-k.result c.due_in_group.result (λ e. c.in_default.not-Nothing e) c.due_in_group.ensures.due

pub returns-clause-due : goal.returns-clause-due
returns-clause-due c =
    let end : c.loop-k.k ≡ length c.of-groups.result.now = omega arith in
    sides_quiet c.args.sides.now.second c.args.sides.now.edges.now.graph c.args.sides.now.pairs.now c.args.node c.args.letter c.args.sides.now.uses.now c.loop-k.k c.requires.uses (end ∙ ap length c.of-groups.ensures)
    (subst (λ (z : List Group). AreQuietGroups c.args.sides.now.second c.args.sides.now.edges.now.graph c.args.sides.now.pairs.now c.args.node c.args.letter z c.loop-k.k) c.of-groups.ensures c.loop-k.invariant.quiet)
