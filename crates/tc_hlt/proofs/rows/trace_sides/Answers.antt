use Rattle.std.proofs.Common.{◌≡◌, ◌<◌, List, length, arith, ap, subst, sym, ◌∙◌}
use Rattle.std.proofs.lemmas.Bool.{ltb-true}
use Rattle.theory.specs.Word.{Word, IsOver}
use Rattle.theory.specs.Congruence.{Congruence}
use Rattle.coincidence.specs.Holding.{HoldFrom, MeetAt}
use Rattle.tc_hlt.specs.Tracing.{AreSides, AreSidesAny, IsAlongBoth}
use Rattle.tc_hlt.proofs.GrowLaws.{IsAlongFirst, grown_live, sides_of, first_more, first_all}
use Rattle.tc_hlt.proofs.RelationLaws.{from_kept, held_next}
use Rattle.tc_hlt.proofs.rows.trace_sides.Goals as goal

pub trace_relation-requires-clause-first : goal.trace_relation-requires-clause-first
trace_relation-requires-clause-first c =
    let less : c.loop-i.i < length c.args.pairs.now = omega arith in
    subst (λ (k : Congruence). IsOver k.presentation.letters c.pair.result.now.0) (sym c.loop-i.invariant.grown.congruence)
    (c.requires.over c.pair.result.now.0 (sides_of c.args.pairs.now c.loop-i.i c.pair.result.now less c.pair.ensures).0)

pub trace_relation-requires-clause-second : goal.trace_relation-requires-clause-second
trace_relation-requires-clause-second c =
    let less : c.loop-i.i < length c.args.pairs.now = omega arith in
    subst (λ (k : Congruence). IsOver k.presentation.letters c.pair.result.now.1) (sym c.loop-i.invariant.grown.congruence)
    (c.requires.over c.pair.result.now.1 (sides_of c.args.pairs.now c.loop-i.i c.pair.result.now less c.pair.ensures).1)

-- the pairs are the relations of the table, which keeps them
same_pairs : (pairs : List (Word × Word)) (old now : Congruence) → pairs ≡ old.presentation.relations → now ≡ old → pairs ≡ now.presentation.relations
same_pairs pairs old now e kept = e ∙ ap (λ (k : Congruence). k.presentation.relations) (sym kept)

pub trace_relation-requires-clause-known : goal.trace_relation-requires-clause-known
trace_relation-requires-clause-known c = λ h.
    let same : c.args.pairs.now ≡ c.loop-i.table.congruence.presentation.relations = same_pairs c.args.pairs.now c.args.table.now.congruence c.loop-i.table.congruence c.requires.relations c.loop-i.invariant.grown.congruence in
    let hold : HoldFrom c.args.pairs.now c.loop-i.table.graph c.args.node c.loop-i.i c.unknown_from-known.result = subst (λ (pairs : List (Word × Word)). HoldFrom pairs c.loop-i.table.graph c.args.node c.loop-i.i c.unknown_from-known.result) (sym same) c.unknown_from-known.ensures in
    subst (λ (p : Word × Word). MeetAt c.loop-i.table.graph c.args.node p) (sym c.pair.ensures) (hold c.loop-i.i c.pair.result.now (omega arith) (ltb-true c.loop-i.i c.unknown_from-known.result h))

pub unknown_from-known-requires : goal.unknown_from-known-requires
unknown_from-known-requires c =
    let same : c.args.pairs.now ≡ c.loop-i.table.congruence.presentation.relations = same_pairs c.args.pairs.now c.args.table.now.congruence c.loop-i.table.congruence c.requires.relations c.loop-i.invariant.grown.congruence in
    record {
      node = grown_live (IsAlongFirst c.args.pairs.now c.loop-i.i) (AreSidesAny c.args.pairs.now) c.args.table.now c.loop-i.table c.args.node c.args.node c.requires.table c.loop-i.invariant.table c.loop-i.invariant.grown c.requires.node;
      known = subst (λ (pairs : List (Word × Word)). HoldFrom pairs c.loop-i.table.graph c.args.node c.loop-i.i c.loop-i.known) same c.loop-i.invariant.known;
    }

pub loop-i-preserved : goal.loop-i-preserved
loop-i-preserved c =
    let less : c.loop-i.i < length c.args.pairs.now = omega arith in
    record {
      table = c.trace_relation.ensures.table;
      within = c.held_with-held.ensures.within;
      known =
          from_kept (IsAlongBoth c.pair.result.now.0 c.pair.result.now.1) (AreSides c.pair.result.now.0 c.pair.result.now.1) c.loop-i.table c.trace_relation.new.table c.args.node c.args.node c.in_ok-met.ensures.grown
          c.args.pairs.now c.loop-i.i c.unknown_from-known.result
          (subst (λ (pairs : List (Word × Word)). HoldFrom pairs c.loop-i.table.graph c.args.node c.loop-i.i c.unknown_from-known.result)
          (sym (same_pairs c.args.pairs.now c.args.table.now.congruence c.loop-i.table.congruence c.requires.relations c.loop-i.invariant.grown.congruence)) c.unknown_from-known.ensures);
      held = held_next (IsAlongBoth c.pair.result.now.0 c.pair.result.now.1) (AreSides c.pair.result.now.0 c.pair.result.now.1) c.loop-i.table c.trace_relation.new.table c.args.node c.args.node c.in_ok-met.ensures.grown
          c.args.pairs.now c.loop-i.i c.loop-i.held c.held_with-held.result c.pair.result.now c.in_ok-met.met less c.pair.ensures c.in_ok-met.ensures.met c.held_with-held.ensures.more c.loop-i.invariant.held;
      grown =
          first_more c.args.pairs.now c.loop-i.i c.pair.result.now c.args.table.now c.loop-i.table c.trace_relation.new.table c.args.node
          less c.pair.ensures c.loop-i.invariant.grown c.in_ok-met.ensures.grown;
    }

pub returns-clause-grown : goal.returns-clause-grown
returns-clause-grown c =
    let end : c.loop-i.i ≡ length c.args.pairs.now = omega arith in
    first_all c.args.pairs.now c.loop-i.i c.args.table.now c.loop-i.table c.args.node end c.loop-i.invariant.grown
