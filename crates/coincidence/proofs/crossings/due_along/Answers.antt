use Rattle.std.proofs.Common.{◌≡◌, length, subst, sym, arith}
use Rattle.coincidence.specs.Seen.{HoldWhereSeen}
use Rattle.coincidence.proofs.ReadLaws.{IsQuietAlong, along_more, along_end, cut_quiet}
use Rattle.coincidence.proofs.crossings.due_along.Goals as goal
use Rattle.coincidence.proofs.crossings.due_along.Goals.{then-may_cross+in-Nothing, else-may_cross}

pub loop-place-preserved : goal.loop-place-preserved
loop-place-preserved c =
    elim c.if-may_cross.branch [
      | then-may_cross+in-Nothing w ↦ record { quiet = along_more c.args.edges.now.graph c.args.edge.now.node c.args.edge.now.letter c.args.one.now.side.now c.args.one.now.side.now c.args.one.now.other.now c.loop-place.place (λ _. w.in-Nothing.ensures.due) c.loop-place.invariant.quiet; seen = subst (HoldWhereSeen c.args.one.now.pairs.now c.args.edges.now.graph) (sym w.seen-is) w.due_across.ensures.seen }
      | else-may_cross w ↦ record {
        quiet = along_more c.args.edges.now.graph c.args.edge.now.node c.args.edge.now.letter c.args.one.now.side.now c.args.one.now.side.now c.args.one.now.other.now c.loop-place.place
            (λ e n leads. cut_quiet c.args.edges.now.graph c.args.edge.now.node n c.args.one.now.side.now c.args.one.now.other.now c.loop-place.place (c.may_cross.ensures w.if-may_cross.false e) leads) c.loop-place.invariant.quiet;
        seen = subst (HoldWhereSeen c.args.one.now.pairs.now c.args.edges.now.graph) (sym w.seen-is) c.loop-place.invariant.seen;
      }
    ]

pub returns-clause-due : goal.returns-clause-due
returns-clause-due c =
    let end : c.loop-place.place ≡ length c.args.one.now.side.now = omega arith in
    along_end c.args.edges.now.graph c.args.edge.now.node c.args.edge.now.letter c.args.one.now.side.now c.args.one.now.side.now c.args.one.now.other.now (subst (λ z. IsQuietAlong c.args.edges.now.graph c.args.edge.now.node c.args.edge.now.letter c.args.one.now.side.now c.args.one.now.side.now c.args.one.now.other.now z) end c.loop-place.invariant.quiet)
