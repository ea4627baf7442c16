use Rattle.std.proofs.Common.{◌∙◌, true, false}
use Rattle.sims_one.proofs.EdgeLaws.{kept_to}
use Rattle.sims_one.proofs.deductions.read_edge.Goals as goal

pub returns-then-not-branch-clause-keeps : goal.returns-then-not-branch-clause-keeps
returns-then-not-branch-clause-keeps c =
    kept_to c.args.presentation.now.presentation c.args.known.now c.loop-place.known c.read_place.new.known c.in_ok-read_place.field-0 false c.loop-place.invariant.keeps c.if-not-branch.true c.in_ok-read_place.ensures.keeps

pub loop-place-preserved : goal.loop-place-preserved
loop-place-preserved c = record {
  nodes = c.in_ok-read_place.ensures.nodes ∙ c.loop-place.invariant.nodes;
  keeps = kept_to c.args.presentation.now.presentation c.args.known.now c.loop-place.known c.read_place.new.known c.in_ok-read_place.field-0 true c.loop-place.invariant.keeps c.if-not-branch.false c.in_ok-read_place.ensures.keeps;
  end = c.lead_on-end.ensures;
}
