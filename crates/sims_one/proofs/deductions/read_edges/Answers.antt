use Rattle.std.proofs.Common.{◌∙◌, true, false}
use Rattle.sims_one.proofs.EdgeLaws.{kept_to}
use Rattle.sims_one.proofs.deductions.read_edges.Goals as goal

pub returns-then-not-branch-clause-keeps : goal.returns-then-not-branch-clause-keeps
returns-then-not-branch-clause-keeps c =
    kept_to c.args.presentation.now.presentation c.args.known.now c.loop-number.known c.read_edge.new.known c.in_ok-read_edge.field-0 false c.loop-number.invariant.keeps c.if-not-branch.true c.in_ok-read_edge.ensures.keeps

pub loop-number-preserved : goal.loop-number-preserved
loop-number-preserved c = record {
  nodes = c.in_ok-read_edge.ensures.nodes ∙ c.loop-number.invariant.nodes;
  keeps = kept_to c.args.presentation.now.presentation c.args.known.now c.loop-number.known c.read_edge.new.known c.in_ok-read_edge.field-0 true c.loop-number.invariant.keeps c.if-not-branch.false c.in_ok-read_edge.ensures.keeps;
}
