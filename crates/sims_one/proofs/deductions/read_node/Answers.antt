use Rattle.std.proofs.Common.{◌∙◌, true, false}
use Rattle.sims_one.proofs.EdgeLaws.{kept_to}
use Rattle.sims_one.proofs.deductions.read_node.Goals as goal

pub returns-then-not-branch-clause-keeps : goal.returns-then-not-branch-clause-keeps
returns-then-not-branch-clause-keeps c =
    kept_to c.args.presentation.now.presentation c.args.known.now c.loop-relation.known c.read.new.known c.in_ok-read.field-0 false c.loop-relation.invariant.keeps c.if-not-branch.true c.in_ok-read.ensures.keeps

pub loop-relation-preserved : goal.loop-relation-preserved
loop-relation-preserved c = record {
  nodes = c.in_ok-read.ensures.nodes ∙ c.loop-relation.invariant.nodes;
  keeps = kept_to c.args.presentation.now.presentation c.args.known.now c.loop-relation.known c.read.new.known c.in_ok-read.field-0 true c.loop-relation.invariant.keeps c.if-not-branch.false c.in_ok-read.ensures.keeps;
}
