use Rattle.std.proofs.Common.{refl, ◌∙◌, true, false}
use Rattle.sims_one.proofs.EdgeLaws.{kept_all, kept_to}
use Rattle.sims_one.proofs.deductions.+read_back.Goals as goal

pub returns-then-known-back-clause-keeps : goal.returns-then-known-back-clause-keeps
returns-then-known-back-clause-keeps t c = kept_all c.args.presentation.now.presentation c.args.known.now

pub returns-then-back-eq0-clause-keeps : goal.returns-then-back-eq0-clause-keeps
returns-then-back-eq0-clause-keeps t c = c.read.ensures.keeps

pub loop-start-init : goal.loop-start-init
loop-start-init t c = record { nodes = refl; keeps = kept_all c.args.presentation.now.presentation c.args.known.now }

pub returns-clause-keeps : goal.returns-clause-keeps
returns-clause-keeps t c = c.loop-start.invariant.keeps

pub returns-then-not-branch-clause-keeps : goal.returns-then-not-branch-clause-keeps
returns-then-not-branch-clause-keeps t c =
    kept_to c.args.presentation.now.presentation c.args.known.now c.loop-start.known c.read_back.new.known c.in_ok-read_back.field-0 false c.loop-start.invariant.keeps c.if-not-branch.true c.in_ok-read_back.ensures.keeps

pub loop-start-preserved : goal.loop-start-preserved
loop-start-preserved t c = record {
  nodes = c.in_ok-read_back.ensures.nodes ∙ c.loop-start.invariant.nodes;
  keeps = kept_to c.args.presentation.now.presentation c.args.known.now c.loop-start.known c.read_back.new.known c.in_ok-read_back.field-0 true c.loop-start.invariant.keeps c.if-not-branch.false c.in_ok-read_back.ensures.keeps;
}
