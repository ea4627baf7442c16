use Rattle.std.proofs.Common.{subst}
use Rattle.tc_hlt.specs.Tracing.{IsGrown, IsNext, NoDrawing}
use Rattle.tc_hlt.proofs.GrowLaws.{letters_more}
use Rattle.tc_hlt.proofs.rows.define_letters.Goals as goal

pub loop-number-preserved : goal.loop-number-preserved
loop-number-preserved c = record {
  table = c.step.ensures.table;
  grown =
      letters_more c.loop-number.number c.args.table.now c.loop-number.table c.step.new.table c.args.node c.loop-number.invariant.grown
      (subst (λ a. IsGrown (IsNext a) NoDrawing c.loop-number.table c.step.new.table c.args.node) c.new.ensures c.in_ok-step.ensures.grown);
}
