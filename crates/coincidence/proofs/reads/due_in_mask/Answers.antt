use Rattle.coincidence.proofs.StartLaws.{mask_end, mask_found, mask_more}
use Rattle.coincidence.proofs.reads.due_in_mask.Goals as goal

pub loop-number-preserved : goal.loop-number-preserved
loop-number-preserved c = record {
  quiet = mask_more c.args.edges.now.graph c.args.begun.now.pairs.now c.args.node c.args.mask c.loop-number.left c.take_first.new.mask c.in-Some.number c.in-Some.ensures.others c.in-Nothing.ensures.due c.loop-number.invariant.quiet;
  seen = c.due_of_number.ensures.seen;
}

pub returns-in_default-due_of_number-clause-due : goal.returns-in_default-due_of_number-clause-due
returns-in_default-due_of_number-clause-due c =
    mask_found c.args.edges.now.graph c.args.begun.now.pairs.now c.args.node c.args.mask c.in-Some.number c.due_of_number.result (λ e. c.in_default-due_of_number.not-Nothing e)
    (c.due_of_number.ensures.some (λ e. c.in_default-due_of_number.not-Nothing e)) c.due_of_number.ensures.due

pub returns-clause-due : goal.returns-clause-due
returns-clause-due c = mask_end c.args.edges.now.graph c.args.begun.now.pairs.now c.args.node c.args.mask c.loop-number.left c.in_default.ensures.none c.loop-number.invariant.quiet
