use Rattle.std.proofs.Common.{◌≡◌, arith}
use Rattle.coincidence.proofs.StartLaws.{letters_more, letters_end}
use Rattle.coincidence.proofs.reads.due_by_letters.Goals as goal

pub loop-number-preserved : goal.loop-number-preserved
loop-number-preserved c = record {
  quiet = letters_more c.args.edges.now.graph c.args.begun.now.pairs.now c.args.node c.args.begun.now.starts.now c.loop-number.number c.new-letter.result c.new-letter.ensures c.in-Nothing.ensures.due c.loop-number.invariant.quiet;
  seen = c.due_by_letter.ensures.seen;
}

pub returns-clause-due : goal.returns-clause-due
returns-clause-due c =
    let end : c.loop-number.number ≡ c.letters-number-end.result = omega arith in
    letters_end c.letters-number-end.result c.args.edges.now.graph c.args.begun.now.pairs.now c.args.node c.args.begun.now.starts.now c.letters-number-end.ensures.graph c.requires.starts c.requires.short
    (λ x less. c.loop-number.invariant.quiet x (omega (arith, less, end)))
