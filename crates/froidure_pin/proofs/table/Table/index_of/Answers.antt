use Rattle.std.proofs.Common.{ap, sym, arith, ◌∙◌}
use Rattle.froidure_pin.specs.Numbering.{right_number}
use Rattle.froidure_pin.proofs.Reading.{over_at, first_number, number_more}
use Rattle.froidure_pin.proofs.table.Table.index_of.Goals as goal

pub generator-number-requires : goal.generator-number-requires
generator-number-requires g c = over_at c.args.self.now.letters c.args.word.now 0 c.letter.result c.requires.over c.letter.ensures

pub loop-place-init : goal.loop-place-init
loop-place-init g c = record {
  within = c.generator-number.ensures.within;
  so_far = c.generator-number.ensures.number ∙ sym (first_number c.args.self.now c.args.word.now c.letter.result c.letter.ensures);
}

pub right-number-requires-clause-letter : goal.right-number-requires-clause-letter
right-number-requires-clause-letter g c = over_at c.args.self.now.letters c.args.word.now c.loop-place.place c.letter-in-loop-place.result c.requires.over c.letter-in-loop-place.ensures

pub loop-place-preserved : goal.loop-place-preserved
loop-place-preserved g c = record {
  within = c.right-number.ensures.within;
  so_far = c.right-number.ensures.number ∙ ap (λ n. right_number c.args.self.now n c.letter-in-loop-place.result) c.loop-place.invariant.so_far ∙ sym (number_more c.args.self.now c.args.word.now c.loop-place.place c.letter-in-loop-place.result (omega arith) (omega arith) c.letter-in-loop-place.ensures);
}
