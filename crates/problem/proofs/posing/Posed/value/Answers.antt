use Rattle.std.proofs.Common.{ℕ, length, ap, ◌∙◌, arith}
use Rattle.std.proofs.lemmas.Option.{slice_get_within, get_or_from_slice_get}
use Rattle.elements.specs.Generators.{value_by}
use Rattle.problem.proofs.Products.{letter_within, some_letter, value_first, value_more, all_read, shape_at, shape_of_product}
use Rattle.problem.proofs.posing.Posed.value.Goals as goal

pub generator-requires : goal.generator-requires
generator-requires g c = letter_within (length c.args.self.now.letters) c.args.word.now 0 c.letter.result c.requires.over c.letter.ensures

pub loop-place-init : goal.loop-place-init
loop-place-init g c = record {
  shape = shape_at g.E.Values.shape c.args.self.now.generators c.letter.result c.generator.result.now c.in_ok-value.value c.generator.ensures.shape c.generator.ensures.generator c.in_ok-value.ensures;
  so_far = λ unused. c.in_ok-value.ensures ∙ value_first g.E.Values.product c.args.self.now.generators unused c.args.word.now c.letter.result c.generator.result.now c.letter.ensures c.generator.ensures.generator;
}

pub generator-requires-in-loop-place : goal.generator-requires-in-loop-place
generator-requires-in-loop-place g c = letter_within (length c.args.self.now.letters) c.args.word.now c.loop-place.place c.letter-in-loop-place.result c.requires.over c.letter-in-loop-place.ensures

pub product-requires : goal.product-requires
product-requires g c =
    let a : ℕ = c.letter-in-loop-place.result in
    let x = c.generator-in-loop-place.result.now in
    let at = c.generator-in-loop-place.ensures.generator in
    c.loop-place.invariant.shape a x (slice_get_within c.args.self.now.generators a x at) ∙ ap g.E.Values.shape (get_or_from_slice_get c.args.self.now.generators a x x at)

pub loop-place-preserved : goal.loop-place-preserved
loop-place-preserved g c =
    let a : ℕ = c.letter-in-loop-place.result in
    let x = c.generator-in-loop-place.result.now in
    let at = c.generator-in-loop-place.ensures.generator in
    let alike = c.loop-place.invariant.shape a x (slice_get_within c.args.self.now.generators a x at) ∙ ap g.E.Values.shape (get_or_from_slice_get c.args.self.now.generators a x x at) in
    record {
      shape = λ i unused h. shape_of_product g.E.Values.shape g.E.Values.product g.met.E.Values.products c.loop-place.value x c.in_ok-value-2.value alike c.in_ok-value-2.ensures ∙ c.loop-place.invariant.shape i unused h;
      so_far = λ unused. c.in_ok-value-2.ensures ∙ value_more g.E.Values.product c.args.self.now.generators unused c.args.word.now c.loop-place.place a c.loop-place.value x (omega arith) (omega arith) c.letter-in-loop-place.ensures at (c.loop-place.invariant.so_far unused);
    }

pub returns : goal.returns
returns g c unused = all_read (value_by g.E.Values.product c.args.self.now.generators unused) c.args.word.now c.loop-place.place c.loop-place.value (omega (arith, some_letter c.args.word.now c.requires.some)) (c.loop-place.invariant.so_far unused)
