use Rattle.std.proofs.Common.{◌≡◌, length, take, sym, ap, subst, ◌∙◌, arith}
use Rattle.std.proofs.lemmas.List.{length-take-le}
use Rattle.froidure_pin.specs.Found.{generated, words_of}
use Rattle.froidure_pin.specs.Growing.{AreLeftNumbers}
use Rattle.froidure_pin.proofs.OneShape.{some_value}
use Rattle.froidure_pin.proofs.Search.{setting_of}
use Rattle.froidure_pin.proofs.Beginning.{left_first}
use Rattle.froidure_pin.proofs.growth.Growth.begin_left.Given.{Over}
use Rattle.froidure_pin.proofs.growth.Growth.begin_left.Goals as goal

pub slice_bounds-from_slice-end : goal.slice_bounds-from_slice-end
slice_bounds-from_slice-end g c =
    let row = (c.requires.grown (some_value c.args.generators.now.items c.requires.some)).found.count in
    sym (length-take-le c.len.result c.deref.result.now (omega (arith, c.len.ensures, row, ap length c.deref.ensures.value)))

-- what was copied
copied : (g : Over) (c : goal.After-drop-self g) → c.in_ok-self.field-0.items ≡ take (length c.args.generators.now.items) c.args.self.now.right.items
copied g c =
    let letters : c.len.result ≡ length c.args.generators.now.items = omega (arith, c.len.ensures) in
    c.in_ok-self.ensures.items ∙ (λ i. take (letters i) (c.deref.ensures.value i))

pub returns-clause-rows : goal.returns-clause-rows
returns-clause-rows g c =
    let row = (c.requires.grown (some_value c.args.generators.now.items c.requires.some)).found.count in
    ap length (copied g c) ∙ length-take-le (length c.args.generators.now.items) c.args.self.now.right.items (omega (arith, row))

pub returns-clause-left : goal.returns-clause-left
returns-clause-left g c = λ unused.
    let s = generated g.E.Values.product g.E.PartialEq.eq c.args.generators.now.items unused in
    let setting = setting_of g.met.E.Values.products g.met.E.Element.one_shape c.requires.shape unused in
    subst (λ left. AreLeftNumbers s (words_of c.args.self.now.factors.items) left) (sym (copied g c)) (left_first setting (c.requires.grown unused))
