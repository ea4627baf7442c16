use Rattle.std.proofs.Common.{◌≡◌, ◌<◌, List, length, ap, arith, subst, IfOk, Some, slice_get}
use Rattle.theory.specs.Word.{Word}
use Rattle.froidure_pin.specs.Found.{words_of}
use Rattle.froidure_pin.proofs.Factors.{words_length}
use Rattle.froidure_pin.proofs.Reading.{word_read}
use Rattle.froidure_pin.proofs.table.Table.word.Goals as goal

pub returns : goal.returns
returns g c =
    let words : List Word = words_of c.self.inside.factors.items in
    let within : c.args.number < length words = omega (arith, words_length c.self.inside.factors.items, ap (λ t. length t.elements) c.self.view_is, c.self.invariant.count, c.requires) in
    subst (λ ws. IfOk c.spell.result (λ word. slice_get ws c.args.number ≡ Some word)) (ap (λ t. t.words) c.self.view_is) (word_read words c.args.number c.spell.result within c.spell.ensures)
