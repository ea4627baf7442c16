use Rattle.std.proofs.Common.{◌<◌, length, get_or, slice_get, subst, sym, ap, ◌∙◌, arith}
use Rattle.words.proofs.TextLemmas.{over_at, byte_more}
use Rattle.words.proofs.alphabets.Alphabet.text_of.Goals as goal

pub byte-requires : goal.byte-requires
byte-requires c =
    let at = c.letter-item.is ∙ ap (λ w. get_or w c.loop-letter.letter-index c.letter-item.result) c.letters-letter-items.ensures in
    let over = over_at (length c.args.self.now) c.args.word.now c.loop-letter.letter-index c.letter-item.result c.requires (subst (λ w. c.loop-letter.letter-index < length w) c.letters-letter-items.ensures c.loop-letter-test.true) in
    omega (arith, at, over)

pub loop-letter-preserved : goal.loop-letter-preserved
loop-letter-preserved c =
    let at = c.letter-item.is ∙ ap (λ w. get_or w c.loop-letter.letter-index c.letter-item.result) c.letters-letter-items.ensures in
    byte_more c.args.self.now c.args.word.now c.loop-letter.letter-index c.letter-item.result c.byte.result c.loop-letter.text.items c.push.new.self.items
    (subst (λ w. c.loop-letter.letter-index < length w) c.letters-letter-items.ensures c.loop-letter-test.true)
    c.loop-letter.invariant
    (ap (λ a. slice_get c.args.self.now a) (sym at) ∙ c.byte.ensures)
    c.in_ok-push.ensures.items
