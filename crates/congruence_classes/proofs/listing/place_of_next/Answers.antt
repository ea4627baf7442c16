use Rattle.std.proofs.Common.{sym, ◌∙◌}
use Rattle.congruence_classes.proofs.PlaceLaws.{behind_word, place_within, same_word}
use Rattle.congruence_classes.proofs.listing.place_of_next.Goals as goal

pub returns-then-eq : goal.returns-then-eq
returns-then-eq g c =
    let list = g.L.ListedClasses.list c.args.classes.now in
    behind_word list c.requires.listing c.args.first c.in_ok-place.place c.args.cursor.now c.requires.first
    (place_within list c.requires.listing c.args.cursor.now c.in_ok-place.place c.letters.result c.in_ok-place.ensures c.letters.ensures (c.is_over.ensures.0 c.if-not-is_over.false))
    (sym c.in_ok-word.ensures ∙ same_word c.in_ok-word.word c.args.cursor.now c.letters-2.result.now c.letters-3.result.now c.eq.result c.letters-2.ensures c.letters-3.ensures c.eq.ensures c.if-eq.true)
