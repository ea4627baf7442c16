use Rattle.std.proofs.Common.{sym, subst}
use Rattle.theory.specs.Word.{IsOver}
use Rattle.congruence_classes.proofs.ListedRuleLaws.{over_rest}
use Rattle.congruence_classes.proofs.listing.rest_place.Goals as goal

pub place-requires : goal.place-requires
place-requires g c =
    let list = g.L.ListedClasses.list c.args.classes.now in
    subst (λ w. IsOver list.letters w) (sym (c.in_ok-rest.ensures)) (over_rest list.letters c.in_ok-word.word (subst (λ w. IsOver list.letters w) (sym c.in_ok-word.ensures) (c.requires.listing.over c.args.place c.requires.place)))
