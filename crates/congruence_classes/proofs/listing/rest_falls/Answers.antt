use Rattle.std.proofs.Common.{◌<◌, sym, subst, arith}
use Rattle.congruence_classes.proofs.ListedRuleLaws.{place_over, rest_by, step_within}
use Rattle.congruence_classes.proofs.listing.rest_falls.Goals as goal

pub goes_on-requires-clause-target : goal.goes_on-requires-clause-target
goes_on-requires-clause-target g c =
    let list = g.L.ListedClasses.list c.args.classes.now in
    let rest : c.args.rest < list.count = subst (λ n. n < list.count) (sym c.requires.rest) (place_over list c.requires.listing c.args.place c.requires.place) in
    subst (λ n. n < list.count) (sym c.in_ok-target.ensures) (step_within list c.requires.listing c.args.rest c.args.letter rest c.requires.letter)

pub returns : goal.returns
returns g c =
    let list = g.L.ListedClasses.list c.args.classes.now in
    rest_by list c.requires.listing c.requires.reduced c.args.place c.args.letter c.requires.place c.requires.letter c.args.rest c.in_ok-target.target c.goes_on.result c.requires.rest
    (λ first. omega (arith, first, c.if-place-eq0.false)) c.in_ok-target.ensures c.goes_on.ensures
