use Rattle.std.proofs.Common.{◌≡◌, ◌<◌, Bool, true, false, sym, subst}
use Rattle.congruence_classes.proofs.ListedRuleLaws.{goes, rule_is, step_within}
use Rattle.congruence_classes.proofs.listing.rule_at.Goals as goal

apart : (b : Bool) → b ≡ false → b ≡ true → ⊥
apart b off on = cc

pub goes_on-requires-clause-target : goal.goes_on-requires-clause-target
goes_on-requires-clause-target g c =
    let list = g.L.ListedClasses.list c.args.classes.now in
    subst (λ n. n < list.count) (sym c.in_ok-target.ensures) (step_within list c.requires.listing c.args.place c.args.letter c.requires.place c.requires.letter)

pub word-requires : goal.word-requires
word-requires g c =
    let list = g.L.ListedClasses.list c.args.classes.now in
    subst (λ n. n < list.count) (sym c.in_ok-target.ensures) (step_within list c.requires.listing c.args.place c.args.letter c.requires.place c.requires.letter)

pub returns-then-goes_on : goal.returns-then-goes_on
returns-then-goes_on g c =
    goes (g.L.ListedClasses.list c.args.classes.now) c.requires.listing c.requires.reduced c.args.place c.args.letter c.requires.place c.requires.letter c.in_ok-target.target
    c.in_ok-target.ensures (c.goes_on.ensures.0 c.if-goes_on.true)

pub returns : goal.returns
returns g c =
    rule_is (g.L.ListedClasses.list c.args.classes.now) c.requires.listing c.requires.reduced c.args.place c.args.letter c.requires.place c.requires.letter c.in_ok-target.target
    c.in_ok-left.left c.in_ok-right.right c.in_ok-target.ensures
    (λ goes. absurd (apart c.goes_on.result c.if-goes_on.false (c.goes_on.ensures.1 goes)))
    (λ falls. absurd (apart c.in_ok-rest_falls.field-0 c.if-branch.false (c.in_ok-rest_falls.ensures.1 falls)))
    c.in_ok-left.ensures c.in_ok-right.ensures
