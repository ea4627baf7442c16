use Rattle.std.proofs.Common.{sym, subst, arith}
use Rattle.std.specs.Option.{option_copied}
use Rattle.theory.specs.ShortLex.{◌≺◌}
use Rattle.theory.specs.Class.{IsLeast}
use Rattle.theory.specs.Listing.{IsNext}
use Rattle.problem.specs.Problem.{SameClassOf, count_of, has_empty_word}
use Rattle.congruence_classes.specs.ClassLists.{IsPlaceAfter}
use Rattle.congruence_classes.proofs.AnswerLaws.{first_within, goes_on, last_at, next_at}
use Rattle.congruence_classes.proofs.listing.next_in.Goals as goal

pub place_after-requires-clause-first : goal.place_after-requires-clause-first
place_after-requires-clause-first g c =
    let p = c.args.problem.now in
    omega (arith, c.first_class.ensures, first_within (SameClassOf p) (has_empty_word p) (count_of p) (g.L.ListedClasses.list c.args.classes.now) c.requires)

pub returns-in_err-place-clause-goes_on : goal.returns-in_err-place-clause-goes_on
returns-in_err-place-clause-goes_on g c =
    let p = c.args.problem.now in
    goes_on (SameClassOf p) (has_empty_word p) (count_of p) (g.L.ListedClasses.list c.args.classes.now) c.requires

pub returns-in_err-word-clause-goes_on : goal.returns-in_err-word-clause-goes_on
returns-in_err-word-clause-goes_on g c =
    let p = c.args.problem.now in
    goes_on (SameClassOf p) (has_empty_word p) (count_of p) (g.L.ListedClasses.list c.args.classes.now) c.requires

pub returns-in_ok-word-clause-goes_on : goal.returns-in_ok-word-clause-goes_on
returns-in_ok-word-clause-goes_on g c =
    let p = c.args.problem.now in
    goes_on (SameClassOf p) (has_empty_word p) (count_of p) (g.L.ListedClasses.list c.args.classes.now) c.requires

pub returns-in_ok-word-clause-next : goal.returns-in_ok-word-clause-next
returns-in_ok-word-clause-next g c =
    let p = c.args.problem.now in
    let list = g.L.ListedClasses.list c.args.classes.now in
    subst (λ w. IsNext (IsLeast (SameClassOf p)) ◌≺◌ (option_copied c.args.after) w) (sym c.in_ok-word.ensures)
    (next_at (SameClassOf p) (has_empty_word p) (count_of p) list c.requires (option_copied c.args.after) c.in_ok-place.place
    (subst (λ n. IsPlaceAfter n list (option_copied c.args.after) c.in_ok-place.place) c.first_class.ensures c.in_ok-place.ensures)
    (omega (arith, c.if-place-count.true, c.count.ensures)))

pub returns-else-place-count-clause-goes_on : goal.returns-else-place-count-clause-goes_on
returns-else-place-count-clause-goes_on g c =
    let p = c.args.problem.now in
    goes_on (SameClassOf p) (has_empty_word p) (count_of p) (g.L.ListedClasses.list c.args.classes.now) c.requires

pub returns-else-place-count-clause-next : goal.returns-else-place-count-clause-next
returns-else-place-count-clause-next g c =
    let p = c.args.problem.now in
    let list = g.L.ListedClasses.list c.args.classes.now in
    last_at (SameClassOf p) (has_empty_word p) (count_of p) list c.requires (option_copied c.args.after) c.in_ok-place.place
    (subst (λ n. IsPlaceAfter n list (option_copied c.args.after) c.in_ok-place.place) c.first_class.ensures c.in_ok-place.ensures)
    (omega (arith, c.if-place-count.false, c.count.ensures))
