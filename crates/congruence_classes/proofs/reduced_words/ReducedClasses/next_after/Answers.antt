use Rattle.std.proofs.Common.{◌≡◌, Bool, true, false, Option, Some, None, ◌∙◌, sym, ap, ap₂, subst, Bor}
use Rattle.std.specs.Option.{option_copied}
use Rattle.theory.specs.Word.{Word as Letters}
use Rattle.theory.specs.Congruence.{Presentation}
use Rattle.presentation.specs.Presented.{Posed}
use Rattle.congruence_classes.specs.Rewriting.{IsReducerOf}
use Rattle.congruence_classes.proofs.RewrittenWords.{cursor_from, goes_on_by, next_by}
use Rattle.congruence_classes.proofs.reduced_words.ReducedClasses.next_after.Goals as goal

pub returns-in-Some-clause-goes_on : goal.returns-in-Some-clause-goes_on
returns-in-Some-clause-goes_on c =
    goes_on_by c.args.self.now.congruence c.self.inside.words (subst (λ (k : Posed). IsReducerOf k.congruence c.self.inside.words) c.self.view_is c.self.invariant) c.next_after.ensures.goes_on

pub returns-in-Some-clause-next : goal.returns-in-Some-clause-next
returns-in-Some-clause-next c =
    next_by c.args.self.now.congruence c.self.inside.words (subst (λ (k : Posed). IsReducerOf k.congruence c.self.inside.words) c.self.view_is c.self.invariant) (option_copied c.args.after) (Some c.in-Some.cursor.now)
    (sym (ap (λ (o : Option (Bor Letters)). cursor_from c.args.self.now.congruence.presentation.is_monoid (option_copied o)) c.in-Some.is))
    c.next_after.result c.next_after.ensures.next

pub returns-then-is_monoid-clause-goes_on : goal.returns-then-is_monoid-clause-goes_on
returns-then-is_monoid-clause-goes_on c =
    goes_on_by c.args.self.now.congruence c.self.inside.words (subst (λ (k : Posed). IsReducerOf k.congruence c.self.inside.words) c.self.view_is c.self.invariant) c.next_after-then-is_monoid.ensures.goes_on

pub returns-then-is_monoid-clause-next : goal.returns-then-is_monoid-clause-next
returns-then-is_monoid-clause-next c =
    let monoid : c.args.self.now.congruence.presentation.is_monoid ≡ true =
    sym (c.is_monoid.ensures ∙ ap (λ (p : Presentation). p.is_monoid) c.presentation.ensures.presentation
    ∙ ap (λ (k : Posed). k.congruence.presentation.is_monoid) c.self.view_is) ∙ c.if-is_monoid.true in
    next_by c.args.self.now.congruence c.self.inside.words (subst (λ (k : Posed). IsReducerOf k.congruence c.self.inside.words) c.self.view_is c.self.invariant) (option_copied c.args.after) None
    (sym (ap₂ (λ (b : Bool) (o : Option (Bor Letters)). cursor_from b (option_copied o)) monoid c.in-None.is))
    c.next_after-then-is_monoid.result c.next_after-then-is_monoid.ensures.next

pub returns-else-is_monoid-clause-goes_on : goal.returns-else-is_monoid-clause-goes_on
returns-else-is_monoid-clause-goes_on c =
    goes_on_by c.args.self.now.congruence c.self.inside.words (subst (λ (k : Posed). IsReducerOf k.congruence c.self.inside.words) c.self.view_is c.self.invariant) c.next_after-else-is_monoid.ensures.goes_on

pub returns-else-is_monoid-clause-next : goal.returns-else-is_monoid-clause-next
returns-else-is_monoid-clause-next c =
    let monoid : c.args.self.now.congruence.presentation.is_monoid ≡ false =
    sym (c.is_monoid.ensures ∙ ap (λ (p : Presentation). p.is_monoid) c.presentation.ensures.presentation
    ∙ ap (λ (k : Posed). k.congruence.presentation.is_monoid) c.self.view_is) ∙ c.if-is_monoid.false in
    next_by c.args.self.now.congruence c.self.inside.words (subst (λ (k : Posed). IsReducerOf k.congruence c.self.inside.words) c.self.view_is c.self.invariant) (option_copied c.args.after) (Some c.new-empty.result)
    (ap (λ (w : Letters). Some w) c.new-empty.ensures
    ∙ sym (ap₂ (λ (b : Bool) (o : Option (Bor Letters)). cursor_from b (option_copied o)) monoid c.in-None.is))
    c.next_after-else-is_monoid.result c.next_after-else-is_monoid.ensures.next
