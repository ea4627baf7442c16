use Rattle.std.proofs.Common.{◌≡◌, ℕ, List, length, map, get_or, ap, ◌∙◌, sym, arith, subst, inl, Err}
use Rattle.std.specs.Prelude.{Option}
use Rattle.std.proofs.lemmas.List.{length-map}
use Rattle.std.proofs.lemmas.Option.{MatchOption-at_some, MatchOption-at_none}
use Rattle.elements.specs.declared.field.Field.{Field}
use Rattle.elements.specs.declared.field.ElementFault.TheVariants.{NotInjective}
use Rattle.elements.specs.Fields.{IsBelow, field_of}
use Rattle.elements.specs.PPerm.{IsInjective, IsFirstRepeat, IsFirstAgain}
use Rattle.elements.proofs.Marks.{one_first_repeat, no_repeat}
use Rattle.elements.proofs.pperm.PPerm.read.Goals as goal

pub returns-in-Some-clause-repeated : goal.returns-in-Some-clause-repeated
returns-in-Some-clause-repeated c = λ place _ _ p.
    let images : List (Option ℕ) = c.deref.result.now in
    let fields : List Field = c.args.fields.now in
    let found : ℕ = c.in-Some.place in
    let again : IsFirstAgain images found = MatchOption-at_some (IsInjective images) (IsFirstAgain images) found c.in-Some.is c.in_ok-place.ensures in
    let named : map field_of images ≡ fields = ap (map field_of) c.deref.ensures.value ∙ c.in_ok-images.ensures.entries in
    let same : found ≡ place = one_first_repeat fields found place (subst (λ f. IsFirstRepeat f found) named again) p in
    inl (ap (λ k. Err (NotInjective k)) same)

pub returns-in-Ok-clause-repeated : goal.returns-in-Ok-clause-repeated
returns-in-Ok-clause-repeated c = λ place _ _ p.
    let images : List (Option ℕ) = c.deref.result.now in
    let fields : List Field = c.args.fields.now in
    let once : IsInjective images = MatchOption-at_none (IsInjective images) (IsFirstAgain images) c.in_default.is c.in_ok-place.ensures in
    let named : map field_of images ≡ fields = ap (map field_of) c.deref.ensures.value ∙ c.in_ok-images.ensures.entries in
    absurd (no_repeat images place once (subst (λ f. IsFirstRepeat f place) (sym named) p))

pub from_images-requires : goal.from_images-requires
from_images-requires c =
    let images : List (Option ℕ) = c.in_ok-images.images.items in
    let seen : List (Option ℕ) = c.deref.result.now in
    let once : IsInjective seen = MatchOption-at_none (IsInjective seen) (IsFirstAgain seen) c.in_default.is c.in_ok-place.ensures in
    let long : length images ≡ c.args.degree = omega (arith, sym (length-map images field_of), ap length c.in_ok-images.ensures.entries, c.if-fields-degree.false) in
    record {
      in_range = λ k d lt. subst (λ n. IsBelow n (get_or images k d)) (sym long) (c.in_ok-images.ensures.in_range k d lt);
      injective = subst IsInjective c.deref.ensures.value once;
    }
