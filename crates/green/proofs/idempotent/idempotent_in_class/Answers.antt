use Rattle.std.proofs.Common.{◌≡◌, ℕ, suc, ◌+◌, sym, ap, subst, ◌∙◌, arith, inl, inr}
use Rattle.std.proofs.lemmas.Bool.{cases_eq}
use Rattle.green.specs.Related.{AreRelated, IsIdempotentAt, product_in}
use Rattle.green.specs.Idempotents.{IsIdempotentIn}
use Rattle.theory.specs.declared.Relation.TheVariants.{L}
use Rattle.green.proofs.FiniteLaws.{times}
use Rattle.green.proofs.PowerLaws.{comes_back, power_is, power_squares, power_stays, times_below, times_last}
use Rattle.green.proofs.idempotent.idempotent_in_class.Goals as goal

pub product_in_class-requires-clause-second : goal.product_in_class-requires-clause-second
product_in_class-requires-clause-second c =
    let t = c.args.tables.now in
    let low = times_below t c.requires.fit c.requires.commute c.requires.words c.requires.agree c.args.number c.loop.counter c.args.number c.requires.number c.requires.number in
    omega (arith, low, c.loop.invariant.power)

pub returns-in_err-next : goal.returns-in_err-next
returns-in_err-next c =
    let t = c.args.tables.now in
    let x : ℕ = c.args.number in
    subst (IsIdempotentIn t x) (sym c.from_residual.ensures) (λ e idempotent related.
    c.in_err-next.ensures (subst (λ m. AreRelated L t m (product_in t x m)) (sym c.loop.invariant.power)
    (power_stays t c.requires.fit c.requires.commute c.requires.words c.requires.agree x e c.requires.number idempotent related c.loop.counter)))

pub returns-then-next-number : goal.returns-then-next-number
returns-then-next-number c =
    let t = c.args.tables.now in
    let x : ℕ = c.args.number in
    let s : ℕ = c.loop.counter in
    let back : times (product_in t x) (suc s) x ≡ x =
    times_last (product_in t x) s x ∙ ap (product_in t x) (sym c.loop.invariant.power) ∙ sym c.in_ok-next.ensures ∙ c.if-next-number.true in (
      subst (IsIdempotentAt t) (sym c.loop.invariant.power) (power_squares t c.requires.fit c.requires.commute c.requires.words c.requires.agree x s c.requires.number back),
      λ e idempotent related. power_is t c.requires.fit c.requires.commute c.requires.words c.requires.agree x e c.requires.number idempotent related s back ∙ sym c.loop.invariant.power,
    )

pub loop-preserved : goal.loop-preserved
loop-preserved c =
    let t = c.args.tables.now in
    let x : ℕ = c.args.number in
    let one : suc c.loop.counter ≡ c.loop.counter + 1 = omega arith in
    let next : c.in_ok-next.next ≡ times (product_in t x) (suc c.loop.counter) x =
    c.in_ok-next.ensures ∙ ap (product_in t x) c.loop.invariant.power ∙ sym (times_last (product_in t x) c.loop.counter x) in
    record {
      power = next ∙ ap (λ s. times (product_in t x) s x) one;
      never = λ s below back. elim (cases_eq s c.loop.counter) [
        | inl e ↦ c.if-next-number.false (next ∙ sym (ap (λ r. times (product_in t x) (suc r) x) e) ∙ back)
        | inr d ↦ c.loop.invariant.never s (omega (arith, below, d)) back
      ];
    }

pub returns : goal.returns
returns c e idempotent related =
    let by = comes_back c.args.tables.now c.requires.fit c.requires.commute c.requires.words c.requires.agree c.args.number e c.requires.number idempotent related in
    c.loop.invariant.never by.0 (omega (arith, by.1, c.loop-test.false, c.loop.auto.counter-end, c.len-end.ensures)) by.2
