use Rattle.std.proofs.Common.{◌++◌, [], length, take, drop, refl, ap, sym, ◌∙◌, arith, inl, inr, take-append-drop, length-append}
use Rattle.std.proofs.lemmas.Bool.{cases_eq}
use Rattle.std.proofs.lemmas.List.{drop_at}
use Rattle.theory.specs.Word.{Word}
use Rattle.rewriting.proofs.Standing.{starts_tested, factor_short}
use Rattle.rewriting.proofs.factors.has_factor.Goals as goal

pub returns-then-is_empty : goal.returns-then-is_empty
returns-then-is_empty c = (
  λ _. record {
    before = [];
    after = c.args.word.now;
    is = ap (λ (f : Word). f ++ c.args.word.now) (sym (c.is_empty.ensures.0 c.if-is_empty.true));
  },
  λ _. refl,
)

pub returns-then-letters-sought : goal.returns-then-letters-sought
returns-then-letters-sought c = (
  λ t. let bad : ⊥ = cc in absurd bad,
  λ h. let short = factor_short c.args.factor.now c.args.word.now h in
      absurd (omega (arith, short, c.if-letters-sought.true, ap length c.letters-letters.ensures, ap length c.letters-sought.ensures)),
)

pub returns-then-stands_at : goal.returns-then-stands_at
returns-then-stands_at c =
    let tested = starts_tested c.args.factor.now c.args.word.now c.letters-sought.result.now c.letters-letters.result.now c.loop-place.place c.stands_at.result
    c.letters-sought.ensures c.letters-letters.ensures c.stands_at.ensures in (
      λ _. record {
        before = take c.loop-place.place c.args.word.now;
        after = drop (length c.args.factor.now) (drop c.loop-place.place c.args.word.now);
        is = sym (take-append-drop c.loop-place.place c.args.word.now) ∙ ap (λ w. take c.loop-place.place c.args.word.now ++ w) (tested.0 c.if-stands_at.true);
      },
      λ _. refl,
    )

pub loop-place-preserved : goal.loop-place-preserved
loop-place-preserved c = λ x y e.
    let before = c.loop-place.invariant x y e in
    elim (cases_eq (length x) c.loop-place.place) [
      | inl here ↦
          let tested = starts_tested c.args.factor.now c.args.word.now c.letters-sought.result.now c.letters-letters.result.now c.loop-place.place c.stands_at.result
          c.letters-sought.ensures c.letters-letters.ensures c.stands_at.ensures in
          absurd (tested.1 c.if-stands_at.false y (ap (drop c.loop-place.place) e ∙ drop_at x (c.args.factor.now ++ y) c.loop-place.place here))
      | inr there ↦ omega (arith, before, there)
    ]

pub returns : goal.returns
returns c = (
  λ t. let bad : ⊥ = cc in absurd bad,
  λ h. let before = c.loop-place.invariant h.before h.after h.is in
      absurd (omega (arith, before, ap length h.is, length-append h.before (c.args.factor.now ++ h.after), length-append c.args.factor.now h.after, c.loop-place-test.false, c.if-letters-sought.false, ap length c.letters-letters.ensures, ap length c.letters-sought.ensures)),
)
