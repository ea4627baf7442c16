use Rattle.std.proofs.Common.{◌≡◌, ◌<◌, length, refl, sym, ◌∙◌, ap, arith, inl, inr}
use Rattle.std.proofs.lemmas.Bool.{cases_eq}
use Rattle.theory.specs.Word.{Word}
use Rattle.rewriting.specs.Rules.{stands_in}
use Rattle.rewriting.specs.Tries.{left_at}
use Rattle.rewriting.proofs.Standing.{factor_tested, rule_read}
use Rattle.rewriting.proofs.rule_lists.Rules.has_in_left.Goals as goal

pub loop-place-preserved : goal.loop-place-preserved
loop-place-preserved c = λ place h. elim (cases_eq place c.loop-place.place) [
  | inl here ↦
      let within : c.loop-place.place < length c.args.self.now = omega (arith, c.loop-place-test.true, c.len-place-end.ensures.len) in
      let read = rule_read c.args.self.now c.args.self.now c.loop-place.place c.rule.result.now refl within c.rule.ensures.rule in
      let at : left_at c.args.self.now place ≡ c.rule.result.now.0 = ap (left_at c.args.self.now) here ∙ sym (ap (λ (r : Word × Word). r.0) read) in
      ap (stands_in c.args.word.now) at ∙ sym (factor_tested c.args.word.now c.rule.result.now.0 c.has_factor.result c.has_factor.ensures) ∙ c.if-has_factor.false
  | inr there ↦ c.loop-place.invariant place (omega (arith, h, there))
]
