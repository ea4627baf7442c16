use Rattle.std.proofs.Common.{ℕ, List, [], Bor, Some, None, Ok, sym, ap, ◌∙◌, arith, rules}
use Rattle.presentation.specs.Added.{inverse_relations}
use Rattle.line_parts.specs.Outcome.{and_then}
use Rattle.query_lang.proofs.AddedLemmas.{cause_handed, inverse_by_letter, inverse_by_missing, inverse_by_refused, inverse_fit, inverse_in, inverse_missing}
use Rattle.query_lang.proofs.QueryLemmas.{three_texts}
use Rattle.query_lang.proofs.outline.Outline.inverse_letters.Goals as goal

pub returns-in_err-x-clause-err : goal.returns-in_err-x-clause-err
returns-in_err-x-clause-err c =
    let monoid = sym (c.is_monoid.ensures ∙ ap (λ o. o.congruence.presentation.is_monoid) c.self.view_is) ∙ c.if-is_monoid.true in
    cause_handed _ _ _ c.from_residual-in_err-x.ensures.1
    (inverse_in c.args.version c.args.self.now _ c.in_ok-first.first.now c.in_ok-first.second.now monoid c.in_ok-first.ensures.ok
    ∙ ap (and_then (λ (p : ℕ × ℕ). Ok (inverse_relations p.0 p.1 None))) c.in_err-x.ensures.err)

pub returns-then-is_monoid-clause-ok : goal.returns-then-is_monoid-clause-ok
returns-then-is_monoid-clause-ok c =
    let monoid = sym (c.is_monoid.ensures ∙ ap (λ o. o.congruence.presentation.is_monoid) c.self.view_is) ∙ c.if-is_monoid.true in
    inverse_in c.args.version c.args.self.now _ c.in_ok-first.first.now c.in_ok-first.second.now monoid c.in_ok-first.ensures.ok
    ∙ ap (and_then (λ (p : ℕ × ℕ). Ok (inverse_relations p.0 p.1 None))) c.in_ok-x.ensures.ok

pub returns-in_err-x-in-len3-clause-err : goal.returns-in_err-x-in-len3-clause-err
returns-in_err-x-in-len3-clause-err c =
    let semigroup = sym (c.is_monoid.ensures ∙ ap (λ o. o.congruence.presentation.is_monoid) c.self.view_is) ∙ c.if-is_monoid.false in
    let third : Bor (List ℕ) = record { ref_ptr = (0, 0); now = [] } in
    cause_handed _ _ _ c.from_residual-in_err-x-in-len3.ensures.1
    (inverse_by_refused c.args.version c.args.self.now _ _ _ _ _ semigroup (sym (three_texts c.args.tokens.now _ _ third (omega (arith, c.in-len3.len_at_least, c.in-len3.len_below)))) c.in_err-x-in-len3.ensures.err)

pub returns-in_err-e-in-len3-clause-err : goal.returns-in_err-e-in-len3-clause-err
returns-in_err-e-in-len3-clause-err c =
    let semigroup = sym (c.is_monoid.ensures ∙ ap (λ o. o.congruence.presentation.is_monoid) c.self.view_is) ∙ c.if-is_monoid.false in
    cause_handed _ _ _ c.from_residual-in_err-e-in-len3.ensures.1
    (inverse_by_letter c.args.version c.args.self.now _ _ _ _ _ _ semigroup (sym (three_texts c.args.tokens.now _ _ _ (omega (arith, c.in-len3.len_at_least, c.in-len3.len_below)))) c.in_ok-x-in-len3.ensures.ok _ c.in_err-e-in-len3.ensures.letter)

pub returns-in_ok-e-in-len3-clause-ok : goal.returns-in_ok-e-in-len3-clause-ok
returns-in_ok-e-in-len3-clause-ok c =
    let semigroup = sym (c.is_monoid.ensures ∙ ap (λ o. o.congruence.presentation.is_monoid) c.self.view_is) ∙ c.if-is_monoid.false in
    inverse_by_letter c.args.version c.args.self.now _ _ _ _ _ _ semigroup (sym (three_texts c.args.tokens.now _ _ _ (omega (arith, c.in-len3.len_at_least, c.in-len3.len_below)))) c.in_ok-x-in-len3.ensures.ok _ c.in_ok-e-in-len3.ensures.letter

pub returns-then-is_monoid-clause-fit : goal.returns-then-is_monoid-clause-fit
returns-then-is_monoid-clause-fit c = record {
  left = c.in_ok-x.ensures.left;
  right = c.in_ok-x.ensures.right;
  unit = tt;
  some = λ _. sym (c.is_monoid.ensures ∙ ap (λ o. o.congruence.presentation.is_monoid) c.self.view_is) ∙ c.if-is_monoid.true;
  few = c.in_ok-x.ensures.few None;
}

pub returns-in_err-first-clause-err : goal.returns-in_err-first-clause-err
returns-in_err-first-clause-err c =
    let monoid = sym (c.is_monoid.ensures ∙ ap (λ o. o.congruence.presentation.is_monoid) c.self.view_is) ∙ c.if-is_monoid.true in
    cause_handed _ _ _ c.from_residual.ensures.1 (inverse_missing c.args.version c.args.self.now _ _ monoid c.in_err-first.ensures.err)

pub returns-in_ok-e-in-len3-clause-fit : goal.returns-in_ok-e-in-len3-clause-fit
returns-in_ok-e-in-len3-clause-fit c =
    let both = c.in_ok-x-in-len3.ensures in
    inverse_fit c.args.self.now _ _ _ both.left both.right c.in_ok-e-in-len3.ensures.within (both.few (Some _))

pub returns-in_default-clause-err : goal.returns-in_default-clause-err
returns-in_default-clause-err c =
    let semigroup = sym (c.is_monoid.ensures ∙ ap (λ o. o.congruence.presentation.is_monoid) c.self.view_is) ∙ c.if-is_monoid.false in
    inverse_by_missing c.args.version c.args.self.now c.args.tokens.now semigroup (search rules)
