use Rattle.std.proofs.Common.{◌≡◌, false, Ok, sym, ap, ◌∙◌}
use Rattle.query_lang.specs.Roles.{count_for, is_too_many, letter_in}
use Rattle.query_lang.proofs.RoleLemmas.{few_with}
use Rattle.query_lang.proofs.outline.Outline.letter_for.Goals as goal

pub returns-clause-few : goal.returns-clause-few
returns-clause-few c = λ word.
    let o = c.args.self.now in
    let token = c.in_ok-token.token.now in
    let named : letter_in c.args.version o.alphabet token ≡ Ok c.in_ok-letter.field-0 = sym c.letter.ensures.letter ∙ c.in_ok-letter.was in
    let letters : c.alphabet.result.now ≡ o.alphabet = c.alphabet.ensures.alphabet ∙ ap (λ o. o.alphabet) c.self.view_is in
    let counted : c.count_for.result ≡ count_for o.alphabet token =
    c.count_for.ensures.count ∙ ap (λ a. count_for a token) letters in
    let few : is_too_many o (count_for o.alphabet token) ≡ false =
    ap (is_too_many o) (sym counted) ∙ sym c.if-is_too_many.ensures in
    few_with c.args.version o token c.in_ok-letter.field-0 word few named
