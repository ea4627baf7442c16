use Rattle.std.proofs.Common.{◌≡◌, false, sym, ap, ◌∙◌}
use Rattle.query_lang.specs.Roles.{count_for_both, is_too_many}
use Rattle.query_lang.proofs.AddedLemmas.{both_read}
use Rattle.query_lang.proofs.RoleLemmas.{few_inverse}
use Rattle.query_lang.proofs.outline.Outline.both_letters.Goals as goal

pub returns-clause-ok : goal.returns-clause-ok
returns-clause-ok c =
    let few : is_too_many c.args.self.now (count_for_both c.args.x.now c.args.y.now) ≡ false = ap (is_too_many c.args.self.now) (sym c.count_for_both.ensures.count) ∙ sym c.if-is_too_many.ensures in
    both_read c.args.version c.args.self.now c.args.x.now c.args.y.now _ _ few (sym c.in_ok-x.ensures.letter) (sym c.in_ok-y.ensures.letter)

pub returns-clause-few : goal.returns-clause-few
returns-clause-few c = λ e.
    let few : is_too_many c.args.self.now (count_for_both c.args.x.now c.args.y.now) ≡ false = ap (is_too_many c.args.self.now) (sym c.count_for_both.ensures.count) ∙ sym c.if-is_too_many.ensures in
    few_inverse c.args.version c.args.self.now c.args.x.now c.args.y.now _ _ _ few (sym c.in_ok-x.ensures.letter) (sym c.in_ok-y.ensures.letter)
