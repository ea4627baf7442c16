use Rattle.std.proofs.Common.{◌+◌, ◌∷◌, ◌++◌, [], ap, subst, sym, get_or, refl, ◌∙◌, ◌<◌, length}
use Rattle.std.proofs.lemmas.List.Elements.{All-get_or}
use Rattle.theory.specs.Word.{Word}
use Rattle.theory.specs.ShortLex.{◌≺◌}
use Rattle.rewriting.proofs.Standing.{filled, rule_read}
use Rattle.rewriting.proofs.LookupLaws.{ends_tested}
use Rattle.rewriting.proofs.lookups.Lookup.ends.Goals as goal

pub stands_last-requires : goal.stands_last-requires
stands_last-requires c =
    let place = c.args.self.now.first + c.args.number in
    let rule = get_or c.args.rules.now place ([], []) in
    subst (λ (w : Word). 0 < length w)
    (sym (c.letters.ensures ∙ ap (λ (r : Word × Word). r.0) (rule_read c.args.rules.now c.args.rules.now place c.rule.result.now refl c.requires c.rule.ensures.rule)))
    (filled rule.0 rule.1 (All-get_or (λ (r : Word × Word). r.1 ≺ r.0) c.args.rules.now place ([], []) c.requires c.rule.ensures.falling))

pub returns : goal.returns
returns c =
    ends_tested c.args.rules.now (c.args.letters.now ++ c.args.letter ∷ []) (c.args.self.now.first + c.args.number) c.rule.result.now c.letters.result.now c.stands_last.result
    c.requires c.rule.ensures.rule c.letters.ensures c.stands_last.ensures
