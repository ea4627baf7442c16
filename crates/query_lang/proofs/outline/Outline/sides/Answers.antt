use Rattle.std.proofs.Common.{IfErr, subst₂, ap, ◌∙◌}
use Rattle.line_parts.specs.Faults.{IsLineFault}
use Rattle.line_parts.specs.LineWords.{both_elements}
use Rattle.query_lang.proofs.outline.Outline.sides.Goals as goal

pub returns-clause-err : goal.returns-clause-err
returns-clause-err c =
    subst₂ (λ letters empty. IfErr c.both_elements.result (IsLineFault (both_elements c.args.version letters empty c.args.left.now c.args.right.now)))
    (c.alphabet-alphabet.ensures.alphabet ∙ ap (λ o. o.alphabet) c.self.view_is) (c.is_monoid-allow_empty.ensures ∙ ap (λ o. o.congruence.presentation.is_monoid) c.self.view_is)
    c.both_elements.ensures.err
