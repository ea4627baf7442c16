use Rattle.std.proofs.Common.{IfErr, subst₂, ap, ◌∙◌}
use Rattle.problem.specs.Problem.{has_empty_word, letters_of}
use Rattle.line_parts.specs.Faults.{IsLineFault}
use Rattle.line_parts.specs.LineWords.{both_elements}
use Rattle.query_lang.proofs.pairing.Paired.sides.Goals as goal

pub returns-clause-err : goal.returns-clause-err
returns-clause-err c =
    subst₂ (λ letters empty. IfErr c.both_elements.result (IsLineFault (both_elements c.args.version letters empty c.args.left.now c.args.right.now)))
    (c.alphabet-alphabet.ensures.letters ∙ ap letters_of c.self.view_is) (c.has_empty_word-allow_empty.ensures ∙ ap has_empty_word c.self.view_is)
    c.both_elements.ensures.err
