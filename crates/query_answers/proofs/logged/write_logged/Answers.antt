use Rattle.std.proofs.Common.{◌≡◌, ℕ, All, List, [], ◌∷◌, length, sym, ap, ◌∙◌, subst, subst₂, arith}
use Rattle.theory.specs.Word.{Word, IsOver}
use Rattle.theory.specs.Chain.{Related}
use Rattle.theory.specs.Congruence.{of_presentation}
use Rattle.chains.specs.Chains.{IsStraight}
use Rattle.ports.proofs.WriteLemmas.{handed_on, refused}
use Rattle.presentation.specs.Presented.{Posed}
use Rattle.problem.specs.declared.kinds.Problem.TheVariants.{Presented}
use Rattle.problem.specs.Problem.{IsWellPosed, letters_of}
use Rattle.query_lang.specs.declared.script.Query.TheVariants as query
use Rattle.query_lang.specs.Query.{IsQueryOf}
use Rattle.report_lines.specs.LineBytes.{bytes_of}
use Rattle.report_lines.specs.Lines.{chain_lines, no_chain_line}
use Rattle.query_answers.specs.Answer.{AreLines}
use Rattle.query_answers.specs.Chains.{LogsFor, with_its_pairs}
use Rattle.query_answers.proofs.AnswerLemmas.{one_line, writes_lines}
use Rattle.query_answers.proofs.ChainAnswers.{chain_printed, chain_told, none_told}
use Rattle.query_answers.proofs.logged.write_logged.Goals as goal

pub returns-in_err-steps : goal.returns-in_err-steps
returns-in_err-steps g c bound = handed_on g.O.Sink _ _ _ _ c.from_residual.ensures.1 (refused g.O.Sink c.args.sink.now)

pub returns-in_err-words-in-Some : goal.returns-in_err-words-in-Some
returns-in_err-words-in-Some g c bound = handed_on g.O.Sink _ _ _ _ c.from_residual-in_err-words-in-Some.ensures.1 (refused g.O.Sink c.args.sink.now)

pub write_chain-requires-clause-some : goal.write_chain-requires-clause-some
write_chain-requires-clause-some g c =
    let o : Posed = c.in-Presented.congruence in
    let u : Word = c.in-Chain.from in
    let v : Word = c.in-Chain.to in
    let logs : LogsFor (Presented o) c.args.completion.now = subst (λ p. LogsFor p c.args.completion.now) c.in-Presented.is c.requires.logs in
    let straight : IsStraight (with_its_pairs o.congruence) u c.in-Some.steps.items v =
    subst (λ p. IsStraight p u c.in-Some.steps.items v) logs.0 (rw c.in-Some.is at c.in_ok-steps.ensures) in
    let found = c.in_ok-words-in-Some.ensures v straight in
    let more : length c.in_ok-words-in-Some.words.items ≡ length (u ∷ found.0) = ap length found.1 in
    omega (arith, more)

pub write_chain-requires-clause-over : goal.write_chain-requires-clause-over
write_chain-requires-clause-over g c =
    let o : Posed = c.in-Presented.congruence in
    let u : Word = c.in-Chain.from in
    let v : Word = c.in-Chain.to in
    let posed : IsWellPosed (Presented o) = subst IsWellPosed c.in-Presented.is c.alphabet-alphabet.ensures.posed in
    let asked : IsQueryOf (Presented o) (query.Chain u v) = subst₂ IsQueryOf c.in-Presented.is c.in-Chain.is c.requires.query in
    let logs : LogsFor (Presented o) c.args.completion.now = subst (λ p. LogsFor p c.args.completion.now) c.in-Presented.is c.requires.logs in
    let straight : IsStraight (with_its_pairs o.congruence) u c.in-Some.steps.items v =
    subst (λ p. IsStraight p u c.in-Some.steps.items v) logs.0 (rw c.in-Some.is at c.in_ok-steps.ensures) in
    let found = c.in_ok-words-in-Some.ensures v straight in
    let letters : c.alphabet-alphabet.result.now ≡ o.alphabet = c.alphabet-alphabet.ensures.letters ∙ ap letters_of c.in-Presented.is in
    subst (All (IsOver (length c.alphabet-alphabet.result.now))) (sym found.1)
    (subst (λ ls. All (IsOver (length ls)) (u ∷ found.0)) (sym letters) (chain_printed o u v posed asked found.0 found.2))

pub returns-in_ok-words-in-Some : goal.returns-in_ok-words-in-Some
returns-in_ok-words-in-Some g c bound =
    let o : Posed = c.in-Presented.congruence in
    let u : Word = c.in-Chain.from in
    let v : Word = c.in-Chain.to in
    let posed : IsWellPosed (Presented o) = subst IsWellPosed c.in-Presented.is c.alphabet-alphabet.ensures.posed in
    let asked : IsQueryOf (Presented o) (query.Chain u v) = subst₂ IsQueryOf c.in-Presented.is c.in-Chain.is c.requires.query in
    let logs : LogsFor (Presented o) c.args.completion.now = subst (λ p. LogsFor p c.args.completion.now) c.in-Presented.is c.requires.logs in
    let straight : IsStraight (with_its_pairs o.congruence) u c.in-Some.steps.items v =
    subst (λ p. IsStraight p u c.in-Some.steps.items v) logs.0 (rw c.in-Some.is at c.in_ok-steps.ensures) in
    let found = c.in_ok-words-in-Some.ensures v straight in
    let letters : c.alphabet-alphabet.result.now ≡ o.alphabet = c.alphabet-alphabet.ensures.letters ∙ ap letters_of c.in-Presented.is in
    let lines : List (List ℕ) = chain_lines o.alphabet u found.0 in
    writes_lines g.O.Sink c.args.problem.now bound c.args.query.now (query.Chain u v) lines c.in-Chain.is
    (subst (λ p. AreLines p bound (query.Chain u v) lines) (sym c.in-Presented.is) (chain_told o u v posed asked bound found.0 found.2))
    _ _ _ _ (ap (λ ls. bytes_of (chain_lines ls u found.0)) letters) (c.write_chain.ensures u found.0 found.1)

pub returns-in-None : goal.returns-in-None
returns-in-None g c bound =
    let o : Posed = c.in-Presented.congruence in
    let u : Word = c.in-Chain.from in
    let v : Word = c.in-Chain.to in
    let posed : IsWellPosed (Presented o) = subst IsWellPosed c.in-Presented.is c.alphabet-alphabet.ensures.posed in
    let asked : IsQueryOf (Presented o) (query.Chain u v) = subst₂ IsQueryOf c.in-Presented.is c.in-Chain.is c.requires.query in
    let logs : LogsFor (Presented o) c.args.completion.now = subst (λ p. LogsFor p c.args.completion.now) c.in-Presented.is c.requires.logs in
    let none : Related (of_presentation (with_its_pairs o.congruence)) u v → ⊥ =
    subst (λ p. Related (of_presentation p) u v → ⊥) logs.0 (rw c.in-None.is at c.in_ok-steps.ensures) in
    writes_lines g.O.Sink c.args.problem.now bound c.args.query.now (query.Chain u v) (no_chain_line ∷ []) c.in-Chain.is
    (subst (λ p. AreLines p bound (query.Chain u v) (no_chain_line ∷ [])) (sym c.in-Presented.is) (none_told o u v posed asked bound none))
    _ _ _ _ (one_line no_chain_line) c.write_all.ensures.bytes
