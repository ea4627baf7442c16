use Rattle.std.proofs.Common.{◌+◌, length, Some, None, sym, ◌∙◌, ap, subst}
use Rattle.std.proofs.lemmas.Result.{IfOk-weaker}
use Rattle.theory.specs.ShortLex.{◌≺◌}
use Rattle.reduced_automaton.specs.Paths.{HasPath}
use Rattle.reduced_automaton.specs.Framings.{IsPathIn, paths_in}
use Rattle.rewriting.specs.Tables.{edges}
use Rattle.reduced_automaton.proofs.PathLaws.{none_of, some_as}
use Rattle.reduced_automaton.proofs.NextPaths.{IsPassed, next_as_long, passed_start, passed_word}
use Rattle.reduced_automaton.proofs.ReadingLaws.{next_same}
use Rattle.reduced_automaton.proofs.FrameLaws.{answer_in, in_as_path, least_answer, none_in}
use Rattle.reduced_automaton.proofs.framings.Framing.next_after.Goals as goal

pub returns-in_default-clause-next : goal.returns-in_default-clause-next
returns-in_default-clause-next c = λ y has after. none_in (edges c.args.scope.now.graph.now) c.args.scope.now.frame.now (sym c.requires.start ∙ c.in_default.is) y has

pub returns-in_default-after-clause-next : goal.returns-in_default-after-clause-next
returns-in_default-after-clause-next c =
    let g = edges c.args.scope.now.graph.now in
    let p = paths_in c.args.scope.now in
    rw (c.in_default-after.is)
    (IfOk-weaker c.least_from.result _ _
    (λ next h. answer_in g c.args.scope.now.frame.now c.in-Some.start (sym c.requires.start ∙ c.in-Some.is) None next
    (least_answer p c.in-Some.start None 0 next (passed_start p c.in-Some.start) h))
    c.least_from.ensures.next)

pub returns-then-is_some-clause-next : goal.returns-then-is_some-clause-next
returns-then-is_some-clause-next c =
    let g = edges c.args.scope.now.graph.now in
    let p = paths_in c.args.scope.now in
    let word = c.in-Some-after.word.now in
    rw (c.in-Some-after.is)
    (some_as c.in_ok-next.next _ _ _ _ c.in_ok-next.ensures.next (sym c.is_some.ensures ∙ c.if-is_some.true)
    (λ x h. next_same (HasPath p c.in-Some.start) (IsPathIn g c.args.scope.now.frame.now) ◌≺◌ (in_as_path g c.args.scope.now.frame.now c.in-Some.start (sym c.requires.start ∙ c.in-Some.is)) (Some word) x
    (next_as_long p c.in-Some.start word x h)))

pub returns-clause-next : goal.returns-clause-next
returns-clause-next c =
    let g = edges c.args.scope.now.graph.now in
    let p = paths_in c.args.scope.now in
    let word = c.in-Some-after.word.now in
    let last = none_of c.in_ok-next.next _ _ c.in_ok-next.ensures.next (sym c.is_some.ensures ∙ c.if-is_some.false) in
    let passed = subst (λ n. IsPassed p c.in-Some.start (Some word) (n + 1)) (sym (ap length c.letters.ensures)) (passed_word p c.in-Some.start word last) in
    rw (c.in-Some-after.is)
    (IfOk-weaker c.least_from-2.result _ _
    (λ next h. answer_in g c.args.scope.now.frame.now c.in-Some.start (sym c.requires.start ∙ c.in-Some.is) (Some word) next
    (least_answer p c.in-Some.start (Some word) (length c.letters.result.now + 1) next passed h))
    c.least_from-2.ensures.next)
