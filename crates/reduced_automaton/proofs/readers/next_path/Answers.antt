use Rattle.std.proofs.Common.{◌≡◌, ◌+◌, ℕ, List, Option, length, Some, sym, ◌∙◌, ap, subst}
use Rattle.theory.specs.ShortLex.{◌≺◌}
use Rattle.theory.specs.Listing.{IsLast, IsNext}
use Rattle.reduced_automaton.specs.Paths.{GoesOn, HasPath, IsLeastPath, all_paths}
use Rattle.rewriting.specs.Tables.{Moves, edges}
use Rattle.reduced_automaton.proofs.PathLaws.{none_of, not_then, some_as}
use Rattle.reduced_automaton.proofs.NextPaths.{next_as_long}
use Rattle.reduced_automaton.proofs.ReadingLaws.{last_without, next_longer}
use Rattle.reduced_automaton.proofs.readers.next_path.Goals as goal

pub returns-then-is_some : goal.returns-then-is_some
returns-then-is_some c =
    let v = c.new-paths.result in
    rw (c.in-Some.is)
    (some_as c.in_ok-next.next _ _ _ _ c.in_ok-next.ensures (sym c.is_some.ensures ∙ c.if-is_some.true)
    (λ x h. subst (λ (v : Moves × List (Option ℕ)). IsNext (HasPath (all_paths v.0.letters (edges v.0)) 0) ◌≺◌ (Some c.in-Some.word.now) x) c.new-paths.ensures
    (next_as_long (all_paths v.0.letters (edges v.0)) 0 c.in-Some.word.now x h)))

pub returns-then-not-goes_on : goal.returns-then-not-goes_on
returns-then-not-goes_on c =
    let v = c.new-paths.result in
    let size : c.letters.result.now ≡ c.in-Some.word.now = c.letters.ensures in
    let last = none_of c.in_ok-next.next _ _ c.in_ok-next.ensures (sym c.is_some.ensures ∙ c.if-is_some.false) in
    let ends : GoesOn (all_paths v.0.letters (edges v.0)) 0 (length c.in-Some.word.now + 1) → ⊥ =
    subst (λ n. GoesOn (all_paths v.0.letters (edges v.0)) 0 (n + 1) → ⊥) (ap length size) (not_then c.goes_on.result _ c.goes_on.ensures c.if-not-goes_on.true) in
    rw (c.in-Some.is)
    (subst (λ (v : Moves × List (Option ℕ)). IsLast (HasPath (all_paths v.0.letters (edges v.0)) 0) ◌≺◌ (Some c.in-Some.word.now)) c.new-paths.ensures
    (last_without v.0.letters (edges v.0) c.in-Some.word.now last ends))

pub goes_on-requires-clause-node : goal.goes_on-requires-clause-node
goes_on-requires-clause-node c = c.letters-letters.ensures.graph.rooted

pub returns : goal.returns
returns c =
    let v = c.new-paths.result in
    let size : c.letters.result.now ≡ c.in-Some.word.now = c.letters.ensures in
    let last = none_of c.in_ok-next.next _ _ c.in_ok-next.ensures (sym c.is_some.ensures ∙ c.if-is_some.false) in
    let least : IsLeastPath (all_paths v.0.letters (edges v.0)) 0 (length c.in-Some.word.now + 1) c.in_ok-least_word.field-0 =
    subst (λ n. IsLeastPath (all_paths v.0.letters (edges v.0)) 0 (n + 1) c.in_ok-least_word.field-0) (ap length size) c.in_ok-least_word.ensures in
    rw (c.in-Some.is)
    (subst (λ (v : Moves × List (Option ℕ)). IsNext (HasPath (all_paths v.0.letters (edges v.0)) 0) ◌≺◌ (Some c.in-Some.word.now) c.in_ok-least_word.field-0) c.new-paths.ensures
    (next_longer v.0.letters (edges v.0) c.in-Some.word.now c.in_ok-least_word.field-0 last least))
