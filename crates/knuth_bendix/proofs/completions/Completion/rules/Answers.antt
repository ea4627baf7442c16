use Rattle.std.proofs.Common.{rules, ◌≡◌, List, ◌∙◌, ◌↔◌, sym, ap, subst}
use Rattle.std.specs.List.Sorted.{IsPermutation}
use Rattle.std.proofs.lemmas.List.Sorted.{All-permutation}
use Rattle.theory.specs.Word.{Word}
use Rattle.theory.specs.ShortLex.{◌≺◌}
use Rattle.theory.specs.Congruence.{Presentation, of_presentation}
use Rattle.theory.specs.Class.{IsRuleList, SameClass}
use Rattle.theory.specs.Completion.{Listed, Rule}
use Rattle.rewriting.specs.Rules.{AreFalling}
use Rattle.knuth_bendix.specs.Runs.{CompletionRun}
use Rattle.knuth_bendix.proofs.SortedRules.{decided_run, sorted_by_lefts, sorted_rule_list, sorted_rules}
use Rattle.knuth_bendix.proofs.completions.Completion.rules.Goals as goal

pub from_vec-requires : goal.from_vec-requires
from_vec-requires c =
    All-permutation (λ (r : Word × Word). r.1 ≺ r.0) c.into_vec-rules.result.items c.sort_by.new.self.items c.in_ok-sort_by.ensures.permutation
    (subst AreFalling (sym c.into_vec-rules.ensures.rules) c.into_vec-rules.ensures.falling)

pub returns-clause-list : goal.returns-clause-list
returns-clause-list c =
    let p : Presentation = c.args.self.now.presentation in
    let moved : IsPermutation c.self.inside.rules c.sort_by.new.self.items =
    subst (λ (rs : List (Word × Word)). IsPermutation rs c.sort_by.new.self.items) (c.into_vec-rules.ensures.rules ∙ c.in_ok-copy.ensures) c.in_ok-sort_by.ensures.permutation in
    let same : c.self.inside.presentation.presentation ≡ p = ap (λ (r : CompletionRun). r.presentation) c.self.view_is in
    let run = decided_run c.self.inside.presentation.presentation p c.self.inside.length c.args.self.now.length c.self.inside.rules c.self.inside.pending.equations c.self.inside.said c.args.self.now.said
    c.self.invariant.0 same (ap (λ (r : CompletionRun). r.length) c.self.view_is) (ap (λ (r : CompletionRun). r.said) c.self.view_is) c.requires in
    subst (λ (rs : List (Word × Word)). IsRuleList (SameClass (of_presentation p)) rs) (sym c.from_vec.ensures)
    (sorted_rule_list p c.args.self.now.length c.self.inside.rules c.sort_by.new.self.items run.are moved run.clear
    run.elements run.ends (sorted_by_lefts c.sort_by.new.self.items c.in_ok-sort_by.ensures.sorted (λ a r q k. search rules)))

pub returns-clause-rules : goal.returns-clause-rules
returns-clause-rules c u v =
    let p : Presentation = c.args.self.now.presentation in
    let moved : IsPermutation c.self.inside.rules c.sort_by.new.self.items =
    subst (λ (rs : List (Word × Word)). IsPermutation rs c.sort_by.new.self.items) (c.into_vec-rules.ensures.rules ∙ c.in_ok-copy.ensures) c.in_ok-sort_by.ensures.permutation in
    let same : c.self.inside.presentation.presentation ≡ p = ap (λ (r : CompletionRun). r.presentation) c.self.view_is in
    let run = decided_run c.self.inside.presentation.presentation p c.self.inside.length c.args.self.now.length c.self.inside.rules c.self.inside.pending.equations c.self.inside.said c.args.self.now.said
    c.self.invariant.0 same (ap (λ (r : CompletionRun). r.length) c.self.view_is) (ap (λ (r : CompletionRun). r.said) c.self.view_is) c.requires in
    subst (λ (rs : List (Word × Word)). Listed rs u v ↔ Rule p c.args.self.now.length u v) (sym c.from_vec.ensures)
    (sorted_rules p c.args.self.now.length c.self.inside.rules c.sort_by.new.self.items run.are moved u v)
