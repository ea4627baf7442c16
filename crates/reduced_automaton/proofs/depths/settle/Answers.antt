use Rattle.std.proofs.Common.{◌≡◌, ◌<◌, ℕ, List, Option, None, length, get_or, sym, ◌∙◌, subst, arith}
use Rattle.std.proofs.lemmas.List.{get_or_read}
use Rattle.rewriting.specs.Tables.{edges}
use Rattle.reduced_automaton.specs.Automaton.{LeadsOn}
use Rattle.reduced_automaton.proofs.PathLaws.{not_then}
use Rattle.reduced_automaton.proofs.DepthLaws.{none_is, none_set, round_leads, round_ends}
use Rattle.reduced_automaton.proofs.depths.settle.Goals as goal

pub returns-then-leads_on-clause-settled : goal.returns-then-leads_on-clause-settled
returns-then-leads_on-clause-settled c = λ k graph is.
    let read : c.index.result.now ≡ get_or c.args.depths.now.items c.args.node None = get_or_read _ _ _ c.requires.node c.index.ensures None in
    let none : get_or c.args.depths.now.items c.args.node None ≡ None = sym read ∙ none_is c.index.result.now (sym c.is_some.ensures ∙ c.if-is_some.false) in
    let leads : LeadsOn (edges c.args.graph.now) c.args.depths.now.items c.args.node c.args.round =
    subst (λ (ds : List (Option ℕ)). LeadsOn (edges c.args.graph.now) ds c.args.node c.args.round) c.as_slice.ensures.value (c.leads_on.ensures.0 c.if-leads_on.true) in
    let inside : c.args.node < length (edges c.args.graph.now) = omega (arith, c.requires.node, c.requires.count) in
    round_leads k (edges c.args.graph.now) graph c.args.round c.args.node c.args.depths.now.items is inside none leads

pub returns-clause-settled : goal.returns-clause-settled
returns-clause-settled c = λ k graph is.
    let read : c.index.result.now ≡ get_or c.args.depths.now.items c.args.node None = get_or_read _ _ _ c.requires.node c.index.ensures None in
    let none : get_or c.args.depths.now.items c.args.node None ≡ None = sym read ∙ none_is c.index.result.now (sym c.is_some.ensures ∙ c.if-is_some.false) in
    let inside : c.args.node < length (edges c.args.graph.now) = omega (arith, c.requires.node, c.requires.count) in
    round_ends k (edges c.args.graph.now) graph c.args.round c.args.node c.args.depths.now.items is inside none
    (λ leads. not_then c.leads_on.result _ c.leads_on.ensures c.if-leads_on.false
    (subst (λ (ds : List (Option ℕ)). LeadsOn (edges c.args.graph.now) ds c.args.node c.args.round) (sym c.as_slice.ensures.value) leads))

pub returns-clause-change : goal.returns-clause-change
returns-clause-change c =
    let read : c.index.result.now ≡ get_or c.args.depths.now.items c.args.node None = get_or_read _ _ _ c.requires.node c.index.ensures None in
    let none : get_or c.args.depths.now.items c.args.node None ≡ None = sym read ∙ none_is c.index.result.now (sym c.is_some.ensures ∙ c.if-is_some.false) in
    none_set c.args.depths.now.items c.args.node c.args.round c.requires.node none
