use Rattle.std.proofs.Common.{◌≡◌, ◌++◌, ◌∙◌, ◌<◌, ◌≤◌, ◌-◌, ℕ, length, List, reverse, sym, ap, subst, arith, Option, option_to_list, slice_get, Some}
use Rattle.std.proofs.lemmas.Result.{on_ok_weaker}
use Rattle.std.proofs.lemmas.Option.{slice_get-get_or}
use Rattle.theory.specs.Word.{Word}
use Rattle.theory.specs.PlacedStep.{LeadTo}
use Rattle.chains.specs.Chains.{AllFit, steps_of}
use Rattle.chains.specs.Derivations.{AreKept, Derived, GoesOn, all_of, in_place_of}
use Rattle.chains.specs.Walks.{IsWalk, here}
use Rattle.chains.specs.declared.steps.ChainStep.{ChainStep}
use Rattle.chains.proofs.SpellLaws.{chain_fits, fact_there, goes_by_chain, goes_by_fact, goes_by_relation, step_fits}
use Rattle.chains.proofs.derivations.Derivations.read_next.Goals as goal

-- how many relations there are
relations_are : {n : ℕ} {xs ys : List (Word × Word)} → n ≡ length xs → xs ≡ ys → n ≡ length ys
relations_are {n} {xs} {ys} e f = e ∙ ap (λ (zs : List (Word × Word)). length zs) f

pub go-requires-clause-fits : goal.go-requires-clause-fits
go-requires-clause-fits c =
    let d : Derived = record { presentation = c.self.inside.presentation.presentation; facts = c.self.inside.facts.items } in
    let popped = c.pop.ensures.items ∙ ap (λ (o : Option ChainStep). c.pop.new.self.items ++ option_to_list o) c.in-Some.is in
    let fits = subst (λ (d : Derived). AllFit (all_of d) (here c.args.walk.now) (reverse c.args.pending.now.items)) (sym c.self.view_is) c.requires.fits in
    step_fits d c.self.invariant c.args.pending.now.items c.pop.new.self.items c.in-Some.step c.args.walk.now popped fits
    (subst (λ n. c.in-Some.step.relation < n) (relations_are c.len-relations.ensures c.relations.ensures.relations) c.if-step-relations.true)

pub returns-then-step-relations : goal.returns-then-step-relations
returns-then-step-relations c =
    let d : Derived = record { presentation = c.self.inside.presentation.presentation; facts = c.self.inside.facts.items } in
    let popped = c.pop.ensures.items ∙ ap (λ (o : Option ChainStep). c.pop.new.self.items ++ option_to_list o) c.in-Some.is in
    let fits = subst (λ (d : Derived). AllFit (all_of d) (here c.args.walk.now) (reverse c.args.pending.now.items)) (sym c.self.view_is) c.requires.fits in
    let begun = subst (λ (d : Derived). (from : Word) × IsWalk d.presentation from c.args.walk.now) (sym c.self.view_is) c.requires.begun in
    on_ok_weaker c.go.result
    (λ went.
    subst (λ (d : Derived). GoesOn d c.args.pending.now.items c.args.walk.now c.pop.new.self.items c.go.new.self) c.self.view_is
    (goes_by_relation d c.self.invariant c.args.pending.now.items c.pop.new.self.items c.in-Some.step c.args.walk.now popped fits c.go.new.self
    (subst (λ n. c.in-Some.step.relation < n) (relations_are c.len-relations.ensures c.relations.ensures.relations) c.if-step-relations.true) begun went))
    c.go.ensures

pub index-fact-requires : goal.index-fact-requires
index-fact-requires c =
    let d : Derived = record { presentation = c.self.inside.presentation.presentation; facts = c.self.inside.facts.items } in
    let popped = c.pop.ensures.items ∙ ap (λ (o : Option ChainStep). c.pop.new.self.items ++ option_to_list o) c.in-Some.is in
    let fits = subst (λ (d : Derived). AllFit (all_of d) (here c.args.walk.now) (reverse c.args.pending.now.items)) (sym c.self.view_is) c.requires.fits in
    let count = relations_are c.len-relations.ensures c.relations.ensures.relations in
    let there = fact_there d c.self.invariant c.args.pending.now.items c.pop.new.self.items c.in-Some.step c.args.walk.now popped fits
    (subst (λ n. n ≤ c.in-Some.step.relation) count c.if-step-relations.false) in
    omega (arith, there, count)

pub returns : goal.returns
returns c =
    let d : Derived = record { presentation = c.self.inside.presentation.presentation; facts = c.self.inside.facts.items } in
    let popped = c.pop.ensures.items ∙ ap (λ (o : Option ChainStep). c.pop.new.self.items ++ option_to_list o) c.in-Some.is in
    let fits = subst (λ (d : Derived). AllFit (all_of d) (here c.args.walk.now) (reverse c.args.pending.now.items)) (sym c.self.view_is) c.requires.fits in
    let count = relations_are c.len-relations.ensures c.relations.ensures.relations in
    let behind = subst (λ n. n ≤ c.in-Some.step.relation) count c.if-step-relations.false in
    let there = fact_there d c.self.invariant c.args.pending.now.items c.pop.new.self.items c.in-Some.step c.args.walk.now popped fits behind in
    let at : slice_get d.facts (c.in-Some.step.relation - c.len-relations.result) ≡ Some c.index-fact.result.now =
    slice_get-get_or d.facts (c.in-Some.step.relation - c.len-relations.result) c.index-fact.result.now (omega (arith, there, count)) ∙ ap (λ f. Some f) (sym c.index-fact.ensures) in
    on_ok_weaker c.put.result
    (λ put.
    subst (λ (d : Derived). GoesOn d c.args.pending.now.items c.args.walk.now c.put.new.pending.items c.args.walk.now) c.self.view_is
    (goes_by_fact d c.self.invariant c.args.pending.now.items c.pop.new.self.items c.in-Some.step c.args.walk.now popped fits c.put.new.pending.items c.index-fact.result.now behind
    (subst (λ n. slice_get d.facts (c.in-Some.step.relation - n) ≡ Some c.index-fact.result.now) count at)
    (put ∙ ap (λ (steps : List ChainStep). c.pop.new.self.items ++ reverse (in_place_of c.in-Some.step steps)) c.as_slice-2.ensures.value)))
    c.put.ensures

pub go_instead-requires-clause-fits : goal.go_instead-requires-clause-fits
go_instead-requires-clause-fits c =
    let d : Derived = record { presentation = c.self.inside.presentation.presentation; facts = c.self.inside.facts.items } in
    let popped = c.pop.ensures.items ∙ ap (λ (o : Option ChainStep). c.pop.new.self.items ++ option_to_list o) c.in-Some.is in
    let fits = subst (λ (d : Derived). AllFit (all_of d) (here c.args.walk.now) (reverse c.args.pending.now.items)) (sym c.self.view_is) c.requires.fits in
    let are = subst (λ (d : Derived). AreKept d c.args.kept.now) (sym c.self.view_is) c.requires.kept in
    subst (λ (steps : List ChainStep). AllFit d.presentation (here c.args.walk.now) (in_place_of c.in-Some.step steps)) (sym c.as_slice.ensures.value)
    (chain_fits d c.self.invariant c.args.pending.now.items c.pop.new.self.items c.in-Some.step c.args.walk.now popped fits c.args.kept.now c.in-Some-get.chain.now are
    (sym c.in-Some-get.ensures.value))

pub returns-in-Some-get : goal.returns-in-Some-get
returns-in-Some-get c =
    let d : Derived = record { presentation = c.self.inside.presentation.presentation; facts = c.self.inside.facts.items } in
    let popped = c.pop.ensures.items ∙ ap (λ (o : Option ChainStep). c.pop.new.self.items ++ option_to_list o) c.in-Some.is in
    let fits = subst (λ (d : Derived). AllFit (all_of d) (here c.args.walk.now) (reverse c.args.pending.now.items)) (sym c.self.view_is) c.requires.fits in
    let are = subst (λ (d : Derived). AreKept d c.args.kept.now) (sym c.self.view_is) c.requires.kept in
    let begun = subst (λ (d : Derived). (from : Word) × IsWalk d.presentation from c.args.walk.now) (sym c.self.view_is) c.requires.begun in
    on_ok_weaker c.go_instead.result
    (λ went.
    subst (λ (d : Derived). GoesOn d c.args.pending.now.items c.args.walk.now c.pop.new.self.items c.go_instead.new.self) c.self.view_is
    (goes_by_chain d c.self.invariant c.args.pending.now.items c.pop.new.self.items c.in-Some.step c.args.walk.now popped fits c.args.kept.now c.in-Some-get.chain.now are
    (sym c.in-Some-get.ensures.value) c.go_instead.new.self begun
    (λ u v walk leads.
    went u v walk
    (subst (λ (steps : List ChainStep). LeadTo d.presentation (here c.args.walk.now) (steps_of (in_place_of c.in-Some.step steps)) v) (sym c.as_slice.ensures.value) leads))))
    c.go_instead.ensures
