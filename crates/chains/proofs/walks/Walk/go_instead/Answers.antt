use Rattle.std.proofs.Common.{◌≡◌, ◌++◌, List, [], reverse, sym, ◌∙◌, ap, subst}
use Rattle.std.proofs.lemmas.List.{reverse-reverse}
use Rattle.std.proofs.lemmas.Result.{on_ok_weaker}
use Rattle.theory.specs.PlacedStep.{LeadTo}
use Rattle.chains.specs.Chains.{AllFit, steps_of}
use Rattle.chains.specs.Walks.{here}
use Rattle.chains.specs.declared.steps.ChainStep.{ChainStep}
use Rattle.chains.proofs.walks.Walk.go_instead.Goals as goal

-- what is to be made
turned_is : {slice pending new steps : List ChainStep} → slice ≡ pending → pending ≡ new ++ reverse steps → new ≡ [] → steps ≡ reverse slice
turned_is {slice} {pending} {new} {steps} e f g =
    sym (ap reverse (e ∙ f ∙ ap (λ (ss : List ChainStep). ss ++ reverse steps) g) ∙ reverse-reverse steps)

pub go_all-requires-clause-fits : goal.go_all-requires-clause-fits
go_all-requires-clause-fits c =
    subst (AllFit c.args.presentation.now.presentation (here c.args.self.now)) (turned_is c.as_slice.ensures.value c.in_ok-put.ensures c.new-pending.ensures.items) c.requires.fits

pub returns : goal.returns
returns c =
    on_ok_weaker c.go_all.result
    (λ went u v walk leads.
    went u v walk
    (subst (λ (ss : List ChainStep). LeadTo c.args.presentation.now.presentation (here c.args.self.now) (steps_of ss) v)
    (turned_is c.as_slice.ensures.value c.in_ok-put.ensures c.new-pending.ensures.items) leads))
    c.go_all.ensures
