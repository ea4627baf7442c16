-- Chains step by step.
use Rattle.std.proofs.Common.{◌≡◌, ℕ, zero, suc, ◌+◌, ◌<◌, ◌≤◌, Bool, eqb, IsTrue, List, [], ◌∷◌, ◌++◌, length, drop, get_or, refl, sym, ◌∙◌, ap, subst, arith, ◌↔◌, append_assoc, Option, None, Some, MatchOption}
use Rattle.std.specs.Cmp.Lexicographic.{pointwise}
use Rattle.std.proofs.lemmas.Bool.Decides.{Decides-eqb}
use Rattle.std.proofs.lemmas.Slice.Eq.{slice_eq-Decides}
use Rattle.theory.specs.Word.{Word}
use Rattle.theory.specs.Congruence.{Presentation, of_presentation}
use Rattle.theory.specs.Chain.{Related}
use Rattle.theory.specs.PlacedStep.{PlacedStep, Gives, AllGive, LeadTo, last_word}
use Rattle.theory.proofs.PlacedSteps.{all_give_related}
use Rattle.theory.proofs.PlacedChains.{all_give_one, gives_one}
use Rattle.chains.specs.Chains.{AllFit, Fits, IsChain, step_of, steps_of}
use Rattle.chains.specs.declared.steps.ChainStep.{ChainStep}

module _ (p : Presentation) (u : Word) (step : PlacedStep) (steps : List PlacedStep) where
  -- where the first step does not fit, the steps lead nowhere
  pub leads_nowhere : (Fits p u step → ⊥) → (to : Word) → LeadTo p u (step ∷ steps) to → ⊥
  leads_nowhere none to ([], all, is) = absurd all
  leads_nowhere none to (v ∷ vs, all, is) = none (v, all.0)

  -- and where it does, they lead where the others lead from its word
  pub leads_on : (v : Word) → Gives p u step v → (to : Word) → LeadTo p u (step ∷ steps) to ↔ LeadTo p v steps to
  leads_on v gives to = (there, λ h. (v ∷ h.0, (gives, h.1), h.2))
    where
      there : LeadTo p u (step ∷ steps) to → LeadTo p v steps to
      there ([], all, is) = absurd all
      there (w ∷ ws, all, is) =
          let same : w ≡ v = gives_one p u step w v all.0 gives in
          (ws, subst (λ x. AllGive p x steps ws) same all.1, subst (λ x. last_word x ws ≡ to) same is)

-- no steps lead to the word itself
pub leads_here : (p : Presentation) (u to : Word) → LeadTo p u [] to ↔ (u ≡ to)
leads_here p u to = (there, λ e. ([], tt, e))
  where
    there : LeadTo p u [] to → u ≡ to
    there ([], all, is) = is
    there (w ∷ ws, all, is) = absurd all

-- the steps that are left begin with the next one
begins : (steps : List ChainStep) (place : ℕ) (step : ChainStep) → place < length steps → step ≡ get_or steps place step → drop place steps ≡ step ∷ drop (suc place) steps
begins [] place step within is = absurd (omega arith)
begins (s ∷ steps) zero step within is = ap (λ (t : ChainStep). t ∷ steps) (sym is)
begins (s ∷ steps) (suc n) step within is = begins steps n step (omega arith) is

pub left_begins : (steps : List ChainStep) (place : ℕ) (step : ChainStep) → place < length steps → step ≡ get_or steps place step
    → drop place steps ≡ step ∷ drop (place + 1) steps
left_begins steps place step within is = begins steps place step within is ∙ ap (λ n. step ∷ drop n steps) (let more : suc place ≡ place + 1 = omega arith in more)

pub none_left : (steps : List ChainStep) (place : ℕ) → length steps ≤ place → drop place steps ≡ []
none_left [] zero h = refl
none_left [] (suc n) h = refl
none_left (s ∷ steps) zero h = absurd (omega arith)
none_left (s ∷ steps) (suc n) h = none_left steps n (omega arith)

-- the steps lead where those that are left lead from the word
abbrev pub IsLed : Presentation → Word → List ChainStep → Word → List ChainStep → Type 0
IsLed p u steps word left = (to : Word) → LeadTo p u (steps_of steps) to ↔ LeadTo p word (steps_of left) to

pub led_more : (p : Presentation) (u : Word) (steps : List ChainStep) (word : Word) (left rest : List ChainStep) (step : ChainStep) (next : Word)
    → IsLed p u steps word left → left ≡ step ∷ rest → Gives p word (step_of step) next → IsLed p u steps next rest
led_more p u steps word left rest step next led is gives to =
    let here = subst (λ (l : List ChainStep). LeadTo p u (steps_of steps) to ↔ LeadTo p word (steps_of l) to) is (led to) in
    let on = leads_on p word (step_of step) (steps_of rest) next gives to in
    (λ h. on.0 (here.0 h), λ h. here.1 (on.1 h))

pub led_nowhere : (p : Presentation) (u : Word) (steps : List ChainStep) (word : Word) (left rest : List ChainStep) (step : ChainStep)
    → IsLed p u steps word left → left ≡ step ∷ rest → (Fits p word (step_of step) → ⊥) → (to : Word) → LeadTo p u (steps_of steps) to → ⊥
led_nowhere p u steps word left rest step led is none to h =
    leads_nowhere p word (step_of step) (steps_of rest) none to (subst (λ (l : List ChainStep). LeadTo p word (steps_of l) to) is ((led to).0 h))

pub led_end : (p : Presentation) (u : Word) (steps : List ChainStep) (word : Word) (left : List ChainStep) (to letters others : Word) (r : Bool)
    → IsLed p u steps word left → left ≡ [] → letters ≡ word → others ≡ to → r ≡ pointwise eqb letters others → IsTrue r ↔ LeadTo p u (steps_of steps) to
led_end p u steps word left to letters others r led is here there same =
    let ends = subst (λ (l : List ChainStep). LeadTo p u (steps_of steps) to ↔ LeadTo p word (steps_of l) to) is (led to) in
    let equal = slice_eq-Decides Decides-eqb letters others r same in
    let last = leads_here p word to in (
      λ h. ends.1 (last.1 (sym here ∙ equal.0 h ∙ there)),
      λ h. equal.1 (here ∙ last.0 (ends.0 h) ∙ sym there),
    )

-- the words of a chain that are found, the next one, and the steps that are left
pub record IsBegun (p : Presentation) (u : Word) (steps : List ChainStep) (words : List Word) (word : Word) (left : List ChainStep) : Type 0 where
  pub fits : AllFit p u steps → AllFit p word left
  pub chain : (vs : List Word) → AllGive p word (steps_of left) vs → IsChain p u steps (words ++ word ∷ vs)

pub none_begun : (p : Presentation) (u : Word) (steps : List ChainStep) → IsBegun p u steps [] u steps
none_begun p u steps = record { fits = λ h. h; chain = λ vs all. (vs, refl, all) }

module _ (p : Presentation) (u : Word) (steps : List ChainStep) (words : List Word) (word : Word) (left rest : List ChainStep) (step : ChainStep)
    (begun : IsBegun p u steps words word left) (is : left ≡ step ∷ rest) where
  begun_at : IsBegun p u steps words word (step ∷ rest)
  begun_at = subst (IsBegun p u steps words word) is begun

  pub fits_nowhere : (Fits p word (step_of step) → ⊥) → AllFit p u steps → ⊥
  fits_nowhere none fits = go (begun_at.fits fits)
    where
      go : AllFit p word (step ∷ rest) → ⊥
      go ([], all) = absurd all
      go (v ∷ vs, all) = none (v, all.0)

  pub begun_more : (next : Word) → Gives p word (step_of step) next → IsBegun p u steps (words ++ word ∷ []) next rest
  begun_more next gives = record {
    fits = λ h. go (begun_at.fits h);
    chain = λ vs all. subst (IsChain p u steps) (sym (append_assoc words (word ∷ []) (next ∷ vs))) (begun_at.chain (next ∷ vs) (gives, all));
  }
    where
      go : AllFit p word (step ∷ rest) → AllFit p next rest
      go ([], all) = absurd all
      go (v ∷ vs, all) = (vs, subst (λ x. AllGive p x (steps_of rest) vs) (gives_one p word (step_of step) v next all.0 gives) all.1)

pub chain_done : (p : Presentation) (u : Word) (steps : List ChainStep) (words : List Word) (word : Word) (left : List ChainStep) → IsBegun p u steps words word left
    → left ≡ [] → IsChain p u steps (words ++ word ∷ [])
chain_done p u steps words word left begun is = (subst (IsBegun p u steps words word) is begun).chain [] tt

-- what a step gives, or does not
pub given : (p : Presentation) (u : Word) (step : PlacedStep) (found : Option Word) (v : Word) → MatchOption found (Fits p u step → ⊥) (Gives p u step) → found ≡ Some v
    → Gives p u step v
given p u step found v h is = subst (λ (o : Option Word). MatchOption o (Fits p u step → ⊥) (Gives p u step)) is h

pub not_given : (p : Presentation) (u : Word) (step : PlacedStep) (found : Option Word) → MatchOption found (Fits p u step → ⊥) (Gives p u step) → found ≡ None
    → Fits p u step → ⊥
not_given p u step found h is = subst (λ (o : Option Word). MatchOption o (Fits p u step → ⊥) (Gives p u step)) is h

pub one_chain : (p : Presentation) (u : Word) (steps : List ChainStep) (ws xs : List Word) → IsChain p u steps ws → IsChain p u steps xs → ws ≡ xs
one_chain p u steps ws xs g h =
    g.1 ∙ ap (λ vs. u ∷ vs) (all_give_one p u (steps_of steps) g.0 h.0 g.2 h.2) ∙ sym h.1

pub lead_related : (p : Presentation) (u v : Word) (steps : List ChainStep) → LeadTo p u (steps_of steps) v → Related (of_presentation p) u v
lead_related p u v steps h = subst (Related (of_presentation p) u) h.2 (all_give_related p u (steps_of steps) h.0 h.1)
