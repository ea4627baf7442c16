-- Steps made one after another, the last one first.
use Rattle.std.proofs.Common.{◌≡◌, ℕ, zero, suc, ◌<◌, List, [], ◌∷◌, ◌++◌, length, reverse, take, get_or, refl, sym, ◌∙◌, ap, subst, arith}
use Rattle.std.proofs.lemmas.List.{reverse-append}
use Rattle.theory.specs.Word.{Word}
use Rattle.theory.specs.Congruence.{Presentation}
use Rattle.theory.specs.PlacedStep.{Gives, AllGive, LeadTo, last_word}
use Rattle.chains.specs.Chains.{AllFit, Fits, step_of, steps_of}
use Rattle.chains.specs.Walks.{IsWalk, here}
use Rattle.chains.specs.declared.steps.ChainStep.{ChainStep}
use Rattle.chains.specs.declared.walks.Walk.{Walk}
use Rattle.chains.proofs.ChainLaws.{leads_here, leads_on}

-- the first steps of a list that are left, the last one first, lead from where the walk stands to where all of them led
pub record IsGoing (p : Presentation) (old : Walk) (steps left : List ChainStep) (walk : Walk) : Type 0 where
  pub stands : (u : Word) → IsWalk p u old → IsWalk p u walk
  pub leads : (v : Word) → LeadTo p (here old) (steps_of (reverse steps)) v → LeadTo p (here walk) (steps_of (reverse left)) v

take_whole : (n : ℕ) (steps : List ChainStep) → n ≡ length steps → take n steps ≡ steps
take_whole zero [] is = refl
take_whole zero (s ∷ steps) is = absurd (omega (arith, is))
take_whole (suc n) [] is = absurd (omega (arith, is))
take_whole (suc n) (s ∷ steps) is = ap (λ (ss : List ChainStep). s ∷ ss) (take_whole n steps (omega (arith, is)))

take_more : (place : ℕ) (steps : List ChainStep) (step other : ChainStep) → place < length steps → step ≡ get_or steps place other
    → take (suc place) steps ≡ take place steps ++ step ∷ []
take_more place [] step other within is = absurd (omega (arith, within))
take_more zero (s ∷ steps) step other within is = ap (λ (t : ChainStep). t ∷ []) (sym is)
take_more (suc n) (s ∷ steps) step other within is = ap (λ (ss : List ChainStep). s ∷ ss) (take_more n steps step other (omega (arith, within)) is)

pub words_stand : (p : Presentation) (u : Word) (walk : Walk) → IsWalk p u walk → 0 < length walk.words.keys
words_stand p u walk is = let words = ap (λ (ws : List Word). length ws) is.chain.1 in omega (arith, words)

pub goes_first : (p : Presentation) (old : Walk) (steps : List ChainStep) (n : ℕ) → n ≡ length steps → IsGoing p old steps (take n steps) old
goes_first p old steps n is = record {
  stands = λ u walk. walk;
  leads = λ v leads. subst (λ (ss : List ChainStep). LeadTo p (here old) (steps_of (reverse ss)) v) (sym (take_whole n steps is)) leads;
}

module _ (p : Presentation) (old : Walk) (steps : List ChainStep) (walk : Walk) (place next : ℕ) (step other : ChainStep) (going : IsGoing p old steps (take next steps) walk)
    (follows : next ≡ suc place) (within : place < length steps) (is : step ≡ get_or steps place other) (fits : AllFit p (here old) (reverse steps)) where
  left_is : reverse (take next steps) ≡ step ∷ reverse (take place steps)
  left_is = ap (λ n. reverse (take n steps)) follows ∙ ap reverse (take_more place steps step other within is) ∙ reverse-append (take place steps) (step ∷ [])

  -- the next one fits
  pub next_fits : Fits p (here walk) (step_of step)
  next_fits =
      let leads = going.leads (last_word (here old) fits.0) (fits.0, fits.1, refl) in
      go leads.0 (subst (λ (ss : List ChainStep). AllGive p (here walk) (steps_of ss) leads.0) left_is leads.1)
    where
      go : (vs : List Word) → AllGive p (here walk) (step_of step ∷ steps_of (reverse (take place steps))) vs → Fits p (here walk) (step_of step)
      go [] all = absurd all
      go (v ∷ vs) all = (v, all.0)

  -- and is made
  pub goes_on : (new : Walk) → (u : Word) × IsWalk p u old
      → ((u v : Word) → IsWalk p u walk → Gives p (here walk) (step_of step) v → IsWalk p u new × (here new ≡ v)) → IsGoing p old steps (take place steps) new
  goes_on new begun went = record {
    stands = λ u begun. (went u next_fits.0 (going.stands u begun) next_fits.1).0;
    leads = λ v leads.
        subst (λ w. LeadTo p w (steps_of (reverse (take place steps))) v) (sym (went begun.0 next_fits.0 (going.stands begun.0 begun.1) next_fits.1).1)
        ((leads_on p (here walk) (step_of step) (steps_of (reverse (take place steps))) next_fits.0 next_fits.1 v).0
        (subst (λ (ss : List ChainStep). LeadTo p (here walk) (steps_of ss) v) left_is (going.leads v leads)));
  }

-- all are made
pub gone_all : (p : Presentation) (old : Walk) (steps : List ChainStep) (walk : Walk) (n : ℕ) → IsGoing p old steps (take n steps) walk → n ≡ 0 → (u v : Word)
    → IsWalk p u old → LeadTo p (here old) (steps_of (reverse steps)) v → IsWalk p u walk × (here walk ≡ v)
gone_all p old steps walk n going none u v begun leads = (
  going.stands u begun,
  (leads_here p (here walk) v).0 (subst (λ k. LeadTo p (here walk) (steps_of (reverse (take k steps))) v) none (going.leads v leads)),
)
