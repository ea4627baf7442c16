-- Steps of chains, and chains, by the definitions of placed steps.
use Rattle.std.specs.Prelude.{◌≡◌, ℕ, List, ◌∷◌, ◌++◌, length, map}
use Rattle.theory.specs.Word.{Word}
use Rattle.theory.specs.Congruence.{Presentation}
use Rattle.theory.specs.PlacedStep.{PlacedStep, Gives, AllGive, AreDifferent, last_word}
use Rattle.chains.specs.declared.steps.ChainStep.{ChainStep}

-- a step, and a list of steps, as the definitions have them
abbrev pub step_of : ChainStep → PlacedStep
step_of step = record { place = step.place; relation = step.relation; forward = step.forward }

abbrev pub steps_of : List ChainStep → List PlacedStep
steps_of = map step_of

-- the step fits the word: it gives some word
abbrev pub Fits : Presentation → Word → PlacedStep → Type 0
Fits p u step = (v : Word) × Gives p u step v

-- each step fits the word that the ones before it give
abbrev pub AllFit : Presentation → Word → List ChainStep → Type 0
AllFit p u steps = (vs : List Word) × AllGive p u (steps_of steps) vs

-- the words begin with u, and each behind it is what a step gives
abbrev pub IsChain : Presentation → Word → List ChainStep → List Word → Type 0
IsChain p u steps words = (vs : List Word) × (words ≡ u ∷ vs) × AllGive p u (steps_of steps) vs

-- the steps lead from u to v, over words that are all different
abbrev pub IsStraight : Presentation → Word → List ChainStep → Word → Type 0
IsStraight p u steps v = (vs : List Word) × AllGive p u (steps_of steps) vs
    × (last_word u vs ≡ v) × AreDifferent (u ∷ vs)

-- the factor stands behind so many letters of the word
pub record StandsAt (factor word : Word) (place : ℕ) : Type 0 where
  pub before : Word
  pub after : Word
  pub placed : length before ≡ place
  pub is : word ≡ before ++ (factor ++ after)

-- the word with the factor at the place replaced
pub record IsReplaced (word : Word) (place : ℕ) (factor by made : Word) : Type 0 where
  pub stands : StandsAt factor word place
  pub is : made ≡ stands.before ++ (by ++ stands.after)
