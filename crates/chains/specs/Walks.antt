-- Chains without detours, as they are made.
use Rattle.std.specs.Prelude.{List, []}
use Rattle.theory.specs.Word.{Word}
use Rattle.theory.specs.Congruence.{Presentation}
use Rattle.theory.specs.PlacedStep.{AreDifferent, last_word}
use Rattle.chains.specs.Chains.{IsChain}
use Rattle.chains.specs.declared.steps.ChainStep.{ChainStep}
use Rattle.chains.specs.declared.walks.Walk.{Walk}

-- the words are the chain of the steps from u, and all different
pub record IsStraightWalk (p : Presentation) (u : Word) (words : List Word)
    (steps : List ChainStep) : Type 0 where
  pub chain : IsChain p u steps words
  pub different : AreDifferent words

-- a walk from u
abbrev pub IsWalk : Presentation → Word → Walk → Type 0
IsWalk p u walk = IsStraightWalk p u walk.words.keys walk.steps.items

-- the word where the walk stands
abbrev pub here : Walk → Word
here walk = last_word [] walk.words.keys
