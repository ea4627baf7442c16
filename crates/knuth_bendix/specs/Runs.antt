-- Completion, turn by turn.
use Rattle.std.specs.Prelude.{◌≡◌, ◌≢◌, ℕ, Bool, ◌+◌, ◌*◌, ◌<◌, ◌≤◌, ◌⊎◌, List, length}
use Rattle.theory.specs.Word.{Word}
use Rattle.theory.specs.Congruence.{Presentation, AreElements}
use Rattle.theory.specs.Completion.{AreRules, CompletionEnds, Listed}
use Rattle.race.specs.declared.engines.Progress.{Progress}
use Rattle.race.specs.declared.engines.Progress.TheVariants.{More, Decided, Spent, NoMemory}
use Rattle.knuth_bendix.specs.Held.{Held, IsSound}
use Rattle.knuth_bendix.specs.Overlaps.{AreShort}
use Rattle.knuth_bendix.specs.Remaining.{still_reduced, words_up_to}

-- whether completion of a presentation ends within a length
pub record CompletionTask : Type 0 where
  pub presentation : Presentation
  pub length : ℕ

-- a completion: what it was made for, the rules it holds, a measure of the turns that are left,
-- what the last turn gave, and whether it logs
pub record CompletionRun : Type 0 where
  pub presentation : Presentation
  pub length : ℕ
  pub rules : List (Word × Word)
  pub left : ℕ
  pub said : Progress
  -- whether it is logged how rules follow from the relations
  pub logged : Bool

-- more equations than one rule can add
abbrev pub growth : ℕ → ℕ → ℕ
growth k L = length (words_up_to k L) + length (words_up_to k L) * (L + L) + 1

-- words within the length that are still reduced, and then equations
abbrev pub left_of : Presentation → ℕ → List (Word × Word) → List (Word × Word) → ℕ
left_of p L rules equations = still_reduced p.letters L rules * growth p.letters L + length
    equations

-- what the last turn left
pub record IsRun (p : Presentation) (L : ℕ) (rules equations : List (Word × Word))
    (said : Progress) : Type 0 where
  pub short : AreShort L rules
  pub sound : said ≢ NoMemory → IsSound p L (record { rules = rules; equations = equations })
  pub decided : said ≡ Decided → CompletionEnds p L
  pub spent : said ≡ Spent → CompletionEnds p L → ⊥
  pub kept : (said ≡ Decided) ⊎ (said ≡ Spent) → AreRules p L rules

-- what a completion holds between two turns
pub record IsCompletion (p : Presentation) (L : ℕ) (rules equations : List (Word × Word))
    (said : Progress) : Type 0 where
  pub elements : AreElements p.is_monoid p.letters p.relations
  pub run : IsRun p L rules equations said

-- a turn that met no want of memory
pub record IsTurn (p : Presentation) (L : ℕ) (old new : Held) (progress : Progress) : Type 0 where
  pub more : progress ≡ More
      → left_of p L new.rules new.equations < left_of p L old.rules old.equations
  pub run : IsRun p L new.rules new.equations progress

-- the relations both of whose sides are within the length
pub record AreShortRelations (L : ℕ) (relations equations : List (Word × Word)) : Type 0 where
  pub all : (r s : Word) → Listed relations r s → length r ≤ L → length s ≤ L → Listed equations r s
  pub are : (r s : Word) → Listed equations r s
      → Listed relations r s × (length r ≤ L) × (length s ≤ L)
