-- The rules and equations that completion holds.
use Rattle.std.specs.Prelude.{◌≢◌, ℕ, ◌+◌, ◌≤◌, ◌⊎◌, List, [], ◌∷◌, ◌++◌, length, map, All}
use Rattle.theory.specs.Word.{Word, IsFactor}
use Rattle.theory.specs.ShortLex.{◌≺◌}
use Rattle.theory.specs.Congruence.{Presentation, EitherWay}
use Rattle.theory.specs.Completion.{IsReduced, Listed, Within}
use Rattle.knuth_bendix.specs.Links.{IsBelow, IsShort, Linked}
use Rattle.knuth_bendix.specs.Remaining.{still_reduced, words_up_to}

-- rules, and equations that they do not join yet
pub record Held : Type 0 where
  pub rules : List (Word × Word)
  pub equations : List (Word × Word)

-- these rules and equations
abbrev pub held_of : List (Word × Word) → List (Word × Word) → Held
held_of rules equations = record { rules = rules; equations = equations }

-- a listed rule, or a listed equation
abbrev pub Known : Held → Word → Word → Type 0
Known h u v = Listed h.rules u v ⊎ Listed h.equations u v

-- the left sides, in order
abbrev pub lefts : List (Word × Word) → List Word
lefts = map (λ r. r.0)

-- neither word stands in the other
pub record AreClear (f g : Word) : Type 0 where
  pub there : IsFactor f g → ⊥
  pub back : IsFactor g f → ⊥

-- no word of the list stands in another
abbrev pub AreAllClear : List Word → Type 0
AreAllClear [] = Unit {0}
AreAllClear (f ∷ fs) = All (λ g. AreClear f g) fs × AreAllClear fs

-- the rules and equations that completion of a presentation within a length may hold between two
-- turns
pub record IsSound (p : Presentation) (L : ℕ) (h : Held) : Type 0 where
  pub falls : (l r : Word) → Listed h.rules l r → r ≺ l
  pub within : (u v : Word) → Known h u v → Within p L u v
  pub clear : AreAllClear (lefts h.rules)
  pub reduced : (l r : Word) → Listed h.rules l r → IsReduced (Listed h.rules) r
  -- the words to which overlaps lead are linked below the overlap
  pub overlaps : (a b c v w : Word) → b ≢ [] → Listed h.rules (a ++ b) v → Listed h.rules (b ++ c) w
      → length (a ++ (b ++ c)) ≤ L → Linked (Known h) (IsBelow (a ++ (b ++ c))) (v ++ c) (a ++ w)
  pub relations : (r s : Word) → EitherWay p.relations r s → length r ≤ L → length s ≤ L
      → Linked (Known h) (IsShort L) r s
  -- each rule has made a word reducible
  pub count : length h.rules + still_reduced p.letters L h.rules ≤ length (words_up_to p.letters L)
