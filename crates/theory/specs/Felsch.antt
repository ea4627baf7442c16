-- Felsch's strategy: relations hold at all words, and the least undefined word is defined next
-- (Felsch 1961; Sims 1994, ch. 5).
use Rattle.std.specs.Prelude.{ℕ, suc, ◌≤◌, List, [], ◌∷◌, Contains}
use Rattle.theory.specs.Word.{Word, IsOver}
use Rattle.theory.specs.ShortLex.{◌≺◌}
use Rattle.theory.specs.Congruence.{Congruence}
use Rattle.theory.specs.Facts.{Facts, IsDefined, AllDefined}

-- the facts once the words D are defined: relations hold at every word
abbrev pub FelschFacts : Congruence → List Word → Word → Word → Type 0
FelschFacts c D = Facts c (Contains D) (λ w. Unit {0})

-- w is the least undefined word over k letters
pub record IsLeastUndefined (k : ℕ) (V : Word → Word → Type 0) (w : Word) : Type 0 where
  pub over : IsOver k w
  pub undefined : IsDefined V w → ⊥
  pub least : (v : Word) → IsOver k v → v ≺ w → IsDefined V v

-- after i definitions the words D have been defined, the newest first
pub data FelschStage (c : Congruence) : ℕ → List Word → Type 0 where
  start : FelschStage c 0 []
  define : {i : ℕ} {D : List Word} {w : Word}
      → FelschStage c i D → IsLeastUndefined c.presentation.letters (FelschFacts c D) w
      → FelschStage c (suc i) (w ∷ D)

-- all words are defined after at most n definitions
pub record FelschEnds (c : Congruence) (n : ℕ) : Type 0 where
  pub count : ℕ
  pub within : count ≤ n
  pub words : List Word
  pub stage : FelschStage c count words
  pub all : AllDefined c.presentation.letters (FelschFacts c words)
