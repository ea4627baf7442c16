-- The strategy of Haselgrove, Leech and Trotter with lookahead: the relations are traced at one
-- word after another, and from time to time read at all words, without a definition (Sims 1994,
-- ch. 5; Holt, Eick and O'Brien 2005, ch. 5).
use Rattle.std.specs.Prelude.{◌≡◌, ℕ, suc, ◌<◌, ◌≤◌, ◌%◌, nat_lt, ◌==◌, Bool, IsTrue, ◌&&◌, cond, List, [], ◌∷◌, ◌++◌, length, ◌⊎◌, Contains}
use Rattle.theory.specs.Word.{Word, IsPrefix}
use Rattle.theory.specs.ShortLex.{◌≺◌}
use Rattle.theory.specs.Congruence.{Congruence, EitherWay}
use Rattle.theory.specs.Facts.{Follows, Defines, ClosedAll, IsDefined, AllDefined}

-- r is a side of a pair in the list
abbrev pub IsSide : List (Word × Word) → Word → Type 0
IsSide pairs r = (s : Word) × EitherWay pairs r s

-- v is a prefix of x and a side of a pair in the list
abbrev pub IsTraced : List (Word × Word) → Word → Word → Type 0
IsTraced pairs x v = (side : Word) × IsSide pairs side × IsPrefix v (x ++ side)

-- v is w and a letter
abbrev pub IsExtension : ℕ → Word → Word → Type 0
IsExtension k w v = (a : ℕ) × (a < k) × (v ≡ w ++ a ∷ [])

-- the row of w defines v
abbrev pub IsInRow : Congruence → Word → Word → Type 0
IsInRow c w v = IsExtension c.presentation.letters w v ⊎ IsTraced c.presentation.relations w v

-- the pairs, or the row of a word of U, define v
abbrev pub HltDefines : Congruence → List Word → Word → Type 0
HltDefines c U v = IsTraced c.pairs [] v ⊎ ((w : Word) × Contains U w × IsInRow c w v)

-- what follows from the rows of the words U and from what lookaheads have drawn, G
abbrev pub FactsFrom : Congruence → (Word → Word → Type 0) → List Word → Word → Word → Type 0
FactsFrom c G U = Follows c.presentation.relations c.pairs
    (λ u v. Defines (HltDefines c U) u v ⊎ G u v) (Contains U)

-- how many rows are made from one lookahead to the next
abbrev pub lookahead_rows : ℕ
lookahead_rows = 100

-- whether a lookahead comes after the row of this number
abbrev pub has_lookahead : ℕ → Bool
has_lookahead i = nat_lt 0 i && (i % lookahead_rows == 0)

-- what lookaheads have drawn once the words U have had their row, the newest first: at a lookahead
-- all that follows when relations are read at every word, and else what was drawn before
abbrev pub Drawn : Congruence → List Word → Word → Word → Type 0
Drawn c [] = λ u v. ⊥
Drawn c (w ∷ U) = cond (has_lookahead (length (w ∷ U)))
    (ClosedAll c (FactsFrom c (Drawn c U) (w ∷ U))) (Drawn c U)

-- the facts once the words U have had their row
abbrev pub HltFacts : Congruence → List Word → Word → Word → Type 0
HltFacts c U = FactsFrom c (Drawn c U) U

-- w is related to a word of the list
abbrev pub IsMet : (Word → Word → Type 0) → List Word → Word → Type 0
IsMet V U w = (v : Word) × Contains U v × V w v

-- w is the least defined word that is related to none of the list
pub record IsLeastUnmet (V : Word → Word → Type 0) (U : List Word) (w : Word) : Type 0 where
  pub defined : IsDefined V w
  pub unmet : IsMet V U w → ⊥
  pub least : (v : Word) → IsDefined V v → v ≺ w → IsMet V U v

-- after i rows the words U have had their row, the newest first
pub data HltStage (c : Congruence) : ℕ → List Word → Type 0 where
  start : HltStage c 0 []
  row : {i : ℕ} {U : List Word} {w : Word}
      → HltStage c i U → IsLeastUnmet (HltFacts c U) U w
      → HltStage c (suc i) (w ∷ U)

-- every defined word is related to one that had its row
abbrev pub AllMet : Congruence → List Word → Type 0
AllMet c U = (w : Word) → IsDefined (HltFacts c U) w → IsMet (HltFacts c U) U w

-- that is so, or all words are defined after a lookahead
abbrev pub HasEnded : Congruence → List Word → Type 0
HasEnded c U = AllMet c U
    ⊎ (IsTrue (has_lookahead (length U)) × AllDefined c.presentation.letters (HltFacts c U))

-- that is so after at most m rows
pub record HltEnds (c : Congruence) (m : ℕ) : Type 0 where
  pub count : ℕ
  pub within : count ≤ m
  pub words : List Word
  pub stage : HltStage c count words
  pub ended : HasEnded c words
