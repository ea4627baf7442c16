-- Lists of rewriting rules (Knuth and Bendix 1970; Sims 1994, ch. 2).
use Rattle.std.specs.Prelude.{ℕ, Bool, ◌||◌, eqb, List, [], ◌∷◌, All}
use Rattle.std.specs.List.{starts_with}
use Rattle.theory.specs.Word.{Word, IsOver}
use Rattle.theory.specs.ShortLex.{◌≺◌}

-- each rule leads to a lesser word
abbrev pub AreFalling : List (Word × Word) → Type 0
AreFalling = All (λ r. r.1 ≺ r.0)

-- the sides of each rule are words over the first k letters
abbrev pub AreOver : ℕ → List (Word × Word) → Type 0
AreOver k = All (λ r. IsOver k r.0 × IsOver k r.1)

-- f stands somewhere in u
abbrev pub stands_in : Word → Word → Bool
stands_in f [] = starts_with eqb [] f
stands_in f (a ∷ u) = starts_with eqb (a ∷ u) f || stands_in f u
