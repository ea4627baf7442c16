-- Answers that a scripted racer gives in turn.
use Rattle.std.specs.Prelude.{◌≡◌, ◌≢◌, ℕ, List, [], ◌∷◌, drop}
use Rattle.race.specs.declared.engines.Progress.{Progress}
use Rattle.race.specs.declared.engines.Progress.TheVariants.{More}

-- the last of them
abbrev pub final_of : List Progress → Progress
final_of [] = More
final_of (p ∷ []) = p
final_of (p ∷ q ∷ rest) = final_of (q ∷ rest)

-- More any number of times, or never, then one other answer
abbrev pub IsScript : List Progress → Type 0
IsScript [] = ⊥
IsScript (p ∷ []) = p ≢ More
IsScript (p ∷ q ∷ rest) = (p ≡ More) × IsScript (q ∷ rest)

-- the whole script, the answers that are left, and the last answer
pub record Scripting : Type 0 where
  pub script : List Progress
  pub left : List Progress
  pub last : Progress

-- after so many answers, of which this was the last
abbrev pub scripting : List Progress → ℕ → Progress → Scripting
scripting script count last = record { script = script; left = drop count script; last = last }

-- while it goes on it has a script left that ends as the whole one does
abbrev pub IsScripting : Scripting → Type 0
IsScripting s =
    (s.last ≡ More → IsScript s.left × (final_of s.left ≡ final_of s.script))
    × (s.last ≢ More → s.last ≡ final_of s.script)
