-- Rules out of which those are taken in whose left sides a word stands.
use Rattle.std.specs.Prelude.{◌≡◌, ℕ, ◌+◌, List, [], ◌∷◌, cond, length, not, take, slice_index_or, Option, None, Some}
use Rattle.std.specs.List.{filter}
use Rattle.theory.specs.Word.{Word}
use Rattle.rewriting.specs.Rules.{stands_in}
use Rattle.rewriting.specs.declared.parts.Parts.{Parts}

-- the rules that are kept
abbrev pub kept_of : Word → List (Word × Word) → List (Word × Word)
kept_of left = filter (λ r. not (stands_in left r.0))

-- where each rule goes, when so many before the first are kept
abbrev pub places_of : Word → ℕ → List (Word × Word) → List (Option ℕ)
places_of left n [] = []
places_of left n (r ∷ rs) = cond (stands_in left r.0) None (Some n)
    ∷ places_of left (cond (stands_in left r.0) n (n + 1)) rs

-- where the rule at a place has gone, if there is one
abbrev pub through : List (Option ℕ) → Option ℕ → Option ℕ
through moved None = None
through moved (Some place) = slice_index_or moved place None

-- the rules that are kept, those that are gone, where each has gone, and how many of the first
-- ones, so many, are kept
pub record AreParts (left : Word) (rules : List (Word × Word)) (count : ℕ)
    (parts : Parts) : Type 0 where
  pub kept : parts.kept.items ≡ kept_of left rules
  pub gone : parts.gone.items ≡ filter (λ r. stands_in left r.0) rules
  pub moved : parts.moved.items ≡ places_of left 0 rules
  pub first : parts.first ≡ length (kept_of left (take count rules))
