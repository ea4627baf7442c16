-- The table of the root alone.
use Rattle.std.proofs.Common.{◌≡◌, ℕ, [], ◌∷◌, refl, Option, Some, None, replicate, option_and_then}
use Rattle.theory.specs.Word.{Word}
use Rattle.theory.specs.Graph.{target, path}
use Rattle.cells.proofs.EntryLaws.{target_bare}

-- no word but the empty one has a path
pub root_end : (k n : ℕ) (u : Word) → path (replicate k None ∷ []) 0 u ≡ Some n → u ≡ []
root_end k n [] e = refl
root_end k n (a ∷ u) e = go (target (replicate k None ∷ []) 0 a) (target_bare 1 k 0 a) e
  where
    go : (t : Option ℕ) → t ≡ None → option_and_then (λ next. path (replicate k None ∷ []) next u) t ≡ Some n → a ∷ u ≡ []
    go None h e = absurd (let bad : ⊥ = cc in bad)
    go (Some m) h e = absurd (let bad : ⊥ = cc in bad)
