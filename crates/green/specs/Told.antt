-- What classes and idempotents say of the elements of a semigroup (Howie 1995, ch. 2).
use Rattle.std.specs.Prelude.{ℕ, Bool, List, Contains}
use Rattle.theory.specs.Word.{Word}
use Rattle.theory.specs.Green.{IsGreenR, IsGreenL, IsGreenH, IsGreenJ}
use Rattle.theory.specs.declared.Relation.{Relation}
use Rattle.theory.specs.declared.Relation.TheVariants.{R, L, H, J}

-- Green's relation on the values of words over k generators
abbrev pub IsGreen : Relation → {V : Type 0} → (V → V → V) → (V → V → Bool) → ℕ → (Word → V) → V
    → V → Type 0
IsGreen R product equal k value_of x y = IsGreenR product equal k value_of x y
IsGreen L product equal k value_of x y = IsGreenL product equal k value_of x y
IsGreen H product equal k value_of x y = IsGreenH product equal k value_of x y
IsGreen J product equal k value_of x y = IsGreenJ product equal k value_of x y

-- two numbers stand in one class
abbrev pub StandTogether : List (List ℕ) → ℕ → ℕ → Type 0
StandTogether classes i j = (c : List ℕ) × Contains classes c × Contains c i × Contains c j
