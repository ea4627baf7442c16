-- Green's classes and idempotents, over the values of words alone (Howie 1995, ch. 2).
use Rattle.std.specs.Prelude.{◌≡◌, ℕ, false, List, [], ◌∷◌, ◌++◌, length, map, slice_index_or, None}
use Rattle.theory.specs.Word.{Word}
use Rattle.theory.specs.ShortLex.{◌≺◌}
use Rattle.theory.specs.Listing.{IsListOf}
use Rattle.theory.specs.Class.{IsLeast, IsClassList}
use Rattle.theory.specs.Green.{AreClasses, IsIdempotent}
use Rattle.theory.specs.declared.Relation.{Relation}
use Rattle.problem.specs.declared.kinds.Problem.{Problem}
use Rattle.problem.specs.Problem.{OfProblem, SameClassOf, letters_of, value_in}
use Rattle.green.specs.Told.{IsGreen}
use Rattle.report_lines.specs.Lines.{class_line, end_line, word_line}

-- Green's relation has the values of both words; words over relations have none
abbrev pub IsGreenOf : Relation → Problem → Word → Word → Type 0
IsGreenOf relation = OfProblem (λ _ _ _. ⊥)
    (λ _ kind p u v. IsGreen relation kind.product kind.equal (length p.generators)
    (value_in kind p) (value_in kind p u) (value_in kind p v))

-- the word's value is its own square
abbrev pub IsIdempotentOf : Problem → Word → Type 0
IsIdempotentOf = OfProblem (λ _ _. ⊥)
    (λ _ kind p u. IsIdempotent kind.product kind.equal (value_in kind p u))

-- Green's relation on the numbers of words
abbrev pub AreGreenAt : Relation → Problem → List Word → ℕ → ℕ → Type 0
AreGreenAt relation p words i j =
    IsGreenOf relation p (slice_index_or words i []) (slice_index_or words j [])

-- the lines of the classes of elements under Green's relation
pub record AreGreenLines (relation : Relation) (p : Problem) (lines : List (List ℕ)) : Type 0 where
  pub words : List Word
  pub listed : IsClassList (SameClassOf p) words
  pub classes : List (List ℕ)
  pub are_classes : AreClasses (length words) (AreGreenAt relation p words) classes
  pub are_lines : lines ≡ map (class_line (letters_of p) words) classes ++ end_line false ∷ []

-- the word is the least one of an idempotent
abbrev pub IsLeastIdempotent : Problem → Word → Type 0
IsLeastIdempotent p w = IsLeast (SameClassOf p) w × IsIdempotentOf p w

-- the lines of the idempotents
pub record AreIdempotentLines (p : Problem) (lines : List (List ℕ)) : Type 0 where
  pub words : List Word
  pub listed : IsListOf (IsLeastIdempotent p) ◌≺◌ None words
  pub are_lines : lines ≡ map (word_line (letters_of p)) words ++ end_line false ∷ []
