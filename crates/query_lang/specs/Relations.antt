-- A presentation to which relations are added.
use Rattle.std.specs.Prelude.{ℕ, ◌≤◌, Bool, List, [], ◌∷◌, length, Contains}
use Rattle.theory.specs.Word.{Word, IsElement}
use Rattle.theory.specs.Congruence.{of_presentation, with_relations}
use Rattle.words.specs.Alphabet.{marker}
use Rattle.presentation.specs.Presented.{Presented, Posed}
use Rattle.problem.specs.declared.kinds.Problem.{Problem}
use Rattle.problem.specs.Problem.{of_problem}

-- the most relations
abbrev pub most_relations : ℕ
most_relations = 4096

-- the relations of a problem; generators have none
abbrev pub relations_of : Problem → List (Word × Word)
relations_of = of_problem (λ p. p.congruence.presentation.relations) (λ _ _ _. [])

-- a presentation without pairs
abbrev pub outlined : Presented → Posed
outlined p = record { alphabet = p.alphabet; congruence = of_presentation p.presentation }

-- the relations are not too many, and the marker is none of the letters
pub record IsOutline (o : Posed) : Type 0 where
  pub few : length o.congruence.presentation.relations ≤ most_relations
  pub unmarked : ¬ Contains o.alphabet marker

-- no relation yet: a free monoid or semigroup
abbrev pub free_over : Bool → List ℕ → Posed
free_over is_monoid alphabet = outlined
    (record {
      alphabet = alphabet;
      presentation = record
          { letters = length alphabet; is_monoid = is_monoid; relations = [] };
    })

-- the word is an element, as a side of a relation is
abbrev pub IsSide : Posed → Word → Type 0
IsSide o = IsElement o.congruence.presentation.is_monoid (length o.alphabet)

-- more relations, behind the others
abbrev pub add_relations : Posed → List (Word × Word) → Posed
add_relations o relations =
    record o {
      congruence = record o.congruence
          { presentation = with_relations o.congruence.presentation relations };
    }

-- one relation more
abbrev pub add_relation : Posed → Word × Word → Posed
add_relation o p = add_relations o (p ∷ [])
