-- What a completion logs: facts that follow from the relations, or nothing.
use Rattle.std.specs.Prelude.{◌≡◌, ℕ, ◌<◌, Bool, true, ◌&&◌, ◌==◌, List, [], ◌∷◌, ◌++◌, Option, None, Some, slice_get, All, Contains, MatchOption}
use Rattle.std.specs.Cmp.Lexicographic.{pointwise}
use Rattle.theory.specs.Word.{Word}
use Rattle.theory.specs.Congruence.{Presentation}
use Rattle.theory.specs.PlacedStep.{LeadTo}
use Rattle.theory.specs.ShortLex.{◌≺◌}
use Rattle.chains.specs.Chains.{steps_of}
use Rattle.chains.specs.Derivations.{Derived, all_of}
use Rattle.chains.specs.declared.derivations.Fact.{Fact}
use Rattle.chains.specs.declared.steps.ChainStep.{ChainStep}
use Rattle.rewriting.specs.declared.traces.Applied.{Applied}

-- whether both words of two pairs are equal
abbrev pub same_words : Word × Word → Word × Word → Bool
same_words p q = pointwise ◌==◌ p.0 q.0 && pointwise ◌==◌ p.1 q.1

-- the number of a pair of words is that of a relation; the first relations, so many, have numbers
abbrev pub AreNumbersOf : List (Word × Word) → ℕ → (Word × Word → Option ℕ) → Type 0
AreNumbersOf relations count numbers = (pair : Word × Word) → MatchOption (numbers pair)
    ((place : ℕ) → place < count → slice_get relations place ≡ Some pair → ⊥)
    (λ number. slice_get relations number ≡ Some pair)

-- steps over what is logged lead from u to v, if something is
abbrev pub Shows : Option Derived → Word → List ChainStep → Word → Type 0
Shows None u steps v = Unit {0}
Shows (Some d) u steps v = LeadTo (all_of d) u (steps_of steps) v

-- facts may have been added
abbrev pub Grows : Option Derived → Option Derived → Type 0
Grows None new = new ≡ None
Grows (Some d) new = (more : List Fact)
    × (new ≡ Some (record { presentation = d.presentation; facts = d.facts ++ more }))

-- the step is by the relation or fact of the rule that is applied, at its place
pub record IsFor (rules relations : List (Word × Word)) (at : Applied)
    (step : ChainStep) : Type 0 where
  pub place : step.place ≡ at.place
  pub forward : step.forward ≡ true
  pub same : (sides : Word × Word) → slice_get rules at.rule ≡ Some sides
      → slice_get relations step.relation ≡ Some sides

-- each step is that of a rule that is applied
abbrev pub AreFor : List (Word × Word) → List (Word × Word) → List Applied → List ChainStep
    → Type 0
AreFor rules relations [] [] = Unit {0}
AreFor rules relations (at ∷ trace) (step ∷ steps) = IsFor rules relations at step
    × AreFor rules relations trace steps
AreFor rules relations [] (step ∷ steps) = ⊥
AreFor rules relations (at ∷ trace) [] = ⊥

-- the log is of facts that follow from the presentation, if something is logged
abbrev pub IsLogOf : Presentation → Option Derived → Type 0
IsLogOf p None = Unit {0}
IsLogOf p (Some d) = d.presentation ≡ p

-- the pair is a relation or a fact of the log, if something is logged
abbrev pub IsLogged : Option Derived → Word × Word → Type 0
IsLogged None pair = Unit {0}
IsLogged (Some d) pair = Contains (all_of d).relations pair

-- each pair is a relation or a fact of the log, if something is logged
abbrev pub AreLogged : Option Derived → List (Word × Word) → Type 0
AreLogged log = All (IsLogged log)

-- the rule that two words make, where they differ, is logged
pub record LogsRule (log : Option Derived) (left right : Word) : Type 0 where
  pub less : left ≺ right → IsLogged log (right, left)
  pub greater : right ≺ left → IsLogged log (left, right)

-- the rules and the equations are logged
pub record LogsHeld (log : Option Derived) (rules equations : List (Word × Word)) : Type 0 where
  pub each_rule : AreLogged log rules
  pub each_equation : AreLogged log equations

-- facts may have been added to the log, and the rules and the equations are logged
pub record KeepsLog (old new : Option Derived) (rules equations : List (Word × Word)) : Type 0 where
  pub grows : Grows old new
  pub held : LogsHeld new rules equations
