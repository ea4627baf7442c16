-- The words of classes are elements.
use Rattle.std.proofs.Common.{◌≡◌, ℕ, ◌<◌, Bool, true, false, true≢false, All, List, [], ◌∷◌, length, get_or, Option, None, Some, arith}
use Rattle.std.proofs.lemmas.List.Elements.{All-cons}
use Rattle.theory.specs.Word.{Word, IsElement, IsOver}
use Rattle.theory.specs.ShortLex.{◌≺◌}
use Rattle.theory.specs.Listing.{IsListOf, IsStartOf}
use Rattle.theory.specs.Class.{IsLeast, IsClassList, IsReducedRule, RuleBefore, IsRuleList}
use Rattle.froidure_pin.proofs.Starts.{in_at, start_has}
use Rattle.problem.specs.declared.kinds.Problem.{Problem}
use Rattle.problem.specs.declared.kinds.Problem.TheVariants.{Presented, Transf, PPerm, BMat, MaxPlus}
use Rattle.problem.specs.Problem.{SameClassOf, SameValueOf, HasOneShape, IsWellPosed, count_of, is_presented}

element_over : (empty : Bool) (k : ℕ) (u : Word) → IsElement empty k u → IsOver k u
element_over true k u h = h
element_over false k u h = h.1

-- related words are over the letters
pub class_over : (p : Problem) (u v : Word) → SameClassOf p u v → IsOver (count_of p) u
class_over (Presented p) u v h = element_over p.congruence.presentation.is_monoid p.congruence.presentation.letters u h.left
class_over (Transf p) u v h = h.left.1
class_over (PPerm p) u v h = h.left.1
class_over (BMat p) u v h = h.left.1
class_over (MaxPlus p) u v h = h.left.1

-- words of equal values are over the letters
pub value_over : (p : Problem) (u v : Word) → SameValueOf p u v → IsOver (count_of p) u
value_over (Presented p) u v h = absurd h
value_over (Transf p) u v h = h.left.1
value_over (PPerm p) u v h = h.left.1
value_over (BMat p) u v h = h.left.1
value_over (MaxPlus p) u v h = h.left.1

-- the sides of rules are over the letters
pub rules_over : (p : Problem) (rules : List (Word × Word)) → IsRuleList (SameClassOf p) rules → All (λ r. IsOver (count_of p) r.0 × IsOver (count_of p) r.1) rules
rules_over p rules listed = sides None rules listed
  where
    sides : (cursor : Option (Word × Word)) (ps : List (Word × Word)) → IsListOf (λ r. IsReducedRule (SameClassOf p) r.0 r.1) RuleBefore cursor ps → All (λ r. IsOver (count_of p) r.0 × IsOver (count_of p) r.1) ps
    sides cursor [] h = λ i d l. absurd (omega arith)
    sides cursor (r ∷ ps) h =
        let normal = h.0.has.normal in
        All-cons (λ r. IsOver (count_of p) r.0 × IsOver (count_of p) r.1) r ps (class_over p r.0 r.1 normal.related, class_over p r.1 r.1 normal.least.element) (sides (Some r) ps h.1)

-- generators are of one shape
pub one_shape : (p : Problem) → is_presented p ≡ false → IsWellPosed p → HasOneShape p
one_shape (Presented p) generated posed = absurd (true≢false generated)
one_shape (Transf p) generated posed = posed.one_shape
one_shape (PPerm p) generated posed = posed.one_shape
one_shape (BMat p) generated posed = posed.one_shape
one_shape (MaxPlus p) generated posed = posed.one_shape

pub list_start : (P : Word → Type 0) (cursor : Option Word) (words : List Word) → IsListOf P ◌≺◌ cursor words → IsStartOf P ◌≺◌ cursor words
list_start P cursor [] h = tt
list_start P cursor (w ∷ words) h = (h.0, list_start P (Some w) words h.1)

-- all words of a list of classes are least
pub listed_least : (R : Word → Word → Type 0) (words : List Word) → IsClassList R words → (i : ℕ) → i < length words → IsLeast R (get_or words i [])
listed_least R words listed i within = start_has (IsLeast R) None words (list_start (IsLeast R) None words listed) (get_or words i []) (in_at words i [] within)
