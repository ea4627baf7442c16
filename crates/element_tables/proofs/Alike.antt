-- Relations that agree have the same classes, and the same Cayley graphs.
use Rattle.std.proofs.Common.{ℕ, List, [], ◌∷◌, ◌++◌, get_or, None, ◌↔◌}
use Rattle.theory.specs.Word.{Word}
use Rattle.theory.specs.ShortLex.{◌≺◌}
use Rattle.theory.specs.Class.{IsLeast, IsClassList}
use Rattle.theory.proofs.Listings.{list_same}
use Rattle.element_tables.specs.CayleyGraphs.{IsNumbered, AreCayleyGraphs}

abbrev pub AreAlike : (R S : Word → Word → Type 0) → Type 0
AreAlike R S = (u v : Word) → R u v ↔ S u v

least_to : (R S : Word → Word → Type 0) → AreAlike R S → (u : Word) → IsLeast R u → IsLeast S u
least_to R S alike u h = record { element = (alike u u).0 h.element; none_less = λ v s. h.none_less v ((alike u v).1 s) }

pub classes_alike : (R S : Word → Word → Type 0) → AreAlike R S → (words : List Word) → IsClassList R words → IsClassList S words
classes_alike R S alike = list_same (IsLeast R) (IsLeast S) ◌≺◌ (λ u. (least_to R S alike u, least_to S R (λ x y. ((alike x y).1, (alike x y).0)) u)) None

pub graphs_alike : (R S : Word → Word → Type 0) → AreAlike R S → (k : ℕ) (words : List Word) (right left : ℕ → ℕ → ℕ) → AreCayleyGraphs R k words right left → AreCayleyGraphs S k words right left
graphs_alike R S alike k words right left h = record {
  listed = classes_alike R S alike words h.listed;
  on_right = λ i a p q. number_kept (right i a) (get_or words i [] ++ a ∷ []) (h.on_right i a p q);
  on_left = λ i a p q. number_kept (left i a) (a ∷ get_or words i []) (h.on_left i a p q);
}
  where
    number_kept : (i : ℕ) (u : Word) → IsNumbered R words i u → IsNumbered S words i u
    number_kept i u at = (at.0, (alike u (get_or words i [])).0 at.1)
