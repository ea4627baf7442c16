-- What follows by letters alone, and what closed graphs have.
use Rattle.std.proofs.Common.{◌≡◌, ℕ, List, [], ◌∷◌, ◌++◌, sym, ◌∙◌, Some}
use Rattle.theory.specs.Word.{Word}
use Rattle.theory.specs.Facts.{Follows}
use Rattle.theory.proofs.PartLaws.{symmetric, transitive, extended}
use Rattle.theory.specs.Graph.{Graph, target, path, SameEnd, IsClosedAt}
use Rattle.theory.proofs.FactsLaws.{follows_least}
use Rattle.theory.proofs.GraphLaws.{path_append, path_front, path_letter, same_end_symm, same_end_trans, same_end_extended}
use Rattle.theory.proofs.Related.{none_either}

-- what follows by letters alone lies in whatever follows
pub follows_letters : (R P : List (Word × Word)) (U : Word → Type 0) (B C : Word → Word → Type 0) → ((u v : Word) → B u v → Follows R P C U u v)
    → (u v : Word) → Follows [] [] B (λ w. ⊥) u v → Follows R P C U u v
follows_letters R P U B C h u v =
    follows_least [] [] B (λ w. ⊥) (Follows R P C U) (record {
      given = h;
      symmetric = λ u v f. symmetric f;
      transitive = λ u v w f g. transitive f g;
      extended = λ u v a f g. extended u v a f g;
      relation = λ u w r s a f m e g k. absurd m;
      pair = λ r s a e g k. absurd (none_either r (s ++ a ∷ []) e);
    })

pub follows_left : (R P : List (Word × Word)) (U : Word → Type 0) (B : Word → Word → Type 0) (u v : Word) → Follows R P B U u v → Follows R P B U u u
follows_left R P U B u v f = transitive f (symmetric f)

-- one letter further
pub path_more : (g : Graph) (n m : ℕ) (u : Word) (a : ℕ) → path g n u ≡ Some m → path g n (u ++ a ∷ []) ≡ target g m a
path_more g n m u a e = path_append g n m u (a ∷ []) e ∙ path_letter g m a

-- a graph has what follows by letters alone from what its paths relate
pub graph_has_letters : (B : Word → Word → Type 0) (g : Graph) → ((u v : Word) → B u v → SameEnd g u v) → (u v : Word)
    → Follows [] [] B (λ w. ⊥) u v → SameEnd g u v
graph_has_letters B g h u v =
    follows_least [] [] B (λ w. ⊥) (SameEnd g) (record {
      given = h;
      symmetric = same_end_symm g;
      transitive = same_end_trans g;
      extended = λ u v a h k. same_end_extended g u v (a ∷ []) h k;
      relation = λ u w r s a f m e g k. absurd m;
      pair = λ r s a e g k. absurd (none_either r (s ++ a ∷ []) e);
    })

-- a closed graph has what follows from what its paths relate
pub graph_has_follows : (R P : List (Word × Word)) (U : Word → Type 0) (B : Word → Word → Type 0) (g : Graph)
    → ((u v : Word) → B u v → SameEnd g u v) → ((w : Word) (n : ℕ) → U w → path g 0 w ≡ Some n → IsClosedAt R g n) → IsClosedAt P g 0
    → (u v : Word) → Follows R P B U u v → SameEnd g u v
graph_has_follows R P U B g h closed front u v =
    follows_least R P B U (SameEnd g) (record {
      given = h;
      symmetric = same_end_symm g;
      transitive = same_end_trans g;
      extended = λ u v a h k. same_end_extended g u v (a ∷ []) h k;
      relation = λ u w r s a h m e k l.
          let first = path_front g 0 k.0 u r k.1 in
          let second = path_front g 0 l.0 u s l.1 in
          let here : path g 0 w ≡ Some first.0 = h.2 ∙ sym h.1 ∙ first.1 in
          let there : path g first.0 s ≡ Some l.0 = sym (path_append g 0 first.0 u s first.1) ∙ l.1 in
          let edge = closed w first.0 m here r s a k.0 l.0 e first.2 there in
          (k.0, k.1, path_append g 0 first.0 u (s ++ a ∷ []) first.1 ∙ path_append g first.0 l.0 s (a ∷ []) there ∙ path_letter g l.0 a ∙ edge);
      pair = λ r s a e k l.
          let edge = front r s a k.0 l.0 e k.1 l.1 in
          (k.0, k.1, path_append g 0 l.0 s (a ∷ []) l.1 ∙ path_letter g l.0 a ∙ edge);
    })
