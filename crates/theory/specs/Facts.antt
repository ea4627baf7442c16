-- What a partial coset table knows (Todd and Coxeter 1936; Sims 1994, ch. 5). A word is defined
-- where it is related to itself.
use Rattle.std.specs.Prelude.{◌≡◌, ℕ, List, [], ◌∷◌, ◌++◌, ◌⊎◌, Contains}
use Rattle.theory.specs.Word.{Word, IsOver}
use Rattle.theory.specs.Congruence.{Congruence, EitherWay}

-- relations are read at the words that are related to one of U, pairs at the empty word
module _ (relations pairs : List (Word × Word)) (Given : Word → Word → Type 0)
    (U : Word → Type 0) where
  -- what is given, and what V makes known of two words
  pub data Part (V : Word → Word → Type 0) : Word → Word → Type 0 where
    given : {u v : Word} → Given u v → Part V u v
    symmetric : {u v : Word} → V u v → Part V v u
    transitive : {u v w : Word} → V u v → V v w → Part V u w
    -- related words, each with the same letter at its end
    extended : (u v : Word) (a : ℕ)
        → V u v → V (u ++ a ∷ []) (u ++ a ∷ [])
        → Part V (u ++ a ∷ []) (v ++ a ∷ [])
    -- a relation read at u, all but its last letter defined
    relation : (u w r s : Word) (a : ℕ)
        → V u w → U w → EitherWay relations r (s ++ a ∷ [])
        → V (u ++ r) (u ++ r) → V (u ++ s) (u ++ s)
        → Part V (u ++ r) (u ++ (s ++ a ∷ []))
    -- a pair, all but its last letter defined
    pair : (r s : Word) (a : ℕ)
        → EitherWay pairs r (s ++ a ∷ []) → V r r → V s s
        → Part V r (s ++ a ∷ [])

  -- V has its parts
  abbrev pub HasParts : (Word → Word → Type 0) → Type 0
  HasParts V = (u v : Word) → Part V u v → V u v

  -- the least relation that has its parts: what is a part of finitely many facts, each of which
  -- follows
  pub data Follows : Word → Word → Type 0 where
    from_facts : {u v : Word} (facts : List (Word × Word))
        → ((x y : Word) → Contains facts (x, y) → Follows x y)
        → Part (λ x y. Contains facts (x, y)) u v → Follows u v

-- the empty word and each word of D are related to themselves
abbrev pub Defines : (Word → Type 0) → Word → Word → Type 0
Defines D u v = (u ≡ v) × ((u ≡ []) ⊎ D u)

-- what follows once the words D are defined, with relations read at the words U
abbrev pub Facts : Congruence → (Word → Type 0) → (Word → Type 0) → Word → Word → Type 0
Facts c D U = Follows c.presentation.relations c.pairs (Defines D) U

-- V has the parts of which Facts is the least relation
abbrev pub HasFacts : Congruence → (Word → Type 0) → (Word → Type 0) → (Word → Word → Type 0)
    → Type 0
HasFacts c D U = HasParts c.presentation.relations c.pairs (Defines D) U

-- what follows once x and y are one, and no relation is read
abbrev pub Merged : (Word → Word → Type 0) → Word → Word → Word → Word → Type 0
Merged V x y = Follows [] [] (λ u v. V u v ⊎ ((u ≡ x) × (v ≡ y))) (λ w. ⊥)

-- what follows when the relations are read at the words related to x, and the pairs
abbrev pub ClosedAt : Congruence → (Word → Word → Type 0) → Word → Word → Word → Type 0
ClosedAt c V x = Follows c.presentation.relations c.pairs V (λ w. w ≡ x)

-- what follows when the relations are read at every word, and the pairs
abbrev pub ClosedAll : Congruence → (Word → Word → Type 0) → Word → Word → Type 0
ClosedAll c V = Follows c.presentation.relations c.pairs V (λ w. Unit {0})

-- a word is defined where it is related to itself
abbrev pub IsDefined : (Word → Word → Type 0) → Word → Type 0
IsDefined V w = V w w

-- every word over k letters is defined
abbrev pub AllDefined : ℕ → (Word → Word → Type 0) → Type 0
AllDefined k V = (w : Word) → IsOver k w → IsDefined V w
