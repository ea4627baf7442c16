-- Relations by which a letter is an identity or a zero, or letters are inverse.
use Rattle.std.specs.Prelude.{ℕ, zero, suc, ◌==◌, List, [], ◌∷◌, ◌++◌, Option, option_to_list, if◌then◌else◌, All, Contains}
use Rattle.theory.specs.Word.{Word}
use Rattle.theory.specs.Congruence.{Presentation}

-- both products of two letters are the word: (xy, w) and, where x and y differ, (yx, w)
abbrev pub both_products : ℕ → ℕ → Word → List (Word × Word)
both_products x y w = (x ∷ y ∷ [], w) ∷ (if x == y then [] else (y ∷ x ∷ [], w) ∷ [])

-- for each of the first k letters x, in order, both products of x and a are the word of x
abbrev pub products_with : ℕ → (ℕ → Word) → ℕ → List (Word × Word)
products_with a word_of zero = []
products_with a word_of (suc x) = products_with a word_of x ++ both_products x a (word_of x)

-- for each of the first k letters x: (xe, x) and, for x other than e, (ex, x)
abbrev pub identity_relations : ℕ → ℕ → List (Word × Word)
identity_relations k e = products_with e (λ x. x ∷ []) k

-- for each of the first k letters x: (xz, z) and, for x other than z, (zx, z)
abbrev pub zero_relations : ℕ → ℕ → List (Word × Word)
zero_relations k z = products_with z (λ x. z ∷ []) k

-- (xy, 1) and, where x and y differ, (yx, 1); with the letter e, if there is one, for the word 1
abbrev pub inverse_relations : ℕ → ℕ → Option ℕ → List (Word × Word)
inverse_relations x y e = both_products x y (option_to_list e)

-- each of these is a relation of p
abbrev pub HasRelations : Presentation → List (Word × Word) → Type 0
HasRelations p pairs = All (Contains p.relations) pairs
