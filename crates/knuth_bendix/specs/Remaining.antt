-- How many words within the bound no rule applies to.
use Rattle.std.specs.Prelude.{ℕ, zero, suc, Bool, not, List, [], ◌∷◌, ◌++◌, map, count_by}
use Rattle.std.specs.List.{list_any}
use Rattle.theory.specs.Word.{Word}
use Rattle.rewriting.specs.Rules.{stands_in}

-- each of the first k letters in front of each word
abbrev pub with_first_letter : ℕ → List Word → List Word
with_first_letter zero ws = []
with_first_letter (suc a) ws = map (λ w. a ∷ w) ws ++ with_first_letter a ws

-- the words over the first k letters with at most L letters
abbrev pub words_up_to : ℕ → ℕ → List Word
words_up_to k zero = [] ∷ []
words_up_to k (suc n) = [] ∷ with_first_letter k (words_up_to k n)

-- no left side of the rules stands in u
abbrev pub is_free : List (Word × Word) → Word → Bool
is_free rules u = not (list_any (λ q. stands_in q.0 u) rules)

-- how many of the words are free
abbrev pub still_reduced : ℕ → ℕ → List (Word × Word) → ℕ
still_reduced k L rules = count_by (is_free rules) (words_up_to k L)
