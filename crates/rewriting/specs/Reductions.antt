-- Reduction of a word with a stack of states.
use Rattle.std.specs.Prelude.{◌≡◌, ℕ, suc, ◌+◌, ◌-◌, ◌*◌, ◌≤◌, max, List, [], ◌∷◌, ◌++◌, length, take, reverse, slice_index_or, Option}
use Rattle.theory.specs.Word.{Word, IsOver}
use Rattle.theory.specs.Completion.{IsReduced, Listed, Reduces}
use Rattle.rewriting.specs.States.{IsLongest, IsStep}
use Rattle.rewriting.specs.declared.reductions.Reduction.{Reduction}

-- the number that the letters after a number make, the first letter most significant
abbrev pub rank_from : ℕ → ℕ → Word → ℕ
rank_from k n [] = n
rank_from k n (a ∷ u) = rank_from k (n * k + suc a) u

-- the place of a word over k letters
abbrev pub rank : ℕ → Word → ℕ
rank k = rank_from k 0

-- one more than the greatest letter of a word
abbrev pub letters_in : Word → ℕ
letters_in [] = 0
letters_in (a ∷ u) = max (suc a) (letters_in u)

-- one more than the greatest letter of rules
abbrev pub letters_in_rules : List (Word × Word) → ℕ
letters_in_rules [] = 0
letters_in_rules (r ∷ rs) = max (max (letters_in r.0) (letters_in r.1)) (letters_in_rules rs)

-- as many letters as a word and rules need
abbrev pub letters_for : List (Word × Word) → Word → ℕ
letters_for rules u = max (letters_in u) (letters_in_rules rules)

-- the rules lead from the word to what is done and what is left, backwards; what is done is
-- reduced, and the stack has the longest state at the end of each front of it
pub record IsReducing (rules : List (Word × Word)) (states : List Word) (word done rest : Word)
    (path : List ℕ) : Type 0 where
  pub over : IsOver (letters_for rules word) (done ++ reverse rest)
  pub reaches : Reduces (Listed rules) word (done ++ reverse rest)
  pub short : length done + length rest ≤ length word
  pub reduced : IsReduced (Listed rules) done
  pub count : length path ≡ length done + 1
  pub longest : (i : ℕ) → i ≤ length done → IsLongest states (take i done) (slice_index_or path i 0)

-- the place of the word, and then the letters that are left
abbrev pub weight : List (Word × Word) → Word → Word → Word → ℕ
weight rules word done rest = rank (letters_for rules word) (done ++ reverse rest) * suc
    (length word) + length rest

-- a reduction of the word with the stack of these states
abbrev pub IsReductionBy : List (Word × Word) → List Word → Word → Reduction → Type 0
IsReductionBy rules states word r =
    IsReducing rules states word r.done.items r.rest.items r.states.items

-- the same, but that the letter is read next
abbrev pub IsReductionAt : List (Word × Word) → List Word → Word → ℕ → Reduction → Type 0
IsReductionAt rules states word letter r =
    IsReducing rules states word r.done.items (r.rest.items ++ letter ∷ []) r.states.items

-- a reduction of the word, but that the letter is read next, where a left side or else a state
-- ends
pub record IsAtStep (rules : List (Word × Word)) (states : List Word) (word : Word) (r : Reduction)
    (letter : ℕ) (to : ℕ × Option ℕ) : Type 0 where
  pub reducing : IsReducing rules states word r.done.items (r.rest.items ++ letter ∷ [])
      r.states.items
  pub step : IsStep rules states (r.done.items ++ letter ∷ []) to.0 to.1

-- the weight of a reduction
abbrev pub weight_of : List (Word × Word) → Word → Reduction → ℕ
weight_of rules word r = weight rules word r.done.items r.rest.items

-- the weight of a reduction, with the letter that is read next
abbrev pub weight_at : List (Word × Word) → Word → ℕ → Reduction → ℕ
weight_at rules word letter r = weight rules word r.done.items (r.rest.items ++ letter ∷ [])

-- how many letters stay done where the left side ends at the next letter
abbrev pub kept : Reduction → Word → ℕ
kept r left = length r.done.items - (length left - 1)
