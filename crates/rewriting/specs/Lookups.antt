-- How rules that change are found: by a table of those that were there when it was made, and the
-- newer ones by their last letters.
use Rattle.std.specs.Prelude.{◌≡◌, ℕ, ◌<◌, ◌≤◌, List, [], ◌∷◌, ◌++◌, length, slice_index_or, Option, None, Some}
use Rattle.theory.specs.Word.{Word, IsFactor}
use Rattle.theory.specs.Completion.{IsReduced, Listed}
use Rattle.rewriting.specs.Rules.{AreFalling}
use Rattle.rewriting.specs.States.{IsLongest}
use Rattle.rewriting.specs.Tables.{Moves, IsTableOf}
use Rattle.rewriting.specs.Tries.{left_at, words_of}
use Rattle.rewriting.specs.Newer.{AreNewer}
use Rattle.rewriting.specs.Reductions.{IsReducing}
use Rattle.rewriting.specs.declared.lookups.Lookup.{Lookup}
use Rattle.rewriting.specs.declared.reductions.Reduction.{Reduction}

-- the word stands at the end of u
pub record StandsLast (u word : Word) : Type 0 where
  pub before : Word
  pub is : u ≡ before ++ word

-- the table of no rule: the empty word alone, and no letter
abbrev pub no_moves : Moves
no_moves = record {
  letters = 0;
  prefixes = record { rule = 0; count = 0 } ∷ [];
  targets = [];
  ends = [];
}

-- the table, if there is one
abbrev pub moves_or_none : Option Moves → Moves
moves_or_none None = no_moves
moves_or_none (Some moves) = moves

-- the table of a lookup
abbrev pub moves_of : Lookup → Moves
moves_of lookup = moves_or_none lookup.table

-- where the rule of a number in the table stands now; where it is gone, the left side of a newer
-- rule stands in its own
abbrev pub IsPlaced : List (Word × Word) → ℕ → Word → Option ℕ → Type 0
IsPlaced rules first left (Some place) = (place < length rules) × (left_at rules place ≡ left)
IsPlaced rules first left None =
    (place : ℕ) × (first ≤ place) × (place < length rules) × IsFactor (left_at rules place) left

-- the lookup finds the rules: its table is that of some rules, and the rules before the first newer
-- one are among these
pub record IsLookup (rules : List (Word × Word)) (lookup : Lookup) : Type 0 where
  pub letters : ℕ
  pub tabled : List (Word × Word)
  pub falling : AreFalling tabled
  pub table : IsTableOf letters tabled (moves_of lookup)
  pub few : lookup.first ≤ length rules
  pub known : (place : ℕ) → place < lookup.first
      → (number : ℕ) × (number < length tabled) × (left_at tabled number ≡ left_at rules place)
  pub count : length lookup.places.items ≡ length tabled
  pub placed : (number : ℕ) → number < length tabled
      → IsPlaced rules lookup.first (left_at tabled number)
      (slice_index_or lookup.places.items number None)
  pub newer : AreNewer rules lookup.first lookup.newer

-- the states of the table
abbrev pub states_by : {rules : List (Word × Word)} {lookup : Lookup} → IsLookup rules lookup
    → List Word
states_by {lookup = lookup} is = words_of is.tabled (moves_of lookup).prefixes

-- a reduced word has been read, at whose end the state is the longest one
pub record IsAtLetter (rules : List (Word × Word)) (lookup : Lookup) (done : Word)
    (state : ℕ) : Type 0 where
  pub is : IsLookup rules lookup
  pub reduced : IsReduced (Listed rules) done
  pub longest : IsLongest (states_by is) done state

-- and its states
abbrev pub reads_to : {rules : List (Word × Word)} {lookup : Lookup} {done : Word} {state : ℕ}
    → IsAtLetter rules lookup done state → List Word
reads_to at = states_by at.is

-- a reduction by the rules, with the stack of the states of the table
pub record IsReducingBy (rules : List (Word × Word)) (lookup : Lookup) (word done rest : Word)
    (path : List ℕ) : Type 0 where
  pub is : IsLookup rules lookup
  pub reducing : IsReducing rules (states_by is) word done rest path

-- a reduction of the word
abbrev pub IsRewriting : List (Word × Word) → Lookup → Word → Reduction → Type 0
IsRewriting rules lookup word r =
    IsReducingBy rules lookup word r.done.items r.rest.items r.states.items

-- a reduction of the word, but that the letter is read next
abbrev pub IsRewritingAt : List (Word × Word) → Lookup → Word → ℕ → Reduction → Type 0
IsRewritingAt rules lookup word letter r =
    IsReducingBy rules lookup word r.done.items (r.rest.items ++ letter ∷ []) r.states.items
