-- Pairs that lines add to a problem.
use Rattle.std.specs.Prelude.{◌≡◌, ℕ, ◌≤◌, Bool, true, false, length, Contains, Result, Ok}
use Rattle.theory.specs.declared.Kind.{Kind}
use Rattle.theory.specs.declared.Kind.TheVariants.{TwoSided, Right, Left}
use Rattle.theory.specs.Word.{Word}
use Rattle.words.specs.Alphabet.{marker}
use Rattle.problem.specs.declared.kinds.Problem.{Problem}
use Rattle.problem.specs.Problem.{is_presented, letters_of, pairs_of, with_pair}
use Rattle.line_parts.specs.declared.cause.Cause.{Cause}
use Rattle.line_parts.specs.Outcome.{and_then}
use Rattle.query_lang.specs.Relations.{most_relations, relations_of}

-- the most pairs
abbrev pub most_pairs : ℕ
most_pairs = 4096

-- neither the relations nor the pairs are too many, and the marker is none of the letters of a
-- presentation
pub record IsPairable (p : Problem) : Type 0 where
  pub few_relations : length (relations_of p) ≤ most_relations
  pub few_pairs : length (pairs_of p) ≤ most_pairs
  pub unmarked : is_presented p ≡ true → ¬ Contains (letters_of p) marker

abbrev pub is_same_kind : Kind → Kind → Bool
is_same_kind TwoSided TwoSided = true
is_same_kind Right Right = true
is_same_kind Left Left = true
is_same_kind j k = false

-- the problem with the pair of a line
abbrev pub paired : Problem → Kind → Result (Word × Word) Cause → Result Problem Cause
paired p kind pair = and_then (λ s. Ok (with_pair p kind s)) pair
