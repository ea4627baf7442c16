-- Queries, and the words and tables in them.
use Rattle.std.specs.Prelude.{◌≡◌, ℕ, ◌≤◌, Bool, true, false, List, [], length, Some, None}
use Rattle.theory.specs.Word.{IsElement, Word}
use Rattle.problem.specs.declared.kinds.Problem.{Problem}
use Rattle.problem.specs.Problem.{allows_rules, has_empty_word, is_presented, letters_of, pairs_of}
use Rattle.line_parts.specs.Tables.{IsCongruenceTable, IsLowTable}
use Rattle.query_lang.specs.declared.form.QueryForm.{QueryForm}
use Rattle.query_lang.specs.declared.form.QueryForm.TheVariants as query_form
use Rattle.query_lang.specs.declared.script.Query.{Query}
use Rattle.query_lang.specs.declared.script.Query.TheVariants.{Index, Equal, Normal, Classes, RuleList, ElementOf, Cayley, LowIndex, Meet, Join, Chain, Green, Idempotents}
use Rattle.query_lang.specs.Forms.{Scripts, AllScripts, OfRelations, OfGenerators, Pairs, AnyPairs, TwoSidedPairs, NoPairs, row_of}
use Rattle.query_lang.specs.Relations.{relations_of}

-- from 1 to 16 classes, and at most 1,000,000 tables
abbrev pub AreLimits : ℕ → ℕ → Type 0
AreLimits classes count = (1 ≤ classes) × (classes ≤ 16) × (count ≤ 1000000)

-- each word of the query is an element over k letters, its tables are over them, the relations hold
-- at those of a meet or a join, and the limits of a search are in their ranges
abbrev pub IsQueryOver : Bool → ℕ → List (Word × Word) → Query → Type 0
IsQueryOver empty k relations Index = Unit {0}
IsQueryOver empty k relations (Equal u v) = IsElement empty k u × IsElement empty k v
IsQueryOver empty k relations (Normal u) = IsElement empty k u
IsQueryOver empty k relations (Classes count None) = Unit {0}
IsQueryOver empty k relations (Classes count (Some u)) = IsElement empty k u
IsQueryOver empty k relations RuleList = Unit {0}
IsQueryOver empty k relations (ElementOf u) = IsElement empty k u
IsQueryOver empty k relations Cayley = Unit {0}
IsQueryOver empty k relations (LowIndex two_sided classes count None) = AreLimits classes count
IsQueryOver empty k relations (LowIndex two_sided classes count (Some g)) =
    AreLimits classes count × IsLowTable empty k classes g
IsQueryOver empty k relations (Meet s t) =
    IsCongruenceTable empty k relations s × IsCongruenceTable empty k relations t
IsQueryOver empty k relations (Join s t) =
    IsCongruenceTable empty k relations s × IsCongruenceTable empty k relations t
IsQueryOver empty k relations (Chain u v) = IsElement empty k u × IsElement empty k v
IsQueryOver empty k relations (Green relation) = Unit {0}
IsQueryOver empty k relations Idempotents = Unit {0}

-- the form of the query
abbrev pub form_of : Query → QueryForm
form_of Index = query_form.Index
form_of (Equal u v) = query_form.Equal
form_of (Normal u) = query_form.Normal
form_of (Classes count after) = query_form.Classes
form_of RuleList = query_form.Rules
form_of (ElementOf u) = query_form.Element
form_of Cayley = query_form.Cayley
form_of (LowIndex two_sided classes count after) = query_form.LowIndex two_sided
form_of (Meet s t) = query_form.Meet
form_of (Join s t) = query_form.Join
form_of (Chain u v) = query_form.Chain
form_of (Green relation) = query_form.Green
form_of Idempotents = query_form.Idempotents

abbrev pub are_of_generators : Scripts → Bool
are_of_generators AllScripts = false
are_of_generators OfRelations = false
are_of_generators OfGenerators = true

abbrev pub are_of_relations : Scripts → Bool
are_of_relations AllScripts = false
are_of_relations OfRelations = true
are_of_relations OfGenerators = false

abbrev pub are_two_sided : Pairs → Bool
are_two_sided AnyPairs = false
are_two_sided TwoSidedPairs = true
are_two_sided NoPairs = false

abbrev pub are_none : Pairs → Bool
are_none AnyPairs = false
are_none TwoSidedPairs = false
are_none NoPairs = true

-- whether the query is there only where generators are given
abbrev pub needs_generators : Query → Bool
needs_generators query = are_of_generators (row_of (form_of query)).scripts

-- whether the query is there only where relations are given
abbrev pub needs_relations : Query → Bool
needs_relations query = are_of_relations (row_of (form_of query)).scripts

-- whether the query is there only where the congruence is two-sided
abbrev pub needs_two_sided : Query → Bool
needs_two_sided query = are_two_sided (row_of (form_of query)).pairs

-- whether the query is there only without pairs
abbrev pub needs_no_pairs : Query → Bool
needs_no_pairs query = are_none (row_of (form_of query)).pairs

-- the query is one of this problem: it is there for it, pairs are two-sided where it needs that,
-- there are none where it needs that, its words and tables are over the letters, and the relations
-- hold at the tables of a meet or a join
pub record IsQueryOf (p : Problem) (query : Query) : Type 0 where
  pub there : is_presented p ≡ true → needs_generators query ≡ false
  pub presented : needs_relations query ≡ true → is_presented p ≡ true
  pub allowed : needs_two_sided query ≡ true → allows_rules p ≡ true
  pub unpaired : needs_no_pairs query ≡ true → pairs_of p ≡ []
  pub over : IsQueryOver (has_empty_word p) (length (letters_of p)) (relations_of p) query
