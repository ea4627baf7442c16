-- Tables as tokens: standard ones, those of few classes, and those at which relations hold.
use Rattle.std.specs.Prelude.{◌≡◌, ◌≢◌, ℕ, zero, suc, ◌+◌, ◌<◌, ◌≤◌, Bool, true, false, not, ◌&&◌, ◌||◌, ◌==◌, nat_le, max, List, [], ◌∷◌, length, map, if◌then◌else◌, is_none, Contains, Option, Result, Ok, Err}
use Rattle.std.specs.List.{list_all}
use Rattle.std.specs.Option.{option_eq, unwrap_or}
use Rattle.theory.specs.Graph.{Graph, path}
use Rattle.theory.specs.Lattice.{HasFreeRoot}
use Rattle.theory.specs.LowIndex.{Rows, IsCompatible}
use Rattle.theory.specs.Word.{Word}
use Rattle.word_graph.specs.Numbered.{max_from}
use Rattle.word_graph.specs.Standard.{IsStandardGraph}
use Rattle.word_graph.specs.Table.{targets_of}
use Rattle.table_texts.specs.TableText.{IsFaultless, table_read}
use Rattle.line_parts.specs.declared.cause.Cause.{Cause}
use Rattle.line_parts.specs.declared.cause.Cause.TheVariants.{BadTable, TableBreaksRelation}
use Rattle.line_parts.specs.LineWords.{two_tokens}
use Rattle.line_parts.specs.Outcome.{and_then}
use Rattle.line_parts.specs.Token.{Token}

-- a standard table over k letters; in a semigroup no edge leads into the root
pub record IsTable (is_monoid : Bool) (k : ℕ) (g : Graph) : Type 0 where
  pub standard : IsStandardGraph k g
  pub free : is_monoid ≡ false → HasFreeRoot g

-- how many nodes a table of at most n classes may have: in a semigroup the root is no class
abbrev pub most_nodes : Bool → ℕ → ℕ
most_nodes is_monoid n = if is_monoid then n else suc n

-- such a table of at most n classes
pub record IsLowTable (is_monoid : Bool) (k n : ℕ) (g : Graph) : Type 0 where
  pub table : IsTable is_monoid k g
  pub few : length g ≤ most_nodes is_monoid n

-- such a table at which the relations hold: both sides of each lead from each node to one node
pub record IsCongruenceTable (is_monoid : Bool) (k : ℕ) (relations : List (Word × Word))
    (g : Graph) : Type 0 where
  pub table : IsTable is_monoid k g
  pub compatible :
      IsCompatible (record { letters = k; is_monoid = is_monoid; relations = relations })
      table.standard.rows

-- from some node the two sides of a relation lead to different nodes
abbrev pub BreaksRelation : List (Word × Word) → Graph → Type 0
BreaksRelation relations g = (node : ℕ) × (r s : Word) × (node < length g)
    × Contains relations (r, s) × (path g node r ≢ path g node s)

-- the token is the text of g, a table over k letters, in which nothing is wrong
pub record IsTextOf (k : ℕ) (t : Token) (g : Graph) : Type 0 where
  pub good : IsFaultless k (table_read t)
  pub is : table_read t ≡ g

-- k fields that each name a node
abbrev pub is_good_row : ℕ → List (Option ℕ) → Bool
is_good_row k fields = (length fields == k) && list_all (λ f. not (is_none f)) fields

-- whether nothing is wrong
abbrev pub is_faultless : ℕ → Graph → Bool
is_faultless k table = nat_le (length table) 1024 && list_all (is_good_row k) table

-- the rows of a table in which nothing is wrong
abbrev pub rows_in : Graph → Rows
rows_in = map (map (λ t. unwrap_or t 0))

-- whether each entry is at most one more than the greatest node seen so far
abbrev pub is_numbered_row : ℕ → List ℕ → Bool
is_numbered_row seen [] = true
is_numbered_row seen (n ∷ ns) = nat_le n (suc seen) && is_numbered_row (max seen n) ns

-- whether the rows from the node on are numbered by first appearance, and each node appears before
-- its row
abbrev pub are_numbered : (node seen : ℕ) → Rows → Bool
are_numbered node seen [] = true
are_numbered node seen (row ∷ rows) = nat_le node seen
    && (is_numbered_row seen row && are_numbered (node + 1) (max_from seen row) rows)

-- whether no edge leads into the root
abbrev pub avoids_root : Graph → Bool
avoids_root g = list_all (λ m. not (m == 0)) (targets_of g)

-- whether the token is a standard table over k letters; in a semigroup no edge leads into the root
abbrev pub is_table : Bool → ℕ → Token → Bool
is_table is_monoid k t = is_faultless k (table_read t)
    && (are_numbered 0 0 (rows_in (table_read t)) && (is_monoid || avoids_root (table_read t)))

-- the table that the token is
abbrev pub table_of : Bool → ℕ → Token → Result Graph Cause
table_of is_monoid k t = if is_table is_monoid k t then Ok (table_read t) else Err BadTable

-- the table of at most n classes that the token is
abbrev pub low_table_of : Bool → ℕ → ℕ → Token → Result Graph Cause
low_table_of is_monoid k n t = and_then
    (λ g. if nat_le (length g) (most_nodes is_monoid n) then Ok g else Err BadTable)
    (table_of is_monoid k t)

-- whether the words lead to one node from each of the first n nodes
abbrev pub have_same_ends : Graph → Word → Word → ℕ → Bool
have_same_ends g r s zero = true
have_same_ends g r s (suc n) =
    option_eq ◌==◌ (path g n r) (path g n s) && have_same_ends g r s n

-- whether both sides of each relation lead from each node to one node
abbrev pub meets_relations : List (Word × Word) → Graph → Bool
meets_relations relations g = list_all (λ p. have_same_ends g p.0 p.1 (length g)) relations

-- the table that the token is, at which the relations hold
abbrev pub congruence_table_of : Bool → ℕ → List (Word × Word) → Token → Result Graph Cause
congruence_table_of is_monoid k relations t = and_then
    (λ g. if meets_relations relations g then Ok g else Err TableBreaksRelation)
    (table_of is_monoid k t)

-- two such tables, of which the first is judged first
abbrev pub both_tables : Bool → ℕ → List (Word × Word) → Token → Token
    → Result (Graph × Graph) Cause
both_tables is_monoid k relations s t =
    and_then (λ g. and_then (λ h. Ok (g, h)) (congruence_table_of is_monoid k relations t))
    (congruence_table_of is_monoid k relations s)

-- two such tables
abbrev pub two_tables : Bool → ℕ → List (Word × Word) → List Token
    → Result (Graph × Graph) Cause
two_tables is_monoid k relations tokens =
    and_then (λ p. both_tables is_monoid k relations p.0 p.1) (two_tokens tokens)
