-- The lines of a report; each ends with a line feed.
use Rattle.std.specs.Prelude.{ℕ, Bool, false, List, [], ◌∷◌, ◌++◌, length, map, codes, decimal, nat_le, if◌then◌else◌, slice_index_or}
use Rattle.std.specs.List.{flat_map, join_by, range_with_len}
use Rattle.theory.specs.Word.{Word}
use Rattle.theory.specs.Graph.{Graph}
use Rattle.theory.specs.LowIndex.{Rows, graph_of}
use Rattle.table_texts.specs.TableText.{table_text}
use Rattle.words.specs.WordText.{text_of}

abbrev pub undecided_line : List ℕ
undecided_line = codes "undecided\n"

-- how many classes there are
abbrev pub count_line : ℕ → List ℕ
count_line n = codes "index " ++ (decimal n ++ codes "\n")

-- that there are more classes than the bound
abbrev pub over_line : ℕ → List ℕ
over_line bound = codes "index over " ++ (decimal bound ++ codes "\n")

-- there are infinitely many classes
abbrev pub infinite_line : List ℕ
infinite_line = codes "index infinite\n"

-- how many classes there are, up to the bound
abbrev pub index_line : ℕ → ℕ → List ℕ
index_line bound n = if nat_le n bound then count_line n else over_line bound

abbrev pub equal_line : Bool → List ℕ
equal_line same = if same then codes "equal yes\n" else codes "equal no\n"

abbrev pub element_line : List ℕ → List ℕ
element_line entries = codes "element " ++ (entries ++ codes "\n")

-- what ends a page, or a list
abbrev pub end_line : Bool → List ℕ
end_line more = if more then codes "more\n" else codes "end\n"

-- a page of items, and its end
abbrev pub page_lines : {A : Type 0} → (A → List ℕ) → List A → Bool → List (List ℕ)
page_lines line items more = map line items ++ end_line more ∷ []

-- a table, as its graph
abbrev pub graph_line : Graph → List ℕ
graph_line g = table_text g ++ codes "\n"

-- a table, whose rows these are
abbrev pub table_line : Rows → List ℕ
table_line rows = graph_line (graph_of rows)

-- the table of a meet, or of a join
abbrev pub meet_line : Graph → List ℕ
meet_line g = codes "meet " ++ (table_text g ++ codes "\n")

abbrev pub join_line : Graph → List ℕ
join_line g = codes "join " ++ (table_text g ++ codes "\n")

-- how many steps a chain has
abbrev pub steps_line : ℕ → List ℕ
steps_line n = codes "chain " ++ (decimal n ++ codes "\n")

-- there is no chain
abbrev pub no_chain_line : List ℕ
no_chain_line = codes "chain no\n"

-- chains are not logged
abbrev pub unlogged_line : List ℕ
unlogged_line = codes "chain unlogged\n"

-- numbers of k letters, each after a space
abbrev pub numbers_text : ℕ → (ℕ → ℕ) → List ℕ
numbers_text k number = flat_map (λ a. codes " " ++ decimal (number a)) (range_with_len 0 k)

module _ (letters : List ℕ) where
  abbrev pub normal_line : Word → List ℕ
  normal_line w = codes "normal " ++ (text_of letters w ++ codes "\n")

  abbrev pub word_line : Word → List ℕ
  word_line w = text_of letters w ++ codes "\n"

  abbrev pub rule_line : Word × Word → List ℕ
  rule_line p = text_of letters p.0 ++ (codes " " ++ (text_of letters p.1 ++ codes "\n"))

  -- an element's number and word, and the numbers of its products by k letters on the right and on
  -- the left
  abbrev pub cayley_line : ℕ → ℕ → Word → (ℕ → ℕ) → (ℕ → ℕ) → List ℕ
  cayley_line k i w right left =
      decimal i ++ (codes " " ++ (text_of letters w ++ (codes " right"
      ++ (numbers_text k right ++ (codes " left" ++ (numbers_text k left ++ codes "\n"))))))

  -- the words of these numbers, with a space between each two
  abbrev pub class_text : List Word → List ℕ → List ℕ
  class_text words = join_by (λ i. text_of letters (slice_index_or words i [])) (codes " ")

  abbrev pub class_line : List Word → List ℕ → List ℕ
  class_line words class = class_text words class ++ codes "\n"

  -- a chain from u on: how many words follow u, all words, and the end
  abbrev pub chain_lines : Word → List Word → List (List ℕ)
  chain_lines u words =
      steps_line (length words) ∷ (map word_line (u ∷ words) ++ end_line false ∷ [])

-- the lines of all rows of the Cayley graphs
abbrev pub cayley_lines : List ℕ → ℕ → List Word → (ℕ → ℕ → ℕ) → (ℕ → ℕ → ℕ) → List (List ℕ)
cayley_lines letters k words right left =
    map (λ i. cayley_line letters k i (slice_index_or words i []) (right i) (left i))
    (range_with_len 0 (length words))
