use Rattle.std.proofs.Common.{◌≡◌, ◌*◌, ◌≤◌, ℕ, List, Option, map, length, refl, sym, subst, ap, ap₂, ◌∙◌, arith, inl, inr}
use Rattle.std.proofs.lemmas.Bool.{cases_lt}
use Rattle.std.specs.Borrow.{Bor}
use Rattle.std.proofs.lemmas.List.{length-map}
use Rattle.theory.specs.Graph.{Graph, IsGraph}
use Rattle.cells.specs.Rows.{flat, rows_of}
use Rattle.cells.proofs.CellLaws.{flat_long, rows_flat}
use Rattle.table_texts.specs.TableText.{texts, row_read, rows_cut, table_read, IsFaultless, IsLeastFault}
use Rattle.table_texts.proofs.ReadLaws.{cells_long}
use Rattle.table_texts.proofs.GraphLaws.{read_graph}
use Rattle.table_texts.proofs.tables.read_table.Goals as goal

-- what the pieces read to
pieces_read : (pieces : List (Bor (List ℕ))) (text : List ℕ) → texts pieces ≡ rows_cut text → map (row_read (length pieces)) (texts pieces) ≡ table_read text
pieces_read pieces text e =
    let long : length pieces ≡ length (rows_cut text) = sym (length-map pieces (λ t. t.now)) ∙ ap length e in
    ap (λ n. map (row_read n) (texts pieces)) long ∙ ap (map (row_read (length (rows_cut text)))) e

-- a table in which nothing is wrong has few rows
few_rows : (k : ℕ) (table : Graph) → IsFaultless k table → length table ≤ 1024
few_rows k table good = elim (cases_lt 1024 (length table)) [
  | inl long ↦ absurd (good (1024 * k) (inr (inr (record { long = long; place_is = refl }))))
  | inr few ↦ few
]

-- the entries are those of the table, and their rows are the table
module _ (k n : ℕ) (text : List ℕ) (table : Graph) (xs : List (Option ℕ)) (read : table ≡ table_read text) (good : IsFaultless k table) (same : xs ≡ flat table) (count : n ≡ length table) where
  is_graph : IsGraph k table
  is_graph = subst (λ (g : Graph). IsGraph k g) (sym read) (read_graph k text (subst (IsFaultless k) read good))

  whole : length xs ≡ n * k
  whole = ap length same ∙ flat_long k table is_graph.width ∙ ap (λ z. z * k) (sym count)

  rows : rows_of k n xs ≡ table_read text
  rows = ap₂ (rows_of k) count same ∙ rows_flat k table is_graph.width ∙ read

  graph : IsGraph k (rows_of k n xs)
  graph = subst (λ (g : Graph). IsGraph k g) (sym rows) (read_graph k text (subst (IsFaultless k) read good))

pub returns-in-Err-clause-bad : goal.returns-in-Err-clause-bad
returns-in-Err-clause-bad c = λ place e.
    let cut : texts c.as_slice.result.now ≡ rows_cut c.args.text.now = ap texts c.as_slice.ensures.value ∙ c.in_ok-pieces.ensures in
    let read = pieces_read c.as_slice.result.now c.args.text.now cut in
    subst (λ (g : Graph). IsLeastFault c.args.letters g place) read (c.in-Err.ensures.bad place cc)

pub of_entries-requires-clause-room : goal.of_entries-requires-clause-room
of_entries-requires-clause-room c =
    let cut : texts c.as_slice.result.now ≡ rows_cut c.args.text.now = ap texts c.as_slice.ensures.value ∙ c.in_ok-pieces.ensures in
    let table : Graph = map (row_read (length c.as_slice.result.now)) (texts c.as_slice.result.now) in
    let read : table ≡ table_read c.args.text.now = pieces_read c.as_slice.result.now c.args.text.now cut in
    let count : c.len.result ≡ length table = omega (arith, c.len.ensures, c.as_slice.ensures.len, cells_long (row_read (length c.as_slice.result.now)) c.as_slice.result.now) in
    omega (arith, few_rows c.args.letters (map (row_read (length c.as_slice.result.now)) (texts c.as_slice.result.now)) c.in-Ok.ensures.good, count)

pub of_entries-requires-clause-whole : goal.of_entries-requires-clause-whole
of_entries-requires-clause-whole c =
    let cut : texts c.as_slice.result.now ≡ rows_cut c.args.text.now = ap texts c.as_slice.ensures.value ∙ c.in_ok-pieces.ensures in
    let table : Graph = map (row_read (length c.as_slice.result.now)) (texts c.as_slice.result.now) in
    let read : table ≡ table_read c.args.text.now = pieces_read c.as_slice.result.now c.args.text.now cut in
    let count : c.len.result ≡ length table = omega (arith, c.len.ensures, c.as_slice.ensures.len, cells_long (row_read (length c.as_slice.result.now)) c.as_slice.result.now) in
    whole c.args.letters c.len.result c.args.text.now table c.in-Ok.entries.items read c.in-Ok.ensures.good c.in-Ok.ensures.ok count

pub of_entries-requires-clause-graph : goal.of_entries-requires-clause-graph
of_entries-requires-clause-graph c =
    let cut : texts c.as_slice.result.now ≡ rows_cut c.args.text.now = ap texts c.as_slice.ensures.value ∙ c.in_ok-pieces.ensures in
    let table : Graph = map (row_read (length c.as_slice.result.now)) (texts c.as_slice.result.now) in
    let read : table ≡ table_read c.args.text.now = pieces_read c.as_slice.result.now c.args.text.now cut in
    let count : c.len.result ≡ length table = omega (arith, c.len.ensures, c.as_slice.ensures.len, cells_long (row_read (length c.as_slice.result.now)) c.as_slice.result.now) in
    graph c.args.letters c.len.result c.args.text.now table c.in-Ok.entries.items read c.in-Ok.ensures.good c.in-Ok.ensures.ok count

pub returns-clause-ok : goal.returns-clause-ok
returns-clause-ok c =
    let cut : texts c.as_slice.result.now ≡ rows_cut c.args.text.now = ap texts c.as_slice.ensures.value ∙ c.in_ok-pieces.ensures in
    let table : Graph = map (row_read (length c.as_slice.result.now)) (texts c.as_slice.result.now) in
    let read : table ≡ table_read c.args.text.now = pieces_read c.as_slice.result.now c.args.text.now cut in
    let count : c.len.result ≡ length table = omega (arith, c.len.ensures, c.as_slice.ensures.len, cells_long (row_read (length c.as_slice.result.now)) c.as_slice.result.now) in
    c.of_entries.ensures ∙ rows c.args.letters c.len.result c.args.text.now table c.in-Ok.entries.items read c.in-Ok.ensures.good c.in-Ok.ensures.ok count

pub returns-clause-graph : goal.returns-clause-graph
returns-clause-graph c =
    let cut : texts c.as_slice.result.now ≡ rows_cut c.args.text.now = ap texts c.as_slice.ensures.value ∙ c.in_ok-pieces.ensures in
    let table : Graph = map (row_read (length c.as_slice.result.now)) (texts c.as_slice.result.now) in
    let read : table ≡ table_read c.args.text.now = pieces_read c.as_slice.result.now c.args.text.now cut in
    let count : c.len.result ≡ length table = omega (arith, c.len.ensures, c.as_slice.ensures.len, cells_long (row_read (length c.as_slice.result.now)) c.as_slice.result.now) in
    subst (λ (g : Graph). IsGraph c.args.letters g) (sym c.of_entries.ensures) (graph c.args.letters c.len.result c.args.text.now table c.in-Ok.entries.items read c.in-Ok.ensures.good c.in-Ok.ensures.ok count)

pub returns-clause-good : goal.returns-clause-good
returns-clause-good c =
    let cut : texts c.as_slice.result.now ≡ rows_cut c.args.text.now = ap texts c.as_slice.ensures.value ∙ c.in_ok-pieces.ensures in
    let table : Graph = map (row_read (length c.as_slice.result.now)) (texts c.as_slice.result.now) in
    let read : table ≡ table_read c.args.text.now = pieces_read c.as_slice.result.now c.args.text.now cut in
    let count : c.len.result ≡ length table = omega (arith, c.len.ensures, c.as_slice.ensures.len, cells_long (row_read (length c.as_slice.result.now)) c.as_slice.result.now) in
    subst (IsFaultless c.args.letters) read c.in-Ok.ensures.good
