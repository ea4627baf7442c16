-- What the tests of tables tell.
use Rattle.std.proofs.Common.{◌≡◌, ◌≢◌, ℕ, zero, suc, ◌+◌, ◌*◌, ◌<◌, ◌≤◌, ◌==◌, nat_le, max, min, Bool, true, false, not, ◌&&◌, ◌||◌, ◌⊎◌, inl, inr, List, [], ◌∷◌, ◌++◌, length, map, drop, get_or, slice_get, All, Contains, Option, Some, None, is_none, Result, Ok, Err, if◌then◌else◌, refl, sym, ap, ap₂, ◌∙◌, subst, arith, true≢false}
use Rattle.std.specs.Bool.{Decides}
use Rattle.std.specs.List.{flat_map, list_all, list_any}
use Rattle.std.specs.Option.{option_eq, option_to_list, unwrap_or}
use Rattle.std.proofs.lemmas.Bool.{and_parts, cases_lt, cases_eq, eq-eqb, eqb-true, le-leb, leb-true}
use Rattle.std.proofs.lemmas.Bool.Decides.{Decides-and, Decides-below_and, Decides-eqb, Decides-like, Decides-not}
use Rattle.std.proofs.lemmas.List.{drop_more, length-drop, length-map}
use Rattle.std.proofs.lemmas.List.Elements.{All-append, All-cons, All-contains, All-head, All-nil, All-tail, Contains-get_or}
use Rattle.std.proofs.lemmas.List.Sums.{AllPass-from_list_all, list_all-from_AllPass}
use Rattle.std.proofs.lemmas.Option.{get_or_from_slice_get, slice_get-get_or, slice_get_within}
use Rattle.theory.specs.Congruence.{Presentation}
use Rattle.theory.specs.Graph.{Graph, IsGraph, path, target}
use Rattle.theory.specs.Lattice.{HasFreeRoot}
use Rattle.theory.specs.LowIndex.{Rows, graph_of, IsCompatible, IsNumberedFrom, IsStandard}
use Rattle.theory.specs.Word.{Word}
use Rattle.word_graph.specs.Numbered.{IsSeenTo, max_from}
use Rattle.word_graph.specs.Standard.{IsStandardGraph}
use Rattle.word_graph.specs.Table.{targets_of}
use Rattle.table_texts.specs.TableText.{IsBadField, IsBadRow, IsFaultless, IsLeastFault, table_read}
use Rattle.table_texts.specs.declared.fault.TableFault.{TableFault}
use Rattle.table_texts.specs.declared.fault.TableFault.TheVariants as fault
use Rattle.word_graph.proofs.NumberLaws.{seen_end, seen_more, seen_standard, seen_start}
use Rattle.word_graph.proofs.RowLaws.{rows_exact}
use Rattle.table_texts.proofs.GraphLaws.{read_graph}
use Rattle.line_parts.specs.declared.cause.Cause.{Cause}
use Rattle.line_parts.specs.declared.cause.Cause.TheVariants.{BadTable, TableBreaksRelation}
use Rattle.line_parts.specs.Faults.{IsLineFault, fault_of_table}
use Rattle.line_parts.specs.Outcome.{and_then}
use Rattle.line_parts.specs.Tables.{BreaksRelation, IsCongruenceTable, IsLowTable, IsTable, IsTextOf, are_numbered, avoids_root, congruence_table_of, have_same_ends, is_faultless, is_good_row, is_numbered_row, is_table, low_table_of, meets_relations, most_nodes, rows_in, table_of}

-- an element of a list that passes
passes_at : {X : Type 0} (p : X → Bool) (xs : List X) (i : ℕ) (x : X) → list_all p xs ≡ true → slice_get xs i ≡ Some x → p x ≡ true
passes_at p xs i x h at =
    ap p (sym (get_or_from_slice_get xs i x x at)) ∙ AllPass-from_list_all p xs h i x (slice_get_within xs i x at)

-- texts in which nothing is wrong

module _ (k : ℕ) (g : Graph) where
  row_good : is_faultless k g ≡ true → (i : ℕ) (fields : List (Option ℕ)) → slice_get g i ≡ Some fields → is_good_row k fields ≡ true
  row_good h i fields at = passes_at (is_good_row k) g i fields (and_parts _ _ h).1 at

  good_field : is_faultless k g ≡ true → (place : ℕ) → IsBadField k g place → ⊥
  good_field h place b =
      let row = row_good h b.row b.fields b.row_is in
      let field : false ≡ true = passes_at (λ (f : Option ℕ). not (is_none f)) b.fields b.column None (and_parts _ _ row).1 b.bad in
      true≢false (sym field)

  good_row : is_faultless k g ≡ true → (place : ℕ) → IsBadRow k g place → ⊥
  good_row h place b =
      b.bad (eqb-true (length b.fields) k (and_parts _ _ (row_good h b.row b.fields b.row_is)).0)

  no_fault : is_faultless k g ≡ true → IsFaultless k g
  no_fault h place (inl b) = good_field h place b
  no_fault h place (inr (inl b)) = good_row h place b
  no_fault h place (inr (inr b)) = let few = leb-true (length g) 1024 (and_parts _ _ h).0 in omega (arith, few, b.long)

  module _ (good : IsFaultless k g) where
    wide : (i : ℕ) (d : List (Option ℕ)) → i < length g → length (get_or g i d) ≡ k
    wide i d h = elim (cases_eq (length (get_or g i d)) k) [
      | inl e ↦ e
      | inr n ↦ absurd (good (i * k + min (length (get_or g i d)) k) (inr (inl (record {
        row = i;
        fields = get_or g i d;
        row_is = slice_get-get_or g i d h;
        bad = n;
        place_is = refl;
      }))))
    ]

    named : (i j : ℕ) (d : List (Option ℕ)) (e : Option ℕ) → i < length g → j < length (get_or g i d) → (m : ℕ) × (get_or (get_or g i d) j e ≡ Some m)
    named i j d e h l = go (get_or (get_or g i d) j e) refl
      where
        go : (o : Option ℕ) → get_or (get_or g i d) j e ≡ o → (m : ℕ) × (get_or (get_or g i d) j e ≡ Some m)
        go (Some m) is = (m, is)
        go None is = absurd (good (i * k + j) (inl (record {
          row = i;
          column = j;
          fields = get_or g i d;
          row_is = slice_get-get_or g i d h;
          within = omega (arith, l, wide i d h);
          bad = slice_get-get_or (get_or g i d) j e l ∙ ap (λ (o : Option ℕ). Some o) is;
          place_is = refl;
        })))

    few_rows : length g ≤ 1024
    few_rows = elim (cases_lt 1024 (length g)) [
      | inl more ↦ absurd (good (1024 * k) (inr (inr (record { long = more; place_is = refl }))))
      | inr most ↦ most
    ]

    faultless : is_faultless k g ≡ true
    faultless =
        ap₂ (λ (a b : Bool). a && b) (le-leb (length g) 1024 few_rows)
        (list_all-from_AllPass (is_good_row k) g (λ i d h.
        ap₂ (λ (a b : Bool). a && b) (eq-eqb (length (get_or g i d)) k (wide i d h))
        (list_all-from_AllPass (λ (f : Option ℕ). not (is_none f)) (get_or g i d) (λ j e l. ap (λ (o : Option ℕ). not (is_none o)) (named i j d e h l).1))))

    -- the rows are those of the table
    exact : g ≡ graph_of (rows_in g)
    exact = rows_exact g (λ i j h l. named i j [] None h l)

row_back : (row : List ℕ) → map (λ t. unwrap_or t 0) (map Some row) ≡ row
row_back [] = refl
row_back (n ∷ row) = ap (λ (r : List ℕ). n ∷ r) (row_back row)

rows_back : (rows : Rows) → rows_in (graph_of rows) ≡ rows
rows_back [] = refl
rows_back (row ∷ rows) = ap₂ (λ (r : List ℕ) (rs : Rows). r ∷ rs) (row_back row) (rows_back rows)

-- rows that are numbered by first appearance

row_numbered : (seen : ℕ) (row : List ℕ) → Decides (is_numbered_row seen row) (IsNumberedFrom seen row)
row_numbered seen [] = (λ h. tt, λ h. refl)
row_numbered seen (n ∷ ns) =
    Decides-and (nat_le n (suc seen)) (is_numbered_row (max seen n) ns) (leb-true n (suc seen), le-leb n (suc seen)) (row_numbered (max seen n) ns)

-- the row of the node, and those behind it
record IsRowAt (rows : Rows) (node : ℕ) (row : List ℕ) (rest : Rows) : Type 0 where
  inside : node < length rows
  is : get_or rows node [] ≡ row
  behind : drop (node + 1) rows ≡ rest

row_here : (rows : Rows) (node : ℕ) (row : List ℕ) (rest : Rows) → drop node rows ≡ row ∷ rest → IsRowAt rows node row rest
row_here rows node row rest e =
    let inside : node < length rows = omega (arith, length-drop node rows, ap (λ (rs : Rows). length rs) e) in
    let both : get_or rows node [] ∷ drop (node + 1) rows ≡ row ∷ rest = sym (drop_more rows node [] inside) ∙ e in
    record { inside = inside; is = cc; behind = cc }

module _ (rows : Rows) where
  seen_to_end : (rest : Rows) (node seen : ℕ) → drop node rows ≡ rest → node ≤ length rows → IsSeenTo rows node seen → are_numbered node seen rest ≡ true
      → (last : ℕ) × IsSeenTo rows (length rows) last
  seen_to_end [] node seen e most is h =
      let end : node ≡ length rows = omega (arith, most, length-drop node rows, ap (λ (rs : Rows). length rs) e) in
      (seen, subst (λ n. IsSeenTo rows n seen) end is)
  seen_to_end (row ∷ rest) node seen e most is h =
      let at = row_here rows node row rest e in
      let a = and_parts _ _ h in
      let b = and_parts _ _ a.1 in
      let numbered : IsNumberedFrom seen (get_or rows node []) = subst (λ (r : List ℕ). IsNumberedFrom seen r) (sym at.is) ((row_numbered seen row).0 b.0) in
      let next = seen_more rows node seen (max_from seen row) at.inside (leb-true node seen a.0) numbered (ap (λ (r : List ℕ). max_from seen r) (sym at.is)) is in
      seen_to_end rest (node + 1) (max_from seen row) at.behind (omega (arith, at.inside)) next b.1

  all_numbered : (k : ℕ) → IsStandard k rows → (rest : Rows) (node seen : ℕ) → drop node rows ≡ rest → IsSeenTo rows node seen → are_numbered node seen rest ≡ true
  all_numbered k standard [] node seen e is = refl
  all_numbered k standard (row ∷ rest) node seen e is =
      let at = row_here rows node row rest e in
      let s = seen_standard k rows node seen standard at.inside is in
      let next = seen_more rows node seen (max_from seen row) at.inside s.0 s.1 (ap (λ (r : List ℕ). max_from seen r) (sym at.is)) is in
      ap₂ (λ (a b : Bool). a && b) (le-leb node seen s.0)
      (ap₂ (λ (a b : Bool). a && b) ((row_numbered seen row).1 (subst (λ (r : List ℕ). IsNumberedFrom seen r) at.is s.1))
      (all_numbered k standard rest (node + 1) (max_from seen row) at.behind next))

  standard_decides : (k : ℕ) → IsGraph k (graph_of rows) → Decides (are_numbered 0 0 rows) (IsStandard k rows)
  standard_decides k graph = (
    λ h. let last = seen_to_end rows 0 0 refl (omega arith) (seen_start rows) h in seen_end k rows last.0 graph last.1,
    λ standard. all_numbered k standard rows 0 0 refl (seen_start rows),
  )

-- no edge into the root

leads_row : (P : ℕ → Type 0) (row : List (Option ℕ)) → All P (flat_map option_to_list row) → (b n : ℕ) → unwrap_or (slice_get row b) None ≡ Some n → P n
leads_row P [] all b n e = absurd (cc)
leads_row P (None ∷ row) all zero n e = absurd (cc)
leads_row P (None ∷ row) all (suc b) n e = leads_row P row all b n e
leads_row P (Some m ∷ row) all zero n e = let same : m ≡ n = cc in subst P same (All-head P m (flat_map option_to_list row) all)
leads_row P (Some m ∷ row) all (suc b) n e = leads_row P row (All-tail P m (flat_map option_to_list row) all) b n e

row_leads : (P : ℕ → Type 0) (row : List (Option ℕ)) → ((b n : ℕ) → unwrap_or (slice_get row b) None ≡ Some n → P n) → All P (flat_map option_to_list row)
row_leads P [] h = All-nil P
row_leads P (None ∷ row) h = row_leads P row (λ b n e. h (suc b) n e)
row_leads P (Some m ∷ row) h = All-cons P m (flat_map option_to_list row) (h 0 m refl) (row_leads P row (λ b n e. h (suc b) n e))

all_left : (P : ℕ → Type 0) (xs ys : List ℕ) → All P (xs ++ ys) → All P xs
all_left P [] ys h = All-nil P
all_left P (x ∷ xs) ys h = All-cons P x xs (All-head P x (xs ++ ys) h) (all_left P xs ys (All-tail P x (xs ++ ys) h))

all_right : (P : ℕ → Type 0) (xs ys : List ℕ) → All P (xs ++ ys) → All P ys
all_right P [] ys h = h
all_right P (x ∷ xs) ys h = all_right P xs ys (All-tail P x (xs ++ ys) h)

leads : (P : ℕ → Type 0) (g : Graph) → All P (targets_of g) → (i b n : ℕ) → target g i b ≡ Some n → P n
leads P [] all i b n e = absurd (cc)
leads P (row ∷ g) all zero b n e = leads_row P row (all_left P (flat_map option_to_list row) (targets_of g) all) b n e
leads P (row ∷ g) all (suc i) b n e = leads P g (all_right P (flat_map option_to_list row) (targets_of g) all) i b n e

all_leads : (P : ℕ → Type 0) (g : Graph) → ((i b n : ℕ) → target g i b ≡ Some n → P n) → All P (targets_of g)
all_leads P [] h = All-nil P
all_leads P (row ∷ g) h = All-append P (flat_map option_to_list row) (targets_of g) (row_leads P row (λ b n e. h 0 b n e)) (all_leads P g (λ i b n e. h (suc i) b n e))

pub free_by_targets : (g : Graph) → All (λ m. m ≢ 0) (targets_of g) → HasFreeRoot g
free_by_targets g all node letter e = leads (λ m. m ≢ 0) g all node letter 0 e refl

pub targets_by_free : (g : Graph) → HasFreeRoot g → All (λ m. m ≢ 0) (targets_of g)
targets_by_free g free = all_leads (λ m. m ≢ 0) g (λ i b n e zero. free i b (e ∙ ap (λ (m : ℕ). Some m) zero))

no_root : (targets : List ℕ) → Decides (list_all (λ m. not (m == 0)) targets) (All (λ m. m ≢ 0) targets)
no_root targets = (
  λ h i d l. (Decides-not (get_or targets i d == 0) (Decides-eqb (get_or targets i d) 0)).0 (AllPass-from_list_all (λ m. not (m == 0)) targets h i d l),
  λ h. list_all-from_AllPass (λ m. not (m == 0)) targets (λ i d l. (Decides-not (get_or targets i d == 0) (Decides-eqb (get_or targets i d) 0)).1 (h i d l)),
)

-- none is the root, where the root is not among them
pub root_not_among : (targets : List ℕ) → list_all (λ m. not (m == 0)) targets ≡ not (list_any (λ m. m == 0) targets)
root_not_among [] = refl
root_not_among (m ∷ ms) = by (m == 0) (root_not_among ms)
  where
    by : (b : Bool) → list_all (λ m. not (m == 0)) ms ≡ not (list_any (λ m. m == 0) ms) → (not b && list_all (λ m. not (m == 0)) ms) ≡ not (b || list_any (λ m. m == 0) ms)
    by true h = refl
    by false h = h

pub root_decides : (g : Graph) → Decides (avoids_root g) (HasFreeRoot g)
root_decides g = Decides-like (avoids_root g) (free_by_targets g) (targets_by_free g) (no_root (targets_of g))

free_decides : (is_monoid : Bool) (g : Graph) → Decides (is_monoid || avoids_root g) (is_monoid ≡ false → HasFreeRoot g)
free_decides true g = (λ h e. absurd (true≢false e), λ h. refl)
free_decides false g = (λ h e. (root_decides g).0 h, λ h. (root_decides g).1 (h refl))

-- tables

module _ (is_monoid : Bool) (k : ℕ) (t : List ℕ) where
  pub table_is : is_table is_monoid k t ≡ true → IsFaultless k (table_read t) × IsTable is_monoid k (table_read t)
  table_is h =
      let a = and_parts _ _ h in
      let b = and_parts _ _ a.1 in
      let good : IsFaultless k (table_read t) = no_fault k (table_read t) a.0 in
      let is : table_read t ≡ graph_of (rows_in (table_read t)) = exact k (table_read t) good in
      let graph : IsGraph k (graph_of (rows_in (table_read t))) = subst (λ (g : Graph). IsGraph k g) is (read_graph k t good) in (
        good,
        record {
          standard = record { rows = rows_in (table_read t); is = is; standard = (standard_decides (rows_in (table_read t)) k graph).0 b.0 };
          free = (free_decides is_monoid (table_read t)).0 b.1;
        },
      )

  -- a table of which nothing is wrong, and that is standard
  is_by : IsFaultless k (table_read t) → IsTable is_monoid k (table_read t) → is_table is_monoid k t ≡ true
  is_by good table =
      let rows : Rows = table.standard.rows in
      let same : rows_in (table_read t) ≡ rows = ap rows_in table.standard.is ∙ rows_back rows in
      let graph : IsGraph k (graph_of rows) = subst (λ (g : Graph). IsGraph k g) table.standard.is (read_graph k t good) in
      ap₂ (λ (a b : Bool). a && b) (faultless k (table_read t) good)
      (ap₂ (λ (a b : Bool). a && b) (ap (are_numbered 0 0) same ∙ (standard_decides rows k graph).1 table.standard.standard)
      ((free_decides is_monoid (table_read t)).1 table.free))

  is_table_of : (g : Graph) → IsTextOf k t g → IsTable is_monoid k g → is_table is_monoid k t ≡ true
  is_table_of g text table = is_by text.good (subst (IsTable is_monoid k) (sym text.is) table)

  no_table : (is_table is_monoid k t ≡ true → ⊥) → table_of is_monoid k t ≡ Err BadTable
  no_table h = go (is_table is_monoid k t) refl
    where
      go : (b : Bool) → is_table is_monoid k t ≡ b → table_of is_monoid k t ≡ Err BadTable
      go true e = absurd (h e)
      go false e = ap (λ (b : Bool). if b then Ok (table_read t) else Err BadTable) e

  -- a text that is refused
  pub table_refused : (f : TableFault) → ((place : ℕ) → f ≡ fault.BadTable place → IsLeastFault k (table_read t) place) → IsLineFault (table_of is_monoid k t) (fault_of_table f)
  table_refused (fault.BadTable place) bad = no_table (λ h. (table_is h).0 place (bad place refl).is)
  table_refused fault.NoMemory bad = tt

  -- a table that is not standard
  pub not_standard : (IsStandardGraph k (table_read t) → ⊥) → table_of is_monoid k t ≡ Err BadTable
  not_standard other = no_table (λ h. other (table_is h).1.standard)

  -- a table of a semigroup with an edge into the root
  pub not_free : is_monoid ≡ false → (HasFreeRoot (table_read t) → ⊥) → table_of is_monoid k t ≡ Err BadTable
  not_free semigroup edge = no_table (λ h. edge ((table_is h).1.free semigroup))

  -- what is taken is the text of a table, and such a text is taken
  pub taken_is : (g : Graph) → table_of is_monoid k t ≡ Ok g → IsTextOf k t g × IsTable is_monoid k g
  taken_is g = go (is_table is_monoid k t) refl
    where
      go : (b : Bool) → is_table is_monoid k t ≡ b → ◌≡◌ {A = Result Graph Cause} (if b then Ok (table_read t) else Err BadTable) (Ok g) → IsTextOf k t g × IsTable is_monoid k g
      go true e h = let same : table_read t ≡ g = cc in (record { good = (table_is e).0; is = same }, subst (IsTable is_monoid k) same (table_is e).1)
      go false e h = absurd (cc)

  pub is_taken : (g : Graph) → IsTextOf k t g → IsTable is_monoid k g → table_of is_monoid k t ≡ Ok g
  is_taken g text table = ap (λ (b : Bool). if b then Ok (table_read t) else Err BadTable) (is_table_of g text table) ∙ ap (λ (g : Graph). Ok g) text.is

  pub table_taken : IsFaultless k (table_read t) → IsTable is_monoid k (table_read t) → table_of is_monoid k t ≡ Ok (table_read t)
  table_taken good table = is_taken (table_read t) (record { good = good; is = refl }) table

  -- a bad table is the text of none
  bad_is_none : table_of is_monoid k t ≡ Err BadTable → (g : Graph) → IsTextOf k t g → IsTable is_monoid k g → ⊥
  bad_is_none h g text table = let e : ◌≡◌ {A = Result Graph Cause} (Err BadTable) (Ok g) = sym h ∙ is_taken g text table in cc

  none_is_bad : ((g : Graph) → IsTextOf k t g → IsTable is_monoid k g → ⊥) → table_of is_monoid k t ≡ Err BadTable
  none_is_bad none = no_table (λ h. let table = table_is h in none (table_read t) (record { good = table.0; is = refl }) table.1)

-- what is taken, if it passes a test, and is refused for the cause if it does not
module _ {A : Type 0} (test : A → Bool) (cause : Cause) where
  abbrev pub tested : Result A Cause → Result A Cause
  tested = and_then (λ x. if test x then Ok x else Err cause)

  pub passes : (r : Result A Cause) (x : A) → r ≡ Ok x → test x ≡ true → tested r ≡ Ok x
  passes r x taken h = ap tested taken ∙ ap (λ (b : Bool). if b then Ok x else Err cause) h

  pub fails : (r : Result A Cause) (x : A) → r ≡ Ok x → test x ≡ false → tested r ≡ Err cause
  fails r x taken h = ap tested taken ∙ ap (λ (b : Bool). if b then Ok x else Err cause) h

  pub passed : (r : Result A Cause) (x : A) → tested r ≡ Ok x → (r ≡ Ok x) × (test x ≡ true)
  passed (Err c) x h = absurd (cc)
  passed (Ok y) x h = go (test y) refl h
    where
      go : (b : Bool) → test y ≡ b → ◌≡◌ {A = Result A Cause} (if b then Ok y else Err cause) (Ok x) → (◌≡◌ {A = Result A Cause} (Ok y) (Ok x)) × (test x ≡ true)
      go true e h = let same : y ≡ x = cc in (h, ap test (sym same) ∙ e)
      go false e h = absurd (cc)

  -- a cause of refusal is that of the test, or was there before
  pub refused_by : (r : Result A Cause) (c : Cause) → tested r ≡ Err c → (r ≡ Err c) ⊎ ((x : A) × (r ≡ Ok x) × (test x ≡ false) × (cause ≡ c))
  refused_by (Err d) c h = inl h
  refused_by (Ok y) c h = inr (go (test y) refl h)
    where
      go : (b : Bool) → test y ≡ b → ◌≡◌ {A = Result A Cause} (if b then Ok y else Err cause) (Err c) → (x : A) × (◌≡◌ {A = Result A Cause} (Ok y) (Ok x)) × (test x ≡ false) × (cause ≡ c)
      go true e h = absurd (cc)
      go false e h = (y, refl, e, cc)

-- tables of few classes

module _ (is_monoid : Bool) (k n : ℕ) (t : List ℕ) where
  pub low_taken_is : (g : Graph) → low_table_of is_monoid k n t ≡ Ok g → IsTextOf k t g × IsLowTable is_monoid k n g
  low_taken_is g h =
      let both = passed (λ (g : Graph). nat_le (length g) (most_nodes is_monoid n)) BadTable (table_of is_monoid k t) g h in
      let table = taken_is is_monoid k t g both.0 in
      (table.0, record { table = table.1; few = leb-true (length g) (most_nodes is_monoid n) both.1 })

  pub low_is_taken : (g : Graph) → IsTextOf k t g → IsLowTable is_monoid k n g → low_table_of is_monoid k n t ≡ Ok g
  low_is_taken g text low =
      passes (λ (g : Graph). nat_le (length g) (most_nodes is_monoid n)) BadTable (table_of is_monoid k t) g (is_taken is_monoid k t g text low.table)
      (le-leb (length g) (most_nodes is_monoid n) low.few)

-- tables at which relations hold

ends_decide : (a b : Option ℕ) → Decides (option_eq ◌==◌ a b) (a ≡ b)
ends_decide None None = (λ h. refl, λ e. refl)
ends_decide None (Some n) = (λ h. absurd (true≢false (sym h)), λ e. absurd (cc))
ends_decide (Some m) None = (λ h. absurd (true≢false (sym h)), λ e. absurd (cc))
ends_decide (Some m) (Some n) = (λ h. ap (λ (n : ℕ). Some n) (eqb-true m n h), λ e. let same : m ≡ n = cc in eq-eqb m n same)

-- both sides lead from each node to one node
abbrev pub LeadAlike : Graph → Word × Word → Type 0
LeadAlike g p = (node : ℕ) → node < length g → path g node p.0 ≡ path g node p.1

alike_decides : (g : Graph) (p : Word × Word) → Decides (have_same_ends g p.0 p.1 (length g)) (LeadAlike g p)
alike_decides g p =
    Decides-below_and (λ n. option_eq ◌==◌ (path g n p.0) (path g n p.1)) (λ n. path g n p.0 ≡ path g n p.1) (have_same_ends g p.0 p.1)
    (λ n. ends_decide (path g n p.0) (path g n p.1)) refl (λ n. refl) (length g)

pub meets_decides : (relations : List (Word × Word)) (g : Graph) → Decides (meets_relations relations g) (All (LeadAlike g) relations)
meets_decides relations g = (
  λ h i d l. (alike_decides g (get_or relations i d)).0 (AllPass-from_list_all (λ p. have_same_ends g p.0 p.1 (length g)) relations h i d l),
  λ h. list_all-from_AllPass (λ p. have_same_ends g p.0 p.1 (length g)) relations (λ i d l. (alike_decides g (get_or relations i d)).1 (h i d l)),
)

pub all_meet : (relations : List (Word × Word)) (g : Graph) → ((i : ℕ) (d : Word × Word) → i < length relations → LeadAlike g (get_or relations i d)) → true ≡ meets_relations relations g
all_meet relations g met = sym ((meets_decides relations g).1 (λ i d l. met i d l))

pub one_breaks : (relations : List (Word × Word)) (g : Graph) (i : ℕ) (d : Word × Word) → i < length relations → (LeadAlike g (get_or relations i d) → ⊥) → false ≡ meets_relations relations g
one_breaks relations g i d inside other = go (meets_relations relations g) refl
  where
    go : (m : Bool) → meets_relations relations g ≡ m → false ≡ meets_relations relations g
    go true e = absurd (other ((meets_decides relations g).0 e i d inside))
    go false e = sym e

-- a relation that is broken
different : (a b : Option ℕ) → option_eq ◌==◌ a b ≡ false → a ≢ b
different a b h e = true≢false (sym ((ends_decide a b).1 e) ∙ h)

and_false : (a b : Bool) → (a && b) ≡ false → (a ≡ false) ⊎ (b ≡ false)
and_false true b h = inr h
and_false false b h = inl refl

apart_below : (g : Graph) (r s : Word) (n : ℕ) → have_same_ends g r s n ≡ false → (node : ℕ) × (node < n) × (path g node r ≢ path g node s)
apart_below g r s zero h = absurd (true≢false h)
apart_below g r s (suc n) h = elim (and_false (option_eq ◌==◌ (path g n r) (path g n s)) (have_same_ends g r s n) h) [
  | inl here ↦ (n, omega arith, different (path g n r) (path g n s) here)
  | inr below ↦ let found = apart_below g r s n below in (found.0, omega (arith, found.1), found.2)
]

first_broken : (relations : List (Word × Word)) (g : Graph) → meets_relations relations g ≡ false
    → (p : Word × Word) × Contains relations p × (have_same_ends g p.0 p.1 (length g) ≡ false)
first_broken [] g h = absurd (true≢false h)
first_broken (p ∷ relations) g h = elim (and_false (have_same_ends g p.0 p.1 (length g)) (meets_relations relations g) h) [
  | inl here ↦ (p, (0, omega arith, refl), here)
  | inr behind ↦ let found = first_broken relations g behind in let at = found.1 in let inside = at.1 in (found.0, (suc at.0, omega (arith, inside), at.2), found.2)
]

broken : (relations : List (Word × Word)) (g : Graph) → meets_relations relations g ≡ false → BreaksRelation relations g
broken relations g h =
    let found = first_broken relations g h in
    let apart = apart_below g found.0.0 found.0.1 (length g) found.2 in
    (apart.0, found.0.0, found.0.1, apart.1, found.1, apart.2)

breaks : (relations : List (Word × Word)) (g : Graph) → BreaksRelation relations g → meets_relations relations g ≡ false
breaks relations g b = go (meets_relations relations g) refl
  where
    go : (m : Bool) → meets_relations relations g ≡ m → meets_relations relations g ≡ false
    go true e = absurd (b.5 (All-contains (LeadAlike g) relations (b.1, b.2) ((meets_decides relations g).0 e) b.4 b.0 b.3))
    go false e = e

module _ (is_monoid : Bool) (k : ℕ) (relations : List (Word × Word)) where
  abbrev over : Presentation
  over = record { letters = k; is_monoid = is_monoid; relations = relations }

  compatible_by : (g : Graph) (rows : Rows) → g ≡ graph_of rows → All (LeadAlike g) relations → IsCompatible over rows
  compatible_by g rows is all node r s inside h =
      let long : length g ≡ length rows = ap (λ (g : Graph). length g) is ∙ length-map rows (map Some) in
      subst (λ (g : Graph). path g node r ≡ path g node s) is (All-contains (LeadAlike g) relations (r, s) all h node (omega (arith, inside, long)))

  alike_by : (g : Graph) (rows : Rows) → g ≡ graph_of rows → IsCompatible over rows → All (LeadAlike g) relations
  alike_by g rows is compatible i d l node inside =
      let long : length g ≡ length rows = ap (λ (g : Graph). length g) is ∙ length-map rows (map Some) in
      subst (λ (g : Graph). path g node (get_or relations i d).0 ≡ path g node (get_or relations i d).1) (sym is)
      (compatible node (get_or relations i d).0 (get_or relations i d).1 (omega (arith, inside, long)) (Contains-get_or relations i d l))

  pub congruence_table : (g : Graph) → IsTable is_monoid k g → meets_relations relations g ≡ true → IsCongruenceTable is_monoid k relations g
  congruence_table g table h = record { table = table; compatible = compatible_by g table.standard.rows table.standard.is ((meets_decides relations g).0 h) }

  module _ (t : List ℕ) where
    pub congruence_taken_is : (g : Graph) → congruence_table_of is_monoid k relations t ≡ Ok g → IsTextOf k t g × IsCongruenceTable is_monoid k relations g
    congruence_taken_is g h =
        let both = passed (meets_relations relations) TableBreaksRelation (table_of is_monoid k t) g h in
        let table = taken_is is_monoid k t g both.0 in
        (table.0, congruence_table g table.1 both.1)

    pub congruence_is_taken : (g : Graph) → IsTextOf k t g → IsCongruenceTable is_monoid k relations g → congruence_table_of is_monoid k relations t ≡ Ok g
    congruence_is_taken g text c =
        passes (meets_relations relations) TableBreaksRelation (table_of is_monoid k t) g (is_taken is_monoid k t g text c.table)
        ((meets_decides relations g).1 (alike_by g c.table.standard.rows c.table.standard.is c.compatible))

    pub bad_table_is : congruence_table_of is_monoid k relations t ≡ Err BadTable → (g : Graph) → IsTextOf k t g → IsTable is_monoid k g → ⊥
    bad_table_is h = elim (refused_by (meets_relations relations) TableBreaksRelation (table_of is_monoid k t) BadTable h) [
      | inl before ↦ bad_is_none is_monoid k t before
      | inr tested ↦ let other = tested.3 in absurd (cc)
    ]

    pub is_bad_table : ((g : Graph) → IsTextOf k t g → IsTable is_monoid k g → ⊥) → congruence_table_of is_monoid k relations t ≡ Err BadTable
    is_bad_table none = ap (tested (meets_relations relations) TableBreaksRelation) (none_is_bad is_monoid k t none)

    not_broken : table_of is_monoid k t ≡ Err TableBreaksRelation → ⊥
    not_broken = go (is_table is_monoid k t)
      where
        go : (b : Bool) → ◌≡◌ {A = Result Graph Cause} (if b then Ok (table_read t) else Err BadTable) (Err TableBreaksRelation) → ⊥
        go true h = cc
        go false h = cc

    pub broken_is : congruence_table_of is_monoid k relations t ≡ Err TableBreaksRelation → (g : Graph) × IsTextOf k t g × IsTable is_monoid k g × BreaksRelation relations g
    broken_is h = elim (refused_by (meets_relations relations) TableBreaksRelation (table_of is_monoid k t) TableBreaksRelation h) [
      | inl before ↦ absurd (not_broken before)
      | inr found ↦ let table = taken_is is_monoid k t found.0 found.1 in (found.0, table.0, table.1, broken relations found.0 found.2)
    ]

    pub is_broken : (g : Graph) × IsTextOf k t g × IsTable is_monoid k g × BreaksRelation relations g → congruence_table_of is_monoid k relations t ≡ Err TableBreaksRelation
    is_broken b = fails (meets_relations relations) TableBreaksRelation (table_of is_monoid k t) b.0 (is_taken is_monoid k t b.0 b.1 b.2) (breaks relations b.0 b.3)
