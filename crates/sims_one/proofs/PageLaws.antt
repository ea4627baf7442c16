-- Pages of tables by their rows.
use Rattle.std.proofs.Common.{◌≡◌, ℕ, zero, suc, ◌<◌, ◌≤◌, Bool, true, false, List, [], ◌∷◌, length, map, take, get_or, Result, Ok, Err, IfOk, Option, Some, None, option_map, refl, sym, ◌∙◌, ap, subst, arith}
use Rattle.theory.specs.Congruence.{AreElements}
use Rattle.theory.specs.Graph.{Graph}
use Rattle.theory.specs.Listing.{IsNext, IsLast, IsPage}
use Rattle.theory.specs.LowIndex.{Rows, graph_of, entries, IsLowIndex, TableLess}
use Rattle.theory.specs.TwoSidedTable.{IsTwoSidedTable, IsTwoSidedLowIndex}
use Rattle.theory.proofs.Listings.{page_cons, page_length, page_none, page_same, page_tail}
use Rattle.word_graph.specs.Standard.{IsStandardGraph}
use Rattle.word_graph.specs.Table.{cut, targets_of}
use Rattle.word_graph.proofs.TableLaws.{targets_entries}
use Rattle.sims_one.specs.Targets.{table_of, cursor_of}
use Rattle.sims_one.specs.Search.{Before, IsCursor}
use Rattle.sims_one.specs.Asked.{AreFirst, Asked, IsAsked, IsWanted, IsWantedWithin, AreTables, AreTablesWithin}
use Rattle.sims_one.specs.Pages.{IsTablePage, IsTableAsked, IsPageOf}
use Rattle.sims_one.proofs.FrontLaws.{before_itself}
use Rattle.sims_one.proofs.CutLaws.{before_trans}
use Rattle.sims_one.proofs.FirstLaws.{first_same, first_take, page_of_first}
use Rattle.sims_one.proofs.LowIndexLaws.{seen_all, cut_back, standard_cursor, standard_after, graph_exact, table_flat, low_index_of, table_of_low, after_flat, flat_after, found_cursor, found_after}

pub if_ok : {T E : Type 0} (r : Result T E) (P Q : T → Type 0) → IfOk r P → ((x : T) → P x → Q x) → IfOk r Q
if_ok (Ok x) P Q h f = f x h
if_ok (Err e) P Q h f = tt

pub if_ok_thrice : {T E : Type 0} (r : Result T E) (P Q R S : T → Type 0) → IfOk r P → IfOk r Q → IfOk r R → ((x : T) → P x → Q x → R x → S x) → IfOk r S
if_ok_thrice (Ok x) P Q R S p q r f = f x p q r
if_ok_thrice (Err e) P Q R S p q r f = tt

-- the tables behind the empty front part
pub tables_whole : (a : Asked) (us : List (List ℕ)) → AreTablesWithin a [] us → AreTables a us
tables_whole a us f =
    first_take Before before_trans before_itself (IsWanted a) (Some a.cursor) (suc a.count) (suc a.count) us (omega arith)
    (first_same Before before_trans before_itself (IsWantedWithin a []) (IsWanted a) (Some a.cursor) (suc a.count) us (λ u after h. h.0) (λ u after h. (h, record { rest = u; is = refl })) f)

-- a standard table as a cursor
module _ (k : ℕ) (some : 0 < k) (g : Graph) (ts : List ℕ) (is : IsStandardGraph k g) (targets : ts ≡ targets_of g) where
  flat : ts ≡ entries is.rows
  flat = targets ∙ ap targets_of is.is ∙ targets_entries is.rows

  pub graph_cursor : IsCursor k ts
  graph_cursor = subst (IsCursor k) (sym flat) (standard_cursor k some is.rows is.standard)

  pub graph_after : (cursor : Option Rows) → Some g ≡ option_map graph_of cursor → cursor_of k ts ≡ cursor
  graph_after None e = cc
  graph_after (Some rows) e =
      let same : g ≡ graph_of rows = cc in
      ap (cursor_of k) flat ∙ standard_after k some is.rows is.standard ∙ ap (λ (r : Rows). Some r) (graph_exact is.rows rows (sym is.is ∙ same))

pub none_after : (k : ℕ) (cursor : Option Rows) → None ≡ option_map graph_of cursor → cursor_of k [] ≡ cursor
none_after k None e = refl
none_after k (Some rows) e = cc

-- what the first elements have
pub first_has : {A : Type 0} (P : A → Type 0) (Less : A → A → Type 0) (c : Option A) (n : ℕ) (xs : List A) (i : ℕ) (d : A) → AreFirst P Less c (suc n) (take (suc n) xs) → i ≤ n → i < length xs → P (get_or xs i d)
first_has P Less c n [] i d f low less = absurd (omega arith)
first_has P Less c n (x ∷ xs) zero d f low less = f.0.has
first_has P Less c zero (x ∷ xs) (suc i) d f low less = absurd (omega arith)
first_has P Less c (suc n) (x ∷ xs) (suc i) d f low less = first_has P Less (Some x) n xs i d f.1 (omega (arith, low)) (omega (arith, less))

twice : {A B C : Type 0} (f : A → B) (h : B → C) (xs : List A) → map (λ x. h (f x)) xs ≡ map h (map f xs)
twice f h [] = refl
twice f h (x ∷ xs) = ap (λ ys. h (f x) ∷ ys) (twice f h xs)

module _ (a : Asked) (some : 0 < a.presentation.letters) (elements : AreElements a.presentation.is_monoid a.presentation.letters a.presentation.relations) where
  abbrev rows_of : List ℕ → Rows
  rows_of u = table_of a.presentation.letters u

  asked_rows : (u : List ℕ) → IsWanted a u → IsTableAsked a (rows_of u)
  asked_rows u wanted = (low_index_of a.presentation a.classes some elements u wanted.table, wanted.two_sided)

  wanted_rows : (rows : Rows) → IsTableAsked a rows → IsWanted a (entries rows)
  wanted_rows rows is = record {
    table = table_of_low a.presentation a.classes some elements rows is.0;
    two_sided = λ e. subst (λ (r : Rows). IsTwoSidedTable (graph_of r)) (sym back) (is.1 e);
  }
    where
      back : rows_of (entries rows) ≡ rows
      back =
          ap (λ z. cut a.presentation.letters z (entries rows)) (seen_all a.presentation.letters some rows is.0.standard)
          ∙ cut_back a.presentation.letters rows is.0.standard.width

  next_rows : (c u : List ℕ) → IsCursor a.presentation.letters c → IsNext (IsWanted a) Before (Some c) u → IsNext (IsTableAsked a) TableLess (cursor_of a.presentation.letters c) (rows_of u)
  next_rows c u is next = record {
    has = asked_rows u next.has;
    after = flat_after a.presentation a.classes some elements c u is next.has.table next.after;
    least = λ y has after less.
        let wanted = wanted_rows y has in
        next.least (entries y) wanted (after_flat a.presentation a.classes some elements c y is wanted.table after)
        (subst (λ (xs : List ℕ). Before (entries y) xs) (table_flat a.presentation a.classes some elements u next.has.table) less);
  }

  last_rows : (c : List ℕ) → IsCursor a.presentation.letters c → IsLast (IsWanted a) Before (Some c) → IsLast (IsTableAsked a) TableLess (cursor_of a.presentation.letters c)
  last_rows c is last y has after = let wanted = wanted_rows y has in last (entries y) wanted (after_flat a.presentation a.classes some elements c y is wanted.table after)

  pub page_rows : (c : List ℕ) (n : ℕ) (us : List (List ℕ)) (more : Bool) → IsCursor a.presentation.letters c → IsPage (IsWanted a) Before (Some c) n us more
      → IsPage (IsTableAsked a) TableLess (cursor_of a.presentation.letters c) n (map rows_of us) more
  page_rows c n [] false is page = page_none (IsTableAsked a) TableLess (cursor_of a.presentation.letters c) n (last_rows c is page.end.1)
  page_rows c n [] true is page =
      let next = page.end.1 in
      record { first = tt; end = (page.end.0, (rows_of next.0, next_rows c next.0 is next.1)) }
  page_rows c zero (u ∷ us) more is page = let few = page_length (IsWanted a) Before (Some c) zero (u ∷ us) more page in absurd (omega (arith, few))
  page_rows c (suc n) (u ∷ us) more is page =
      let next = page.first.0 in
      page_cons (IsTableAsked a) TableLess (cursor_of a.presentation.letters c) n (rows_of u) (map rows_of us) more (next_rows c u is next)
      (subst (λ (o : Option Rows). IsPage (IsTableAsked a) TableLess o n (map rows_of us) more) (found_after a.presentation a.classes some elements u next.has.table)
      (page_rows u n us more (found_cursor a.presentation a.classes some elements u next.has.table) (page_tail (IsWanted a) Before (Some c) n u us more page)))

  -- the page of the tables found
  pub page_found : (us : List (List ℕ)) (graphs : List Graph) (more : Bool) → IsAsked a → AreTables a us → graphs ≡ map (λ u. graph_of (rows_of u)) (take a.count us)
      → (a.count < length us → more ≡ true) → (length us ≤ a.count → more ≡ false) → IsPageOf a graphs more
  page_found us graphs more is tables are longer shorter = record {
    rows = map rows_of (take a.count us);
    are = are ∙ twice rows_of graph_of (take a.count us);
    page = page_rows a.cursor a.count (take a.count us) more is.cursor (page_of_first (IsWanted a) Before (Some a.cursor) a.count us more longer shorter tables);
  }

module _ (a : Asked) (graphs : List Graph) (more : Bool) (cursor : Option Rows) (after : cursor_of a.presentation.letters a.cursor ≡ cursor) (page : IsPageOf a graphs more) where
  pub page_any : a.two_sided ≡ false → IsTablePage (IsLowIndex a.presentation a.classes) cursor a.count graphs more
  page_any any = record {
    rows = page.rows;
    are = page.are;
    page = page_same (IsTableAsked a) (IsLowIndex a.presentation a.classes) TableLess (λ r. (λ h. h.0, λ h. (h, λ e. let bad : false ≡ true = sym any ∙ e in cc))) cursor a.count page.rows more
        (subst (λ (o : Option Rows). IsPage (IsTableAsked a) TableLess o a.count page.rows more) after page.page);
  }

  pub page_both : a.two_sided ≡ true → IsTablePage (IsTwoSidedLowIndex a.presentation a.classes) cursor a.count graphs more
  page_both both = record {
    rows = page.rows;
    are = page.are;
    page = page_same (IsTableAsked a) (IsTwoSidedLowIndex a.presentation a.classes) TableLess (λ r. (λ h. record { low = h.0; two_sided = h.1 both }, λ h. (h.low, λ e. h.two_sided))) cursor a.count page.rows more
        (subst (λ (o : Option Rows). IsPage (IsTableAsked a) TableLess o a.count page.rows more) after page.page);
  }
