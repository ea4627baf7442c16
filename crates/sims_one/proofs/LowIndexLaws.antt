-- Tables as rows, and as lists of targets.
use Rattle.std.proofs.Common.{◌≡◌, ◌≢◌, ℕ, zero, suc, ◌+◌, ◌*◌, ◌/◌, ◌%◌, ◌-◌, max, ◌<◌, ◌≤◌, Bool, true, false, List, [], ◌∷◌, ◌++◌, length, map, take, drop, get_or, slice_get, All, Contains, Option, Some, None, option_and_then, refl, sym, ◌∙◌, ap, ap₂, subst, subst₂, arith, ◌⊎◌, inl, inr, length-append}
use Rattle.std.specs.Option.{unwrap_or}
use Rattle.std.proofs.Math.Seq.{take-append-add, take-nil}
use Rattle.std.proofs.lemmas.Bool.{cases_lt}
use Rattle.std.proofs.lemmas.List.{length-map, take_at, drop_at, take-append-drop}
use Rattle.std.proofs.lemmas.List.Elements.{All-head, All-tail, All-contains, All-from_get_or}
use Rattle.theory.specs.Word.{Word, IsOver}
use Rattle.theory.specs.Congruence.{Presentation, AreElements}
use Rattle.theory.specs.Listing.{IsAfter, IsNext, IsLast}
use Rattle.theory.specs.Graph.{target, path, IsGraph}
use Rattle.theory.specs.LowIndex.{Rows, graph_of, entries, IsNumberedFrom, IsStandard, IsCompatible, HasAtMostClasses, IsLowIndex, TableLess}
use Rattle.theory.proofs.GraphLaws.{complete_path}
use Rattle.word_graph.specs.Numbered.{max_from}
use Rattle.word_graph.specs.Table.{HasWidth, cut}
use Rattle.word_graph.proofs.NumberLaws.{numbered_front, numbered_has, entry_found, entry_there, entry_below, start_below, rows_complete}
use Rattle.word_graph.proofs.TableLaws.{cut_long, cut_wide, cut_entries, graph_is}
use Rattle.sims_one.specs.Targets.{seen, table_of, cursor_of, path_in, IsFront, IsTable, least_target, most_nodes}
use Rattle.sims_one.specs.Search.{Before, IsCursor, IsLeastAfter, NoneAfter}
use Rattle.sims_one.proofs.FrontLaws.{max_below, times_more, seen_more}
use Rattle.sims_one.proofs.PathLaws.{relation_over}

-- an edge, by rows and by targets
get_left : (k : ℕ) (row rest : List ℕ) (a : ℕ) → a < length row → unwrap_or (slice_get (map Some row) a) None ≡ slice_get (row ++ rest) a
get_left k [] rest a h = absurd (omega arith)
get_left k (x ∷ row) rest zero h = refl
get_left k (x ∷ row) rest (suc a) h = get_left k row rest a (omega arith)

get_right : (row rest : List ℕ) (i : ℕ) → slice_get (row ++ rest) (length row + i) ≡ slice_get rest i
get_right [] rest i = ap (slice_get rest) (omega arith)
get_right (x ∷ row) rest i = let e : suc (length row) + i ≡ suc (length row + i) = omega arith in ap (slice_get (x ∷ (row ++ rest))) e ∙ get_right row rest i

pub target_flat : (k : ℕ) (rows : Rows) (node a : ℕ) → HasWidth k rows → a < k → target (graph_of rows) node a ≡ slice_get (entries rows) (node * k + a)
target_flat k [] node a wide h = refl
target_flat k (row ∷ rows) zero a wide h =
    let width : length row ≡ k = All-head (λ (r : List ℕ). length r ≡ k) row rows wide in
    let e : a ≡ 0 * k + a = omega arith in
    get_left k row (entries rows) a (omega arith) ∙ ap (slice_get (row ++ entries rows)) e
target_flat k (row ∷ rows) (suc node) a wide h =
    let width : length row ≡ k = All-head (λ (r : List ℕ). length r ≡ k) row rows wide in
    let e : length row + (node * k + a) ≡ suc node * k + a = omega arith in
    target_flat k rows node a (All-tail (λ (r : List ℕ). length r ≡ k) row rows wide) h
    ∙ sym (get_right row (entries rows) (node * k + a)) ∙ ap (slice_get (row ++ entries rows)) e

pub path_flat : (k : ℕ) (rows : Rows) (node : ℕ) (w : Word) → HasWidth k rows → IsOver k w → path (graph_of rows) node w ≡ path_in k (entries rows) node w
path_flat k rows node [] wide over = refl
path_flat k rows node (a ∷ w) wide over = go (target (graph_of rows) node a) (slice_get (entries rows) (node * k + a)) (target_flat k rows node a wide over.0) (λ next. path_flat k rows next w wide over.1)
  where
    go : (s t : Option ℕ) → s ≡ t → ((next : ℕ) → path (graph_of rows) next w ≡ path_in k (entries rows) next w)
        → option_and_then (λ next. path (graph_of rows) next w) s ≡ option_and_then (λ next. path_in k (entries rows) next w) t
    go None None e further = refl
    go None (Some n) e further = cc
    go (Some m) None e further = cc
    go (Some m) (Some n) e further = let same : m ≡ n = cc in further m ∙ ap (λ z. path_in k (entries rows) z w) same

-- the targets of the first rows
pub entries_take : (k : ℕ) (rows : Rows) (n : ℕ) → HasWidth k rows → entries (take n rows) ≡ take (n * k) (entries rows)
entries_take k rows zero wide = let e : 0 ≡ 0 * k = omega arith in ap (λ z. take z (entries rows)) e
entries_take k [] (suc n) wide = sym (take-nil {A = ℕ} (suc n * k))
entries_take k (row ∷ rows) (suc n) wide =
    let width : length row ≡ k = All-head (λ (r : List ℕ). length r ≡ k) row rows wide in
    let e : length row + n * k ≡ suc n * k = omega arith in
    ap (λ z. row ++ z) (entries_take k rows n (All-tail (λ (r : List ℕ). length r ≡ k) row rows wide))
    ∙ sym (take-append-add row (entries rows) (n * k)) ∙ ap (λ z. take z (row ++ entries rows)) e

pub entries_long : (k : ℕ) (rows : Rows) → HasWidth k rows → length (entries rows) ≡ k * length rows
entries_long k [] wide = omega arith
entries_long k (row ∷ rows) wide =
    let width : length row ≡ k = All-head (λ (r : List ℕ). length r ≡ k) row rows wide in
    omega (arith, length-append row (entries rows), entries_long k rows (All-tail (λ (r : List ℕ). length r ≡ k) row rows wide), width)

pub cut_back : (k : ℕ) (rows : Rows) → HasWidth k rows → cut k (length rows) (entries rows) ≡ rows
cut_back k [] wide = refl
cut_back k (row ∷ rows) wide =
    let width : length row ≡ k = All-head (λ (r : List ℕ). length r ≡ k) row rows wide in
    ap₂ (λ (r : List ℕ) (rs : Rows). r ∷ rs) (take_at row (entries rows) k width)
    (ap (cut k (length rows)) (drop_at row (entries rows) k width) ∙ cut_back k rows (All-tail (λ (r : List ℕ). length r ≡ k) row rows wide))

-- more targets, and the greatest of them
max_take : (s : ℕ) (xs : List ℕ) (m n : ℕ) → m ≤ n → max_from s (take m xs) ≤ max_from s (take n xs)
max_take s xs zero n h = start_below s (take n xs)
max_take s [] (suc m) zero h = absurd (omega arith)
max_take s [] (suc m) (suc n) h = omega arith
max_take s (x ∷ xs) (suc m) zero h = absurd (omega arith)
max_take s (x ∷ xs) (suc m) (suc n) h = max_take (max s x) xs m n (omega arith)

-- standard rows as targets
module _ (k : ℕ) (some : 0 < k) (rows : Rows) (standard : IsStandard k rows) where
  -- a node that is not the root is a target before its row
  seen_before : (node : ℕ) → 0 < node → node < length rows → node < seen (take (node * k) (entries rows))
  seen_before node more h =
      let f = standard.appears node more h in
      let g = entry_there rows node f.0 f.1 node f.2 f.3 in
      let below = entry_below 0 (entries (take node rows)) g.0 g.1 in
      let same : max_from 0 (entries (take node rows)) ≡ max_from 0 (take (node * k) (entries rows)) = ap (max_from 0) (entries_take k rows node standard.width) in
      omega (arith, below, g.2, same)

  pub seen_all : seen (entries rows) ≡ length rows
  seen_all = omega (arith, most, least)
    where
      most : seen (entries rows) ≤ length rows
      most = let h = max_below (length rows) 0 (entries rows) standard.rooted standard.nodes in omega (arith, h)

      front_of : (n : ℕ) → seen (take n (entries rows)) ≤ seen (entries rows)
      front_of n = subst (λ (xs : List ℕ). seen (take n (entries rows)) ≤ seen xs) (take-append-drop n (entries rows)) (seen_more (take n (entries rows)) (drop n (entries rows)))

      least : length rows ≤ seen (entries rows)
      least = elim (cases_lt 1 (length rows)) [
        | inl h ↦
            let last = length rows - 1 in
            omega (arith, h, seen_before last (omega (arith, h)) (omega (arith, h)), front_of (last * k))
        | inr h ↦ omega (arith, h)
      ]

  pub standard_full : length (entries rows) ≡ k * seen (entries rows)
  standard_full = entries_long k rows standard.width ∙ ap (λ z. k * z) (sym seen_all)

  goes_on : (j : ℕ) → j < length (entries rows) → j < k * seen (take j (entries rows))
  goes_on j h = go (j / k) (j % k) (omega arith) (omega arith) (cases_lt 0 (j / k))
    where
      go : (q r : ℕ) → k * q + r ≡ j → r < k → (0 < q) ⊎ (q ≤ 0) → j < k * seen (take j (entries rows))
      go q r parts small (inr none) =
          let zero_q : q ≡ 0 = omega arith in
          let zero_kq : k * q ≡ k * 0 = ap (λ z. k * z) zero_q in
          omega (arith, zero_kq, times_more k 1 (seen (take j (entries rows))) (omega arith))
      go q r parts small (inl more) =
          let inside : q < length rows = elim (cases_lt q (length rows)) [
            | inl l ↦ l
            | inr l ↦ absurd (omega (arith, times_more k (length rows) q l, h, entries_long k rows standard.width, parts))
          ] in
          let here = seen_before q more inside in
          let front : q * k ≤ j = omega (arith, parts) in
          let further : seen (take (q * k) (entries rows)) ≤ seen (take j (entries rows)) = omega (arith, max_take 0 (entries rows) (q * k) j front) in
          omega (arith, parts, small, times_more k (suc q) (seen (take j (entries rows))) (omega (arith, here, further)))

  pub standard_front : IsFront k (entries rows)
  standard_front = record { numbered = standard.numbered; goes_on = goes_on; fits = omega (arith, standard_full) }

  pub standard_cursor : IsCursor k (entries rows)
  standard_cursor = record { front = standard_front; full = inr standard_full }

-- a relation's words are words over the letters
pub relation_words : (p : Presentation) → AreElements p.is_monoid p.letters p.relations → (r s : Word) → Contains p.relations (r, s) → IsOver p.letters r × IsOver p.letters s
relation_words p elements r s m =
    All-contains (λ q. IsOver p.letters q.0 × IsOver p.letters q.1) p.relations (r, s) (relation_over p.is_monoid p.letters p.relations elements) m

module _ (p : Presentation) (n : ℕ) (some : 0 < p.letters) (elements : AreElements p.is_monoid p.letters p.relations) where
  -- tables of the search are tables of low index
  module _ (t : List ℕ) (table : IsTable p n t) where
    long : length t ≡ seen t * p.letters
    long = omega (arith, table.full)

    wide : HasWidth p.letters (table_of p.letters t)
    wide = cut_wide p.letters (seen t) t long

    size : length (table_of p.letters t) ≡ seen t
    size = cut_long p.letters (seen t) t

    flat : entries (table_of p.letters t) ≡ t
    flat = cut_entries p.letters (seen t) t long

    pub table_flat : entries (table_of p.letters t) ≡ t
    table_flat = flat

    within : All (λ m. m < seen t) t
    within = All-from_get_or (λ m. m < seen t) t 0 (λ b h. omega (arith, entry_below 0 t b h))

    nodes : All (λ m. m < length (table_of p.letters t)) (entries (table_of p.letters t))
    nodes = subst₂ (λ (b : ℕ) (xs : List ℕ). All (λ m. m < b) xs) (sym size) (sym flat) within

    rooted : 0 < length (table_of p.letters t)
    rooted = omega (arith, size)

    appears : (node : ℕ) → 0 < node → node < length (table_of p.letters t)
        → (before letter : ℕ) × (before < node) × (target (graph_of (table_of p.letters t)) before letter ≡ Some node)
    appears node more h =
        let below : node < seen t = omega (arith, h, size) in
        let inside : node * p.letters < length t = omega (arith, long, times_more p.letters (suc node) (seen t) below, some) in
        let at : node * p.letters < p.letters * seen (take (node * p.letters) t) = table.front.goes_on (node * p.letters) inside in
        let here : node ≤ max_from 0 (take (node * p.letters) t) = elim (cases_lt (max_from 0 (take (node * p.letters) t)) node) [
          | inl l ↦ absurd (omega (arith, at, times_more p.letters (seen (take (node * p.letters) t)) node l))
          | inr l ↦ l
        ] in
        let numbered = numbered_front 0 (take (node * p.letters) t) (drop (node * p.letters) t) (subst (λ (xs : List ℕ). IsNumberedFrom 0 xs) (sym (take-append-drop (node * p.letters) t)) table.front.numbered) in
        let f = numbered_has 0 node (take (node * p.letters) t) numbered more here in
        let same : entries (take node (table_of p.letters t)) ≡ take (node * p.letters) t = entries_take p.letters (table_of p.letters t) node wide ∙ ap (take (node * p.letters)) flat in
        let g = entry_found (table_of p.letters t) node f.0 (omega (arith, f.1, ap length same)) in
        (g.0, g.1, g.2, g.3 ∙ ap (λ z. Some z) (ap (λ (xs : List ℕ). get_or xs f.0 0) same ∙ f.2))

    standard : IsStandard p.letters (table_of p.letters t)
    standard = record {
      rooted = rooted;
      width = wide;
      nodes = nodes;
      numbered = subst (λ (xs : List ℕ). IsNumberedFrom 0 xs) (sym flat) table.front.numbered;
      appears = appears;
    }

    graph : IsGraph p.letters (graph_of (table_of p.letters t))
    graph = graph_is p.letters (table_of p.letters t) rooted wide nodes

    compatible : IsCompatible p (table_of p.letters t)
    compatible node r s h m =
        let words = relation_words p elements r s m in
        let inside : node < length (graph_of (table_of p.letters t)) = omega (arith, h, length-map (table_of p.letters t) (map Some)) in
        let complete = rows_complete p.letters (table_of p.letters t) standard in
        let left = complete_path p.letters (graph_of (table_of p.letters t)) graph complete r node inside words.0 in
        let right = complete_path p.letters (graph_of (table_of p.letters t)) graph complete s node inside words.1 in
        let left' : path_in p.letters t node r ≡ Some left.0 = ap (λ (xs : List ℕ). path_in p.letters xs node r) (sym flat) ∙ sym (path_flat p.letters (table_of p.letters t) node r wide words.0) ∙ left.1 in
        let right' : path_in p.letters t node s ≡ Some right.0 = ap (λ (xs : List ℕ). path_in p.letters xs node s) (sym flat) ∙ sym (path_flat p.letters (table_of p.letters t) node s wide words.1) ∙ right.1 in
        let same : left.0 ≡ right.0 = table.sound node r s (omega (arith, h, size)) m left.0 right.0 left' right' in
        left.1 ∙ ap (λ z. Some z) same ∙ sym right.1

    -- some target is there, so the most nodes are some
    few : seen t ≤ most_nodes p.is_monoid n
    few =
        let one : 0 < length t = omega (arith, long, times_more p.letters 1 (seen t) (omega arith), some) in
        let most : 0 < most_nodes p.is_monoid n = omega (arith, (table.allowed 0 0 one).1) in
        max_below (most_nodes p.is_monoid n) 0 t most (λ i d h. (table.allowed i d h).1)

    size_for : (is_monoid : Bool) → seen t ≤ most_nodes is_monoid n → All (λ m. least_target is_monoid ≤ m) t → HasAtMostClasses is_monoid n (table_of p.letters t)
    size_for true most least = omega (arith, size, most)
    size_for false most least = (omega (arith, size, most), subst (λ (xs : List ℕ). All (λ m. m ≢ 0) xs) (sym flat) (λ i d h e. omega (arith, least i d h, e)))

    pub low_index_of : IsLowIndex p n (table_of p.letters t)
    low_index_of = record { standard = standard; compatible = compatible; size = size_for p.is_monoid few (λ i d h. (table.allowed i d h).0) }

  -- and those of low index are tables of the search
  allowed_for : (is_monoid : Bool) (rows : Rows) → All (λ m. m < length rows) (entries rows) → HasAtMostClasses is_monoid n rows
      → All (λ m. (least_target is_monoid ≤ m) × (m < most_nodes is_monoid n)) (entries rows)
  allowed_for true rows nodes size = λ i d h. (omega arith, omega (arith, nodes i d h, size))
  allowed_for false rows nodes size = λ i d h. (omega (arith, nonzero (get_or (entries rows) i d) (size.1 i d h)), omega (arith, nodes i d h, size.0))
    where
      nonzero : (m : ℕ) → (m ≡ 0 → ⊥) → 1 ≤ m
      nonzero zero h = absurd (h refl)
      nonzero (suc m) h = omega arith

  pub table_of_low : (rows : Rows) → IsLowIndex p n rows → IsTable p n (entries rows)
  table_of_low rows low = record {
    front = standard_front p.letters some rows low.standard;
    allowed = allowed_for p.is_monoid rows low.standard.nodes low.size;
    full = standard_full p.letters some rows low.standard;
    sound = λ node r s h m a b ea eb.
        let words = relation_words p elements r s m in
        let inside : node < length rows = omega (arith, h, seen_all p.letters some rows low.standard) in
        let same : Some a ≡ Some b =
        sym ea ∙ sym (path_flat p.letters rows node r low.standard.width words.0) ∙ low.compatible node r s inside m ∙ path_flat p.letters rows node s low.standard.width words.1 ∙ eb in
        cc;
  }

  -- what comes after the cursor
  pub after_flat : (cursor : List ℕ) (rows : Rows) → IsCursor p.letters cursor → IsTable p n (entries rows) → IsAfter TableLess (cursor_of p.letters cursor) rows → Before cursor (entries rows)
  after_flat [] rows is table h = go (entries rows) table.full
    where
      go : (xs : List ℕ) → length xs ≡ p.letters * seen xs → Before [] xs
      go [] full = absurd (omega (arith, full))
      go (x ∷ xs) full = refl
  after_flat (m ∷ ms) rows is table h = subst (λ (xs : List ℕ). Before xs (entries rows)) (cursor_flat is.full) h
    where
      cursor_flat : ((m ∷ ms) ≡ []) ⊎ (length (m ∷ ms) ≡ p.letters * seen (m ∷ ms)) → entries (table_of p.letters (m ∷ ms)) ≡ m ∷ ms
      cursor_flat (inl none) = cc
      cursor_flat (inr full) = cut_entries p.letters (seen (m ∷ ms)) (m ∷ ms) (omega (arith, full))

  pub flat_after : (cursor : List ℕ) (t : List ℕ) → IsCursor p.letters cursor → IsTable p n t → Before cursor t → IsAfter TableLess (cursor_of p.letters cursor) (table_of p.letters t)
  flat_after [] t is table h = tt
  flat_after (m ∷ ms) t is table h = subst₂ Before (sym (cursor_flat is.full)) (sym (table_flat t table)) h
    where
      cursor_flat : ((m ∷ ms) ≡ []) ⊎ (length (m ∷ ms) ≡ p.letters * seen (m ∷ ms)) → entries (table_of p.letters (m ∷ ms)) ≡ m ∷ ms
      cursor_flat (inl none) = cc
      cursor_flat (inr full) = cut_entries p.letters (seen (m ∷ ms)) (m ∷ ms) (omega (arith, full))

  pub next_of : (cursor found : List ℕ) → IsCursor p.letters cursor → IsLeastAfter p n cursor found → IsNext (IsLowIndex p n) TableLess (cursor_of p.letters cursor) (table_of p.letters found)
  next_of cursor found is l = record {
    has = low_index_of found l.table;
    after = flat_after cursor found is l.table l.after;
    least = λ y low after less.
        l.least (entries y) (table_of_low y low) (after_flat cursor y is (table_of_low y low) after)
        (subst (λ (xs : List ℕ). Before (entries y) xs) (table_flat found l.table) less);
  }

  pub last_of : (cursor : List ℕ) → IsCursor p.letters cursor → NoneAfter p n cursor → IsLast (IsLowIndex p n) TableLess (cursor_of p.letters cursor)
  last_of cursor is none y low after = none (entries y) (table_of_low y low) (after_flat cursor y is (table_of_low y low) after)

  pub found_cursor : (found : List ℕ) → IsTable p n found → IsCursor p.letters found
  found_cursor found table = record { front = table.front; full = inr table.full }

  pub found_after : (found : List ℕ) → IsTable p n found → cursor_of p.letters found ≡ Some (table_of p.letters found)
  found_after [] table = absurd (omega (arith, table.full))
  found_after (m ∷ ms) table = refl

  pub found_nodes : (found : List ℕ) → IsTable p n found → All (λ m. m < seen found) found
  found_nodes found table = All-from_get_or (λ m. m < seen found) found 0 (λ b h. omega (arith, entry_below 0 found b h))

-- a standard table as a cursor
pub standard_after : (k : ℕ) (some : 0 < k) (rows : Rows) → IsStandard k rows → cursor_of k (entries rows) ≡ Some rows
standard_after k some rows standard = go (entries rows) (entries_some (entries rows) (standard_full k some rows standard)) ∙ ap (λ z. Some z) (ap (λ z. cut k z (entries rows)) (seen_all k some rows standard) ∙ cut_back k rows standard.width)
  where
    entries_some : (xs : List ℕ) → length xs ≡ k * seen xs → 0 < length xs
    entries_some xs full = omega (arith, full, times_more k 1 (seen xs) (omega arith), some)

    go : (xs : List ℕ) → 0 < length xs → cursor_of k xs ≡ Some (table_of k xs)
    go [] h = absurd (omega arith)
    go (x ∷ xs) h = refl

-- rows are determined by their graph
row_back : (row : List ℕ) → map (λ t. unwrap_or t 0) (map Some row) ≡ row
row_back [] = refl
row_back (x ∷ row) = ap (λ (r : List ℕ). x ∷ r) (row_back row)

rows_back : (rows : Rows) → map (map (λ t. unwrap_or t 0)) (graph_of rows) ≡ rows
rows_back [] = refl
rows_back (row ∷ rows) = ap₂ (λ (r : List ℕ) (rs : Rows). r ∷ rs) (row_back row) (rows_back rows)

pub graph_exact : (s t : Rows) → graph_of s ≡ graph_of t → s ≡ t
graph_exact s t e = sym (rows_back s) ∙ ap (map (map (λ (x : Option ℕ). unwrap_or x 0))) e ∙ rows_back t
