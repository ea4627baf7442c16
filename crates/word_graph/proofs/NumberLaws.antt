-- Rows that are numbered by first appearance, read row by row.
use Rattle.std.proofs.Common.{◌≡◌, ℕ, zero, suc, ◌+◌, ◌<◌, ◌≤◌, max, List, [], ◌∷◌, ◌++◌, length, map, take, drop, get_or, ◌-◌, refl, sym, ◌∙◌, ap, subst, arith, ◌⊎◌, inl, inr, Option, Some, None, append_assoc, length-append, cond, nat_lt, false}
use Rattle.std.proofs.lemmas.Bool.{cases_lt}
use Rattle.std.proofs.lemmas.List.{get_or_append_left, get_or-append-add, get_or-map, take_more, take_all, flat_map_more, take-append-drop, length-map}
use Rattle.theory.specs.Graph.{target, IsGraph, IsComplete}
use Rattle.theory.specs.LowIndex.{Rows, graph_of, entries, IsNumberedFrom, IsStandard}
use Rattle.word_graph.specs.Numbered.{max_from, seen_at, IsSeenTo}
use Rattle.word_graph.proofs.WalkLaws.{some_same}
use Rattle.word_graph.proofs.WordLaws.{less_true}
use Rattle.word_graph.proofs.RowLaws.{entry_is, entry_past, entries_all}

pub numbered_front : (s : ℕ) (xs ys : List ℕ) → IsNumberedFrom s (xs ++ ys) → IsNumberedFrom s xs
numbered_front s [] ys h = tt
numbered_front s (x ∷ xs) ys h = (h.0, numbered_front (max s x) xs ys h.1)

pub numbered_behind : (s : ℕ) (xs ys : List ℕ) → IsNumberedFrom s (xs ++ ys) → IsNumberedFrom (max_from s xs) ys
numbered_behind s [] ys h = h
numbered_behind s (x ∷ xs) ys h = numbered_behind (max s x) xs ys h.1

pub numbered_append : (s : ℕ) (xs ys : List ℕ) → IsNumberedFrom s xs → IsNumberedFrom (max_from s xs) ys → IsNumberedFrom s (xs ++ ys)
numbered_append s [] ys h k = k
numbered_append s (x ∷ xs) ys h k = (h.0, numbered_append (max s x) xs ys h.1 k)

pub max_append : (s : ℕ) (xs ys : List ℕ) → max_from s (xs ++ ys) ≡ max_from (max_from s xs) ys
max_append s [] ys = refl
max_append s (x ∷ xs) ys = max_append (max s x) xs ys

pub start_below : (s : ℕ) (xs : List ℕ) → s ≤ max_from s xs
start_below s [] = omega arith
start_below s (x ∷ xs) = let h = start_below (max s x) xs in omega (arith, h)

-- each entry is at most the greatest
pub entry_below : (s : ℕ) (xs : List ℕ) (b : ℕ) → b < length xs → get_or xs b 0 ≤ max_from s xs
entry_below s [] b h = absurd (omega arith)
entry_below s (x ∷ xs) zero h = let k = start_below (max s x) xs in omega (arith, k)
entry_below s (x ∷ xs) (suc b) h = entry_below (max s x) xs b (omega arith)

-- where entries are numbered, each number up to the greatest is one of them
pub numbered_has : (s x : ℕ) (xs : List ℕ) → IsNumberedFrom s xs → s < x → x ≤ max_from s xs → (b : ℕ) × (b < length xs) × (get_or xs b 0 ≡ x)
numbered_has s x [] h less most = absurd (omega arith)
numbered_has s x (n ∷ xs) h less most = go (cases_lt (max s n) x) (λ more. numbered_has (max s n) x xs h.1 more most)
  where
    go : (max s n < x) ⊎ (x ≤ max s n) → (max s n < x → (b : ℕ) × (b < length xs) × (get_or xs b 0 ≡ x))
        → (b : ℕ) × (b < suc (length xs)) × (get_or (n ∷ xs) b 0 ≡ x)
    go (inl more) further = let f = further more in (suc f.0, omega (arith, f.1), f.2)
    go (inr here) further = (0, omega arith, omega (arith, h.0))

-- an entry of the first rows is where an edge leads
pub entry_found : (rows : Rows) (n b : ℕ) → b < length (entries (take n rows))
    → (i c : ℕ) × (i < n) × (target (graph_of rows) i c ≡ Some (get_or (entries (take n rows)) b 0))
entry_found rows zero b h = absurd (omega arith)
entry_found [] (suc n) b h = absurd (omega arith)
entry_found (row ∷ rows) (suc n) b h = go (cases_lt b (length row)) (λ d l. entry_found rows n d l)
  where
    behind : (d : ℕ) → length row + d ≡ b
        → ((d : ℕ) → d < length (entries (take n rows)) → (i c : ℕ) × (i < n) × (target (graph_of rows) i c ≡ Some (get_or (entries (take n rows)) d 0)))
        → (i c : ℕ) × (i < suc n) × (target (graph_of (row ∷ rows)) i c ≡ Some (get_or (row ++ entries (take n rows)) b 0))
    behind d e further =
        let f = further d (omega (arith, e, h, length-append row (entries (take n rows)))) in
        let same : get_or (row ++ entries (take n rows)) b 0 ≡ get_or (entries (take n rows)) d 0 =
        ap (λ z. get_or (row ++ entries (take n rows)) z 0) (sym e) ∙ get_or-append-add row (entries (take n rows)) d 0 in
        (suc f.0, f.1, omega (arith, f.2), f.3 ∙ ap (λ z. Some z) (sym same))

    go : (b < length row) ⊎ (length row ≤ b)
        → ((d : ℕ) → d < length (entries (take n rows)) → (i c : ℕ) × (i < n) × (target (graph_of rows) i c ≡ Some (get_or (entries (take n rows)) d 0)))
        → (i c : ℕ) × (i < suc n) × (target (graph_of (row ∷ rows)) i c ≡ Some (get_or (row ++ entries (take n rows)) b 0))
    go (inl l) further = (0, b, omega arith, entry_is row b l ∙ ap (λ z. Some z) (sym (get_or_append_left row (entries (take n rows)) 0 b l)))
    go (inr l) further = behind (b - length row) (omega (arith, l)) further

-- and where an edge of the first rows leads is an entry
pub entry_there : (rows : Rows) (n i c x : ℕ) → i < n → target (graph_of rows) i c ≡ Some x
    → (b : ℕ) × (b < length (entries (take n rows))) × (get_or (entries (take n rows)) b 0 ≡ x)
entry_there rows zero i c x h e = absurd (omega arith)
entry_there [] (suc n) i c x h e = cc
entry_there (row ∷ rows) (suc n) zero c x h e =
    let inside : c < length row = entry_past row c x e in
    let is : Some (get_or row c 0) ≡ Some x = sym (entry_is row c inside) ∙ e in
    (c, omega (arith, inside, length-append row (entries (take n rows))), get_or_append_left row (entries (take n rows)) 0 c inside ∙ (cc))
entry_there (row ∷ rows) (suc n) (suc i) c x h e =
    let f = entry_there rows n i c x (omega arith) e in
    (length row + f.0, omega (arith, f.1, length-append row (entries (take n rows))), get_or-append-add row (entries (take n rows)) f.0 0 ∙ f.2)

entries_more : (rows : Rows) (node : ℕ) → node < length rows → entries (take (node + 1) rows) ≡ entries (take node rows) ++ get_or rows node []
entries_more rows node h =
    ap entries (take_more rows node [] h) ∙ sym (flat_map_more (λ (row : List ℕ). row) [] (take node rows) (get_or rows node []))

pub seen_start : (rows : Rows) → IsSeenTo rows 0 0
seen_start rows = record { numbered = tt; seen_is = refl; appears = λ i some h. absurd (omega arith) }

-- a row that goes on
pub seen_more : (rows : Rows) (node seen next : ℕ) → node < length rows → node ≤ seen → IsNumberedFrom seen (get_or rows node [])
    → next ≡ max_from seen (get_or rows node []) → IsSeenTo rows node seen → IsSeenTo rows (node + 1) next
seen_more rows node seen next h most row e is = record {
  numbered = subst (λ (es : List ℕ). IsNumberedFrom 0 es) (sym (entries_more rows node h))
      (numbered_append 0 (entries (take node rows)) (get_or rows node []) is.numbered (subst (λ z. IsNumberedFrom z (get_or rows node [])) is.seen_is row));
  seen_is = e ∙ ap (λ z. max_from z (get_or rows node [])) is.seen_is ∙ sym (max_append 0 (entries (take node rows)) (get_or rows node []))
      ∙ sym (ap (λ (es : List ℕ). max_from 0 es) (entries_more rows node h));
  appears = λ i some less. elim (cases_lt i node) [
    | inl old ↦ is.appears i some old
    | inr new ↦
        let same : i ≡ node = omega arith in
        let f = numbered_has 0 i (entries (take node rows)) is.numbered some (omega (arith, same, most, is.seen_is)) in
        let g = entry_found rows node f.0 f.1 in
        (g.0, g.1, omega (arith, g.2, same), g.3 ∙ ap (λ z. Some z) f.2)
  ];
}

-- in standard rows each row goes on
pub seen_standard : (k : ℕ) (rows : Rows) (node seen : ℕ) → IsStandard k rows → node < length rows → IsSeenTo rows node seen
    → (node ≤ seen) × IsNumberedFrom seen (get_or rows node [])
seen_standard k rows node seen standard h is = (go (cases_lt 0 node), row)
  where
    go : (0 < node) ⊎ (node ≤ 0) → node ≤ seen
    go (inr none) = omega arith
    go (inl some) =
        let f = standard.appears node some h in
        let g = entry_there rows node f.0 f.1 node f.2 f.3 in
        let l = entry_below 0 (entries (take node rows)) g.0 g.1 in
        omega (arith, l, g.2, is.seen_is)

    front : List ℕ
    front = entries (take node rows)

    whole : IsNumberedFrom 0 (entries (take (node + 1) rows))
    whole = numbered_front 0 (entries (take (node + 1) rows)) (entries (drop (node + 1) rows))
        (subst (λ (es : List ℕ). IsNumberedFrom 0 es) (ap entries (sym (take-append-drop (node + 1) rows)) ∙ entries_append (take (node + 1) rows) (drop (node + 1) rows)) standard.numbered)
      where
        entries_append : (xs ys : Rows) → entries (xs ++ ys) ≡ entries xs ++ entries ys
        entries_append [] ys = refl
        entries_append (x ∷ xs) ys = ap (λ (es : List ℕ). x ++ es) (entries_append xs ys) ∙ sym (append_assoc x (entries xs) (entries ys))

    row : IsNumberedFrom seen (get_or rows node [])
    row = subst (λ z. IsNumberedFrom z (get_or rows node [])) (sym is.seen_is)
        (numbered_behind 0 (entries (take node rows)) (get_or rows node []) (subst (λ (es : List ℕ). IsNumberedFrom 0 es) (entries_more rows node h) whole))

-- all rows go on
pub seen_end : (k : ℕ) (rows : Rows) (seen : ℕ) → IsGraph k (graph_of rows) → IsSeenTo rows (length rows) seen → IsStandard k rows
seen_end k rows seen graph is = record {
  rooted = omega (arith, graph.rooted, length-map rows (map Some));
  width = λ n d h. width n d h;
  nodes = entries_all (λ n. n < length rows) rows (λ i b n e. let l = graph.nodes i b n e in omega (arith, l, length-map rows (map Some)));
  numbered = subst (λ (rs : Rows). IsNumberedFrom 0 (entries rs)) (take_all (length rows) rows (omega arith)) is.numbered;
  appears = is.appears;
}
  where
    width : (n : ℕ) (d : List ℕ) → n < length rows → length (get_or rows n d) ≡ k
    width n d h =
        sym (length-map (get_or rows n d) Some) ∙ sym (ap length (get_or-map (map Some) rows n d [] h))
        ∙ graph.width n [] (omega (arith, h, length-map rows (map Some)))

-- the edge of an entry
pub edge_at : (rows : Rows) (n a : ℕ) → n < length rows → a < length (get_or rows n []) → target (graph_of rows) n a ≡ Some (get_or (get_or rows n []) a 0)
edge_at [] n a h l = absurd (omega arith)
edge_at (row ∷ rows) zero a h l = entry_is row a l
edge_at (row ∷ rows) (suc n) a h l = edge_at rows n a (omega arith) l

-- rows have every edge
pub rows_complete : (k : ℕ) (rows : Rows) → IsStandard k rows → IsComplete k (graph_of rows)
rows_complete k rows standard n a hn ha =
    let inside : n < length rows = omega (arith, hn, length-map rows (map Some)) in
    let wide : length (get_or rows n []) ≡ k = standard.width n [] inside in
    (get_or (get_or rows n []) a 0, edge_at rows n a inside (omega (arith, wide, ha)))

-- and no edge past the entries
pub edge_past : (rows : Rows) (n a m : ℕ) → target (graph_of rows) n a ≡ Some m → a < length (get_or rows n [])
edge_past [] n a m e = cc
edge_past (row ∷ rows) zero a m e = entry_past row a m e
edge_past (row ∷ rows) (suc n) a m e = edge_past rows n a m e

less_false : (m n : ℕ) → n ≤ m → nat_lt m n ≡ false
less_false m n h = grind (arith, h)

at_none : (n greatest next : ℕ) → seen_at (Some n) greatest ≡ Some next → (n ≤ suc greatest) × (next ≡ max greatest n)
at_none n greatest next e = elim (cases_lt (suc greatest) n) [
  | inl more ↦
      let e' : None ≡ Some next = sym (ap (λ b. cond b None (Some (max greatest n))) (less_true (suc greatest) n more)) ∙ e in
      absurd (let bad : ⊥ = cc in bad)
  | inr most ↦
      let e' : Some (max greatest n) ≡ Some next = sym (ap (λ b. cond b None (Some (max greatest n))) (less_false (suc greatest) n most)) ∙ e in
      (most, sym (some_same (max greatest n) next e'))
]

at_stop : (n greatest : ℕ) → seen_at (Some n) greatest ≡ None → suc greatest < n
at_stop n greatest e = elim (cases_lt (suc greatest) n) [
  | inl more ↦ more
  | inr most ↦
      let e' : Some (max greatest n) ≡ None = sym (ap (λ b. cond b None (Some (max greatest n))) (less_false (suc greatest) n most)) ∙ e in
      absurd (let bad : ⊥ = cc in bad)
]

row_inside : (rows : Rows) (node number : ℕ) → number < length (get_or rows node []) → node < length rows
row_inside [] node number h = absurd (omega arith)
row_inside (row ∷ rows) zero number h = omega arith
row_inside (row ∷ rows) (suc node) number h = let l = row_inside rows node number h in omega (arith, l)

-- one entry of a row further
module _ (rows : Rows) (node seen number greatest : ℕ) (numbered : IsNumberedFrom seen (take number (get_or rows node []))) (greatest_is : greatest ≡ max_from seen (take number (get_or rows node []))) where
  one_more : number < length (get_or rows node []) → take (number + 1) (get_or rows node []) ≡ take number (get_or rows node []) ++ get_or (get_or rows node []) number 0 ∷ []
  one_more h = take_more (get_or rows node []) number 0 h

  pub seen_step : (next : ℕ) → seen_at (target (graph_of rows) node number) greatest ≡ Some next
      → IsNumberedFrom seen (take (number + 1) (get_or rows node [])) × (next ≡ max_from seen (take (number + 1) (get_or rows node [])))
  seen_step next e = elim (cases_lt number (length (get_or rows node []))) [
    | inl h ↦
        let here : target (graph_of rows) node number ≡ Some (get_or (get_or rows node []) number 0) = edge_at rows node number (row_inside rows node number h) h in
        let s = at_none (get_or (get_or rows node []) number 0) greatest next (sym (ap (λ t. seen_at t greatest) here) ∙ e) in (
          subst (λ (xs : List ℕ). IsNumberedFrom seen xs) (sym (one_more h))
              (numbered_append seen (take number (get_or rows node [])) (get_or (get_or rows node []) number 0 ∷ []) numbered (subst (λ z. IsNumberedFrom z (get_or (get_or rows node []) number 0 ∷ [])) greatest_is (s.0, tt))),
          s.1 ∙ ap (λ z. max z (get_or (get_or rows node []) number 0)) greatest_is
              ∙ sym (max_append seen (take number (get_or rows node [])) (get_or (get_or rows node []) number 0 ∷ [])) ∙ sym (ap (λ (xs : List ℕ). max_from seen xs) (one_more h)),
        )
    | inr past ↦
        let same : take (number + 1) (get_or rows node []) ≡ take number (get_or rows node []) = take_all (number + 1) (get_or rows node []) (omega (arith, past)) ∙ sym (take_all number (get_or rows node []) past) in
        let e' : Some greatest ≡ Some next = sym (ap (λ t. seen_at t greatest) (none_here past)) ∙ e in (
          subst (λ (xs : List ℕ). IsNumberedFrom seen xs) (sym same) numbered,
          sym (some_same greatest next e') ∙ greatest_is ∙ sym (ap (λ (xs : List ℕ). max_from seen xs) same),
        )
  ]
    where
      none_here : length (get_or rows node []) ≤ number → target (graph_of rows) node number ≡ None
      none_here past = go (target (graph_of rows) node number) refl
        where
          go : (t : Option ℕ) → target (graph_of rows) node number ≡ t → target (graph_of rows) node number ≡ None
          go None d = d
          go (Some m) d = absurd (omega (arith, edge_past rows node number m d, past))

  pub seen_stop : seen_at (target (graph_of rows) node number) greatest ≡ None → IsNumberedFrom seen (get_or rows node []) → ⊥
  seen_stop e whole = go (target (graph_of rows) node number) refl
    where
      go : (t : Option ℕ) → target (graph_of rows) node number ≡ t → ⊥
      go None d = let e' : Some greatest ≡ None = sym (ap (λ t. seen_at t greatest) d) ∙ e in let bad : ⊥ = cc in bad
      go (Some m) d =
          let h : number < length (get_or rows node []) = edge_past rows node number m d in
          let here : target (graph_of rows) node number ≡ Some (get_or (get_or rows node []) number 0) = edge_at rows node number (row_inside rows node number h) h in
          let more = at_stop (get_or (get_or rows node []) number 0) greatest (sym (ap (λ t. seen_at t greatest) here) ∙ e) in
          let front : IsNumberedFrom seen (take (number + 1) (get_or rows node [])) = numbered_front seen (take (number + 1) (get_or rows node [])) (drop (number + 1) (get_or rows node []))
          (subst (λ (xs : List ℕ). IsNumberedFrom seen xs) (sym (take-append-drop (number + 1) (get_or rows node []))) whole) in
          let last : IsNumberedFrom (max_from seen (take number (get_or rows node []))) (get_or (get_or rows node []) number 0 ∷ []) =
          numbered_behind seen (take number (get_or rows node [])) (get_or (get_or rows node []) number 0 ∷ []) (subst (λ (xs : List ℕ). IsNumberedFrom seen xs) (one_more h) front) in
          omega (arith, more, last.0, greatest_is)
