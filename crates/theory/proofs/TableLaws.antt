-- The order of tables, and the right congruence that a table is.
use Rattle.std.proofs.Common.{◌≡◌, ℕ, zero, suc, ◌<◌, List, [], ◌∷◌, ◌++◌, length, refl, sym, ◌∙◌, ap, ap₂, subst, arith, ◌⊎◌, inl, inr, Option, Some, None, append_assoc, append-nil, option_and_then, All, Contains, map, length-append, nat_cmp, Ordering, Less, Equal, Greater, slice_get}
use Rattle.std.specs.Ordering.{ordering_reverse}
use Rattle.std.specs.Cmp.Lexicographic.{slice_cmp}
use Rattle.std.specs.Option.{unwrap_or}
use Rattle.std.proofs.lemmas.Cmp.{nat_list_cmp_total, tied_itself}
use Rattle.std.proofs.lemmas.List.{take_at, drop_at, nil_from_length}
use Rattle.std.proofs.lemmas.List.Elements.{All-head, All-tail, All-take, All-drop}
use Rattle.theory.specs.Word.{Word}
use Rattle.theory.specs.Congruence.{Presentation, Congruence, EitherWay, of_presentation}
use Rattle.theory.specs.Chain.{MayStand, Step, StepBy, Related}
use Rattle.theory.specs.Listing.{IsStrictOrder}
use Rattle.theory.specs.Graph.{Graph, target, path}
use Rattle.theory.specs.LowIndex.{Rows, graph_of, entries, IsCompatible, IsLowIndex, TableLess}
use Rattle.theory.specs.declared.Kind.TheVariants.{TwoSided, Right}
use Rattle.theory.proofs.Words.{cut_between, letters_exact}
use Rattle.theory.proofs.Chains.{joined_least, joined_map}
use Rattle.theory.proofs.Related.{none_contained, none_either}

-- rows of one width are determined by their entries
entries_exact : (k : ℕ) → 0 < k → (s t : Rows) → All (λ row. length row ≡ k) s → All (λ row. length row ≡ k) t → entries s ≡ entries t
    → s ≡ t
entries_exact k h [] [] p q e = refl
entries_exact k h [] (r ∷ t) p q e = absurd (omega (arith, All-head (λ row. length row ≡ k) r t q, ap length e, length-append r (entries t)))
entries_exact k h (r ∷ s) [] p q e = absurd (omega (arith, All-head (λ row. length row ≡ k) r s p, ap length e, length-append r (entries s)))
entries_exact k h (r ∷ s) (q ∷ t) p p' e =
    let wr : length r ≡ k = All-head (λ row. length row ≡ k) r s p in
    let wq : length q ≡ k = All-head (λ row. length row ≡ k) q t p' in
    let z = cut_between r (entries s) q (entries t) e (omega arith) in
    let none : z.0 ≡ [] = nil_from_length z.0 (omega (arith, ap length z.1, length-append r z.0)) in
    let heads : r ≡ q = sym (z.1 ∙ ap (λ w. r ++ w) none ∙ append-nil r) in
    let tails : entries s ≡ entries t = z.2 ∙ ap (λ w. w ++ entries t) none in
    ap₂ (λ (x : List ℕ) (xs : Rows). x ∷ xs) heads
    (entries_exact k h s t (All-tail (λ row. length row ≡ k) r s p) (All-tail (λ row. length row ≡ k) q t p') tails)

pub table_irrefl : (s : Rows) → TableLess s s → ⊥
table_irrefl s h = let e = tied_itself nat_list_cmp_total (entries s) in let d : Less ≡ Equal = sym h ∙ e in cc

pub table_trans : (r s t : Rows) → TableLess r s → TableLess s t → TableLess r t
table_trans r s t = nat_list_cmp_total.trans (entries r) (entries s) (entries t)

-- the order of tables is a strict order on the standard tables over some letters
pub table_order : (p : Presentation) (n : ℕ) → 0 < p.letters → IsStrictOrder (IsLowIndex p n) TableLess
table_order p n some =
    record {
      cases = λ s t hs ht. go s t hs ht (slice_cmp nat_cmp (entries s) (entries t)) refl;
      irrefl = table_irrefl;
      trans = table_trans;
    }
  where
    turned : (o : Ordering) → ordering_reverse o ≡ Greater → o ≡ Less
    turned Less e = refl
    turned Equal e = cc
    turned Greater e = cc

    go : (s t : Rows) → IsLowIndex p n s → IsLowIndex p n t → (o : Ordering) → slice_cmp nat_cmp (entries s) (entries t) ≡ o
        → TableLess s t ⊎ ((s ≡ t) ⊎ TableLess t s)
    go s t hs ht Less e = inl e
    go s t hs ht Equal e = inr (inl (entries_exact p.letters some s t hs.standard.width ht.standard.width (letters_exact (entries s) (entries t) e)))
    go s t hs ht Greater e =
        inr (inr (turned (slice_cmp nat_cmp (entries t) (entries s)) (sym (nat_list_cmp_total.antisymm (entries s) (entries t)) ∙ e)))

-- a path in two parts
pub path_bind : (g : Graph) (node : ℕ) (u v : Word) → path g node (u ++ v) ≡ option_and_then (λ m. path g m v) (path g node u)
path_bind g node [] v = refl
path_bind g node (a ∷ u) v = go (target g node a) (λ next. path_bind g next u v)
  where
    go : (t : Option ℕ) → ((next : ℕ) → path g next (u ++ v) ≡ option_and_then (λ m. path g m v) (path g next u))
        → option_and_then (λ next. path g next (u ++ v)) t ≡ option_and_then (λ m. path g m v) (option_and_then (λ next. path g next u) t)
    go None further = refl
    go (Some next) further = further next

-- words that lead to one place go on to one place: a right congruence
pub paths_kept : (g : Graph) (node : ℕ) (u v y : Word) → path g node u ≡ path g node v → path g node (u ++ y) ≡ path g node (v ++ y)
paths_kept g node u v y e = path_bind g node u y ∙ ap (option_and_then (λ m. path g m y)) e ∙ sym (path_bind g node v y)

pub row_within : (n : ℕ) (row : List ℕ) (letter next : ℕ) → All (λ m. m < n) row
    → unwrap_or (slice_get (map Some row) letter) None ≡ Some next → next < n
row_within n [] letter next all e = cc
row_within n (m ∷ row) zero next all e = let here : m < n = All-head (λ m. m < n) m row all in let same : m ≡ next = cc in subst (λ x. x < n) same here
row_within n (m ∷ row) (suc letter) next all e = row_within n row letter next (All-tail (λ m. m < n) m row all) e

pub target_within : (n : ℕ) (rows : Rows) (node letter next : ℕ) → All (λ m. m < n) (entries rows)
    → target (graph_of rows) node letter ≡ Some next → next < n
target_within n [] node letter next all e = cc
target_within n (row ∷ rows) zero letter next all e =
    row_within n row letter next
    (subst (λ (xs : List ℕ). All (λ m. m < n) xs) (take_at row (entries rows) (length row) refl) (All-take (λ m. m < n) (length row) (row ++ entries rows) all))
    e
target_within n (row ∷ rows) (suc node) letter next all e =
    target_within n rows node letter next
    (subst (λ (xs : List ℕ). All (λ m. m < n) xs) (drop_at row (entries rows) (length row) refl) (All-drop (λ m. m < n) (length row) (row ++ entries rows) all))
    e

-- paths stay within the table
pub path_within : (n : ℕ) (rows : Rows) → All (λ m. m < n) (entries rows) → (u : Word) (node m : ℕ) → node < n
    → path (graph_of rows) node u ≡ Some m → m < n
path_within n rows all [] node m h e = let same : node ≡ m = cc in subst (λ x. x < n) same h
path_within n rows all (a ∷ u) node m h e = go (target (graph_of rows) node a) refl e (λ next d. path_within n rows all u next m d)
  where
    go : (t : Option ℕ) → target (graph_of rows) node a ≡ t → option_and_then (λ next. path (graph_of rows) next u) t ≡ Some m
        → ((next : ℕ) → next < n → path (graph_of rows) next u ≡ Some m → m < n) → m < n
    go None d e further = cc
    go (Some next) d e further = further next (target_within n rows node a next all d) e

-- a complete table at which the relations hold, and at whose root the pairs do
module _ (c : Congruence) (right : c.kind ≡ Right) (rows : Rows) (rooted : 0 < length rows)
    (nodes : All (λ m. m < length rows) (entries rows)) (compatible : IsCompatible c.presentation rows)
    (pairs : (r s : Word) → Contains c.pairs (r, s) → path (graph_of rows) 0 r ≡ path (graph_of rows) 0 s) where
  agree : (node : ℕ) (r s : Word) → node < length rows → EitherWay c.presentation.relations r s
      → path (graph_of rows) node r ≡ path (graph_of rows) node s
  agree node r s l e = elim e [ inl m ↦ compatible node r s l m | inr m ↦ sym (compatible node s r l m) ]

  by_relation : (u v : Word) → Step (EitherWay c.presentation.relations) TwoSided u v → path (graph_of rows) 0 u ≡ path (graph_of rows) 0 v
  by_relation u v a =
      let at : path (graph_of rows) 0 (a.before ++ a.from) ≡ path (graph_of rows) 0 (a.before ++ a.to) =
      path_bind (graph_of rows) 0 a.before a.from ∙ go (path (graph_of rows) 0 a.before) refl ∙ sym (path_bind (graph_of rows) 0 a.before a.to) in
      let both = paths_kept (graph_of rows) 0 (a.before ++ a.from) (a.before ++ a.to) a.after at in
      ap (path (graph_of rows) 0) (a.source ∙ sym (append_assoc a.before a.from a.after)) ∙ both
      ∙ ap (path (graph_of rows) 0) (append_assoc a.before a.to a.after ∙ sym a.target)
    where
      go : (t : Option ℕ) → path (graph_of rows) 0 a.before ≡ t
          → option_and_then (λ m. path (graph_of rows) m a.from) t ≡ option_and_then (λ m. path (graph_of rows) m a.to) t
      go None e = refl
      go (Some m) e = agree m a.from a.to (path_within (length rows) rows nodes a.before 0 m rooted e) a.base

  by_pair : (u v : Word) → Step (EitherWay c.pairs) c.kind u v → path (graph_of rows) 0 u ≡ path (graph_of rows) 0 v
  by_pair u v a =
      let first : a.before ≡ [] = subst (λ kind. MayStand kind a.before a.after) right a.place in
      ap (path (graph_of rows) 0) (a.source ∙ ap (λ w. w ++ (a.from ++ a.after)) first)
      ∙ paths_kept (graph_of rows) 0 a.from a.to a.after (elim a.base [ inl m ↦ pairs a.from a.to m | inr m ↦ sym (pairs a.to a.from m) ])
      ∙ ap (path (graph_of rows) 0) (sym (a.target ∙ ap (λ w. w ++ (a.to ++ a.after)) first))

  -- related words lead to one place
  pub table_related : (u v : Word) → Related c u v → path (graph_of rows) 0 u ≡ path (graph_of rows) 0 v
  table_related =
      joined_least (StepBy (EitherWay c.presentation.relations) c.kind c.pairs) (λ u v. path (graph_of rows) 0 u ≡ path (graph_of rows) 0 v)
      (λ u. refl) (λ u v w e d. e ∙ d)
      (λ u v s. elim s [ inl a ↦ by_relation u v a | inr b ↦ by_pair u v b ])

-- words that the relations relate lead to one place
pub presentation_related : (p : Presentation) (rows : Rows) → 0 < length rows → All (λ m. m < length rows) (entries rows)
    → IsCompatible p rows → (u v : Word) → Related (of_presentation p) u v → path (graph_of rows) 0 u ≡ path (graph_of rows) 0 v
presentation_related p rows rooted nodes compatible u v r =
    table_related (record { presentation = p; kind = Right; pairs = [] }) refl rows rooted nodes compatible
    (λ r s m. absurd (none_contained (r, s) m)) u v (as_right_pairs u v r)
  where
    as_right_pairs : (u v : Word) → Related (of_presentation p) u v → Related (record { presentation = p; kind = Right; pairs = [] }) u v
    as_right_pairs =
        joined_map (StepBy (EitherWay p.relations) TwoSided []) (StepBy (EitherWay p.relations) Right []) (λ w. w)
        (λ u v s. elim s [ inl a ↦ inl a | inr b ↦ absurd (none_either b.from b.to b.base) ])

pub low_index_related : (p : Presentation) (n : ℕ) (rows : Rows) → IsLowIndex p n rows → (u v : Word) → Related (of_presentation p) u v
    → path (graph_of rows) 0 u ≡ path (graph_of rows) 0 v
low_index_related p n rows h = presentation_related p rows h.standard.rooted h.standard.nodes h.compatible
