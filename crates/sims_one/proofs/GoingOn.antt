-- After each cursor comes a next table of low index, or none: tables are decided, and their
-- targets are among finitely many lists.
use Rattle.std.proofs.Common.{◌≡◌, ℕ, zero, suc, ◌+◌, ◌*◌, ◌<◌, ◌≤◌, List, [], ◌∷◌, ◌++◌, length, max, take, get_or, All, Contains, Option, Some, None, Ordering, Less, Equal, Greater, nat_cmp, refl, sym, ◌∙◌, ap, subst, subst₂, arith, ◌⊎◌, inl, inr, append-nil, append_assoc, length-append}
use Rattle.std.specs.Cmp.Lexicographic.{slice_cmp}
use Rattle.std.proofs.lemmas.Bool.{cases_lt}
use Rattle.std.proofs.lemmas.List.{drop_at}
use Rattle.std.proofs.lemmas.List.Elements.{All-head, All-drop, All-from_get_or, All-nil}
use Rattle.theory.specs.Word.{Word}
use Rattle.theory.specs.Congruence.{Presentation}
use Rattle.theory.specs.Graph.{path}
use Rattle.theory.specs.Listing.{IsAfter, IsNext, IsLast, GoesOnOrEnds}
use Rattle.theory.specs.LowIndex.{Rows, graph_of, entries, IsNumberedFrom, IsStandard, IsCompatible, IsLowIndex, TableLess}
use Rattle.theory.proofs.Counting.{in_from_contains, contains_from_in}
use Rattle.theory.proofs.WithinDecides.{find_in}
use Rattle.word_graph.specs.Table.{cut}
use Rattle.sims_one.specs.Targets.{seen, table_of, IsFront, AreAllowed, IsTable, IsWithin, least_target, most_nodes}
use Rattle.sims_one.specs.Search.{Before}
use Rattle.sims_one.proofs.FrontLaws.{before_itself, before_both, before_heads, common_front, max_below, times_more}
use Rattle.sims_one.proofs.LowIndexLaws.{seen_all, cut_back, table_flat, low_index_of, table_of_low}

-- a fact, or its refutation
abbrev Decided : Type 0 → Type 0
Decided P = P ⊎ (P → ⊥)

decided_as : {P Q : Type 0} → (P → Q) → (Q → P) → Decided P → Decided Q
decided_as to from (inl holds) = inl (to holds)
decided_as to from (inr not) = inr (λ h. not (from h))

both_decided : {P Q : Type 0} → Decided P → Decided Q → Decided (P × Q)
both_decided (inl p) (inl q) = inl (p, q)
both_decided (inl p) (inr not) = inr (λ h. not h.1)
both_decided (inr not) q = inr (λ h. not h.0)

less_decided : (m n : ℕ) → Decided (m < n)
less_decided m n = elim (cases_lt m n) [ inl less ↦ inl less | inr most ↦ inr (λ less. omega arith) ]

most_decided : (m n : ℕ) → Decided (m ≤ n)
most_decided m n = elim (cases_lt n m) [ inl more ↦ inr (λ most. omega arith) | inr most ↦ inl most ]

number_decided : (m n : ℕ) → Decided (m ≡ n)
number_decided m n = elim (cases_lt m n) [
  | inl less ↦ inr (λ same. omega arith)
  | inr most ↦ elim (cases_lt n m) [ inl more ↦ inr (λ same. omega arith) | inr least ↦ inl (omega arith) ]
]

node_decided : (s t : Option ℕ) → Decided (s ≡ t)
node_decided None None = inl refl
node_decided None (Some n) = inr (λ e. cc)
node_decided (Some m) None = inr (λ e. cc)
node_decided (Some m) (Some n) = decided_as (λ e. ap (λ z. Some z) e) (λ e. cc) (number_decided m n)

order_decided : (o : Ordering) → Decided (o ≡ Less)
order_decided Less = inl refl
order_decided Equal = inr (λ e. cc)
order_decided Greater = inr (λ e. cc)

-- of each number below n
below_decided : (P : ℕ → Type 0) → ((i : ℕ) → Decided (P i)) → (n : ℕ) → Decided ((i : ℕ) → i < n → P i)
below_decided P at zero = inl (λ i h. absurd (omega arith))
below_decided P at (suc n) = decided_as to from (both_decided (below_decided P at n) (at n))
  where
    to : ((i : ℕ) → i < n → P i) × P n → (i : ℕ) → i < suc n → P i
    to both i h = elim (cases_lt i n) [
      | inl less ↦ both.0 i less
      | inr most ↦ let same : n ≡ i = omega arith in subst P same both.1
    ]

    from : ((i : ℕ) → i < suc n → P i) → ((i : ℕ) → i < n → P i) × P n
    from all = (λ i h. all i (omega arith), all n (omega arith))

each_decided : (P : ℕ → Type 0) → ((i : ℕ) → Decided (P i)) → (xs : List ℕ) → Decided (All P xs)
each_decided P at xs =
    decided_as (All-from_get_or P xs 0) (λ all i h. all i 0 h) (below_decided (λ i. P (get_or xs i 0)) (λ i. at (get_or xs i 0)) (length xs))

pairs_decided : (P : Word → Word → Type 0) → ((r s : Word) → Decided (P r s)) → (pairs : List (Word × Word))
    → Decided ((r s : Word) → Contains pairs (r, s) → P r s)
pairs_decided P at pairs = elim (find_in (λ (q : Word × Word). P q.0 q.1 → ⊥) fails pairs) [
  | inl found ↦ inr (λ all. found.2 (all found.0.0 found.0.1 (contains_from_in found.0 pairs found.1)))
  | inr none ↦ inl (λ r s m. elim (at r s) [
    | inl holds ↦ holds
    | inr not ↦ absurd (none (r, s) (in_from_contains (r, s) pairs m) not)
  ])
]
  where
    fails : (q : Word × Word) → Decided (P q.0 q.1 → ⊥)
    fails q = elim (at q.0 q.1) [ inl holds ↦ inr (λ not. not holds) | inr not ↦ inl not ]

numbered_decided : (n : ℕ) (xs : List ℕ) → Decided (IsNumberedFrom n xs)
numbered_decided n [] = inl tt
numbered_decided n (x ∷ xs) = both_decided (most_decided x (suc n)) (numbered_decided (max n x) xs)

front_decided : (k : ℕ) (u : List ℕ) → Decided (IsFront k u)
front_decided k u =
    decided_as
    (λ h. record { numbered = h.0; goes_on = h.1.0; fits = h.1.1 })
    (λ f. (f.numbered, (f.goes_on, f.fits)))
    (both_decided (numbered_decided 0 u)
    (both_decided (below_decided (λ j. j < k * seen (take j u)) (λ j. less_decided j (k * seen (take j u))) (length u)) (most_decided (length u) (k * seen u))))

allowed_decided : (p : Presentation) (n : ℕ) (u : List ℕ) → Decided (AreAllowed p n u)
allowed_decided p n u =
    each_decided (λ m. (least_target p.is_monoid ≤ m) × (m < most_nodes p.is_monoid n))
    (λ m. both_decided (most_decided (least_target p.is_monoid) m) (less_decided m (most_nodes p.is_monoid n))) u

compatible_decided : (p : Presentation) (rows : Rows) → Decided (IsCompatible p rows)
compatible_decided p rows =
    decided_as (λ h node r s inside m. h node inside r s m) (λ h node inside r s m. h node r s inside m)
    (below_decided (λ node. (r s : Word) → Contains p.relations (r, s) → path (graph_of rows) node r ≡ path (graph_of rows) node s)
    (λ node. pairs_decided (λ r s. path (graph_of rows) node r ≡ path (graph_of rows) node s)
    (λ r s. node_decided (path (graph_of rows) node r) (path (graph_of rows) node s)) p.relations)
    (length rows))

after_decided : (cursor : Option Rows) (rows : Rows) → Decided (IsAfter TableLess cursor rows)
after_decided None rows = inl tt
after_decided (Some before) rows = order_decided (slice_cmp nat_cmp (entries before) (entries rows))

-- the least list behind t, in the order of dictionaries, that has the property
record IsLeast (P : List ℕ → Type 0) (t found : List ℕ) : Type 0 where
  has : P found
  within : IsWithin t found
  least : (u : List ℕ) → P u → IsWithin t u → Before u found → ⊥

-- the least behind t and one more number below j
record IsLeastUnder (P : List ℕ → Type 0) (t : List ℕ) (j : ℕ) (found : List ℕ) : Type 0 where
  has : P found
  next : ℕ
  rest : List ℕ
  is : found ≡ t ++ next ∷ rest
  below : next < j
  least : (u : List ℕ) (m : ℕ) (more : List ℕ) → P u → u ≡ t ++ m ∷ more → m < j → Before u found → ⊥

-- a property that is decided, of lists of numbers below a limit
module _ (P : List ℕ → Type 0) (decided : (u : List ℕ) → Decided (P u)) (limit : ℕ) (small : (u : List ℕ) → P u → All (λ m. m < limit) u) where
  abbrev NoneIn : List ℕ → Type 0
  NoneIn t = (u : List ℕ) → P u → IsWithin t u → ⊥

  abbrev LeastOrNone : List ℕ → Type 0
  LeastOrNone t = ((found : List ℕ) × IsLeast P t found) ⊎ NoneIn t

  abbrev NoneUnder : List ℕ → ℕ → Type 0
  NoneUnder t j = (u : List ℕ) (m : ℕ) (more : List ℕ) → P u → u ≡ t ++ m ∷ more → m < j → ⊥

  abbrev UnderOrNone : List ℕ → ℕ → Type 0
  UnderOrNone t j = ((found : List ℕ) × IsLeastUnder P t j found) ⊎ NoneUnder t j

  -- nothing behind t comes before t
  least_here : (t : List ℕ) → P t → IsLeast P t t
  least_here t has = record {
    has = has;
    within = record { rest = []; is = sym (append-nil t) };
    least = λ u has w before. go u w.rest w.is before;
  }
    where
      go : (u rest : List ℕ) → u ≡ t ++ rest → Before u t → ⊥
      go u [] e before = before_itself t (subst (λ (xs : List ℕ). Before xs t) (e ∙ append-nil t) before)
      go u (m ∷ rest) e before =
          let longer : Before (t ++ m ∷ rest) (t ++ []) = subst₂ Before e (sym (append-nil t)) before in
          let h = sym (common_front t (m ∷ rest) []) ∙ longer in
          cc

  -- the least with a lower number comes before all with the next one
  lower_least : (t : List ℕ) (j : ℕ) (found : List ℕ) → IsLeastUnder P t j found → IsLeastUnder P t (suc j) found
  lower_least t j found f = record {
    has = f.has;
    next = f.next;
    rest = f.rest;
    is = f.is;
    below = omega (arith, f.below);
    least = λ u m more has e h before. elim (cases_lt m j) [
      | inl less ↦ f.least u m more has e less before
      | inr most ↦ before_both u found before (subst₂ Before (sym f.is) (sym e) (before_heads t f.next m f.rest more (omega (arith, f.below, most))))
    ];
  }

  pushed : (t : List ℕ) (j m : ℕ) (u more : List ℕ) → u ≡ t ++ m ∷ more → m ≡ j → IsWithin (t ++ j ∷ []) u
  pushed t j m u more e same =
      record { rest = more; is = e ∙ ap (λ z. t ++ z ∷ more) same ∙ sym (append_assoc t (j ∷ []) more) }

  next_least : (t : List ℕ) (j : ℕ) (found : List ℕ) → NoneUnder t j → IsLeast P (t ++ j ∷ []) found → IsLeastUnder P t (suc j) found
  next_least t j found none f = record {
    has = f.has;
    next = j;
    rest = f.within.rest;
    is = f.within.is ∙ append_assoc t (j ∷ []) f.within.rest;
    below = omega arith;
    least = λ u m more has e h before. elim (cases_lt m j) [
      | inl less ↦ none u m more has e less
      | inr most ↦ f.least u has (pushed t j m u more e (omega arith)) before
    ];
  }

  next_none : (t : List ℕ) (j : ℕ) → NoneUnder t j → NoneIn (t ++ j ∷ []) → NoneUnder t (suc j)
  next_none t j none empty u m more has e h = elim (cases_lt m j) [
    | inl less ↦ none u m more has e less
    | inr most ↦ empty u has (pushed t j m u more e (omega arith))
  ]

  under : (t : List ℕ) → ((m : ℕ) → LeastOrNone (t ++ m ∷ [])) → (j : ℕ) → UnderOrNone t j
  under t at zero = inr (λ u m more has e h. omega arith)
  under t at (suc j) = elim (under t at j) [
    | inl f ↦ inl (f.0, lower_least t j f.0 f.1)
    | inr none ↦ elim (at j) [
      | inl f ↦ inl (f.0, next_least t j f.0 none f.1)
      | inr empty ↦ inr (next_none t j none empty)
    ]
  ]

  next_small : (t : List ℕ) (m : ℕ) (more u : List ℕ) → P u → u ≡ t ++ m ∷ more → m < limit
  next_small t m more u has e =
      let all : All (λ m. m < limit) (t ++ m ∷ more) = subst (λ (xs : List ℕ). All (λ m. m < limit) xs) e (small u has) in
      All-head (λ m. m < limit) m more
      (subst (λ (xs : List ℕ). All (λ m. m < limit) xs) (drop_at t (m ∷ more) (length t) refl) (All-drop (λ m. m < limit) (length t) (t ++ m ∷ more) all))

  -- t itself, or one of those behind it
  behind : (t : List ℕ) → (P t → ⊥) → UnderOrNone t limit → LeastOrNone t
  behind t not (inl f) = inl (
    f.0,
    record {
      has = f.1.has;
      within = record { rest = f.1.next ∷ f.1.rest; is = f.1.is };
      least = λ u has w before. go u w.rest has w.is before;
    },
  )
    where
      go : (u rest : List ℕ) → P u → u ≡ t ++ rest → Before u f.0 → ⊥
      go u [] has e before = not (subst P (e ∙ append-nil t) has)
      go u (m ∷ rest) has e before = f.1.least u m rest has e (next_small t m rest u has e) before
  behind t not (inr none) = inr (λ u has w. go u w.rest has w.is)
    where
      go : (u rest : List ℕ) → P u → u ≡ t ++ rest → ⊥
      go u [] has e = not (subst P (e ∙ append-nil t) has)
      go u (m ∷ rest) has e = none u m rest has e (next_small t m rest u has e)

  shorter : (t : List ℕ) (m left : ℕ) → ((u : List ℕ) → P u → IsWithin t u → length u ≤ length t + suc left)
      → (u : List ℕ) → P u → IsWithin (t ++ m ∷ []) u → length u ≤ length (t ++ m ∷ []) + left
  shorter t m left short u has w =
      let h = short u has (record { rest = m ∷ w.rest; is = w.is ∙ append_assoc t (m ∷ []) w.rest }) in
      omega (arith, h, length-append t (m ∷ []))

  none_longer : (t : List ℕ) → ((u : List ℕ) → P u → IsWithin t u → length u ≤ length t + 0) → (P t → ⊥) → NoneIn t
  none_longer t short not u has w = go w.rest w.is
    where
      go : (rest : List ℕ) → u ≡ t ++ rest → ⊥
      go [] e = not (subst P (e ∙ append-nil t) has)
      go (m ∷ rest) e = let h = short u has w in omega (arith, h, ap length e, length-append t (m ∷ rest))

  -- by recursion on how many numbers may follow
  least_or_none : (left : ℕ) (t : List ℕ) → ((u : List ℕ) → P u → IsWithin t u → length u ≤ length t + left) → LeastOrNone t
  least_or_none zero t short = elim (decided t) [
    | inl has ↦ inl (t, least_here t has)
    | inr not ↦ inr (none_longer t short not)
  ]
  least_or_none (suc left) t short = elim (decided t) [
    | inl has ↦ inl (t, least_here t has)
    | inr not ↦ behind t not (under t (λ m. least_or_none left (t ++ m ∷ []) (shorter t m left short)) limit)
  ]

-- the presentation without its relations
abbrev free : Presentation → Presentation
free p = record { letters = p.letters; is_monoid = p.is_monoid; relations = [] }

module _ (p : Presentation) (n : ℕ) (some : 0 < p.letters) where
  -- the targets of a table of low index after the cursor
  record IsAhead (cursor : Option Rows) (u : List ℕ) : Type 0 where
    table : IsTable (free p) n u
    compatible : IsCompatible p (table_of p.letters u)
    after : IsAfter TableLess cursor (table_of p.letters u)

  table_decided : (u : List ℕ) → Decided (IsTable (free p) n u)
  table_decided u =
      decided_as
      (λ h. record { front = h.0; allowed = h.1.0; full = h.1.1; sound = λ node r s inside m. absurd (in_from_contains (r, s) [] m) })
      (λ h. (h.front, (h.allowed, h.full)))
      (both_decided (front_decided p.letters u) (both_decided (allowed_decided (free p) n u) (number_decided (length u) (p.letters * seen u))))

  ahead_decided : (cursor : Option Rows) (u : List ℕ) → Decided (IsAhead cursor u)
  ahead_decided cursor u =
      decided_as
      (λ h. record { table = h.0; compatible = h.1.0; after = h.1.1 })
      (λ h. (h.table, (h.compatible, h.after)))
      (both_decided (table_decided u) (both_decided (compatible_decided p (table_of p.letters u)) (after_decided cursor (table_of p.letters u))))

  ahead_small : (cursor : Option Rows) (u : List ℕ) → IsAhead cursor u → All (λ m. m < most_nodes p.is_monoid n) u
  ahead_small cursor u h = λ i d inside. (h.table.allowed i d inside).1

  ahead_short : (cursor : Option Rows) (u : List ℕ) → IsAhead cursor u → length u ≤ p.letters * most_nodes p.is_monoid n
  ahead_short cursor u h =
      let one : 0 < length u = omega (arith, h.table.full, times_more p.letters 1 (seen u) (omega arith), some) in
      let most : 0 < most_nodes p.is_monoid n = omega (arith, ahead_small cursor u h 0 0 one) in
      let few : seen u ≤ most_nodes p.is_monoid n = max_below (most_nodes p.is_monoid n) 0 u most (ahead_small cursor u h) in
      omega (arith, h.table.full, times_more p.letters (seen u) (most_nodes p.is_monoid n) few)

  -- tables of the free presentation at which the relations hold are of low index
  low_of_ahead : (cursor : Option Rows) (u : List ℕ) → IsAhead cursor u → IsLowIndex p n (table_of p.letters u)
  low_of_ahead cursor u h =
      let low = low_index_of (free p) n some (All-nil _) u h.table in
      record { standard = low.standard; compatible = h.compatible; size = low.size }

  table_back : (rows : Rows) → IsStandard p.letters rows → table_of p.letters (entries rows) ≡ rows
  table_back rows standard =
      ap (λ z. cut p.letters z (entries rows)) (seen_all p.letters some rows standard) ∙ cut_back p.letters rows standard.width

  ahead_of_low : (cursor : Option Rows) (rows : Rows) → IsLowIndex p n rows → IsAfter TableLess cursor rows → IsAhead cursor (entries rows)
  ahead_of_low cursor rows low after = record {
    table = table_of_low (free p) n some (All-nil _) rows (record { standard = low.standard; compatible = λ node r s inside m. absurd (in_from_contains (r, s) [] m); size = low.size });
    compatible = subst (λ (r : Rows). IsCompatible p r) (sym (table_back rows low.standard)) low.compatible;
    after = subst (λ (r : Rows). IsAfter TableLess cursor r) (sym (table_back rows low.standard)) after;
  }

  behind_nothing : (u : List ℕ) → IsWithin [] u
  behind_nothing u = record { rest = u; is = refl }

  is_next : (cursor : Option Rows) (found : List ℕ) → IsLeast (IsAhead cursor) [] found → IsNext (IsLowIndex p n) TableLess cursor (table_of p.letters found)
  is_next cursor found f = record {
    has = low_of_ahead cursor found f.has;
    after = f.has.after;
    least = λ rows low after before.
        f.least (entries rows) (ahead_of_low cursor rows low after) (behind_nothing (entries rows))
        (subst (λ (xs : List ℕ). Before (entries rows) xs) (table_flat (free p) n some (All-nil _) found f.has.table) before);
  }

  is_last : (cursor : Option Rows) → ((u : List ℕ) → IsAhead cursor u → IsWithin [] u → ⊥) → IsLast (IsLowIndex p n) TableLess cursor
  is_last cursor none rows low after = none (entries rows) (ahead_of_low cursor rows low after) (behind_nothing (entries rows))

  pub tables_go_on : GoesOnOrEnds (IsLowIndex p n) TableLess
  tables_go_on cursor =
      elim (least_or_none (IsAhead cursor) (ahead_decided cursor) (most_nodes p.is_monoid n) (ahead_small cursor) (p.letters * most_nodes p.is_monoid n) []
      (λ u h w. let short = ahead_short cursor u h in omega (arith, short))) [
        | inl f ↦ inr (table_of p.letters f.0, is_next cursor f.0 f.1)
        | inr none ↦ inl (is_last cursor none)
      ]
