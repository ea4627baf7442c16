-- Tables that are printed, and read again.
use Rattle.std.proofs.Common.{◌≡◌, ℕ, zero, suc, ◌+◌, ◌-◌, ◌*◌, ◌/◌, ◌%◌, ◌^◌, ◌<◌, ◌≤◌, ◌==◌, nat_le, nat_lt, Bool, true, false, not, ◌&&◌, List, [], ◌∷◌, ◌++◌, length, map, fold, get_or, slice_get, if◌then◌else◌, Option, Some, None, All, decimal, refl, ◌∙◌, ap, ap₂, subst, arith, append-nil}
use Rattle.std.specs.List.{slice_split, list_all, join_by, flat_map}
use Rattle.std.proofs.lemmas.Fmt.{decimal_by_steps, decimal_nonempty, length-decimal-le, first_decimal, decimal_digit}
use Rattle.std.proofs.lemmas.Bool.{le-leb}
use Rattle.std.proofs.lemmas.List.{length-map, take_at, drop_at}
use Rattle.std.proofs.lemmas.List.Sums.{fold-append}
use Rattle.std.proofs.lemmas.List.Folds.{list_all-append}
use Rattle.std.proofs.lemmas.List.Splits.{slice_split_at, slice_split_none}
use Rattle.std.proofs.lemmas.List.Elements.{All-append, All-cons, All-nil, All-head, All-tail, All-map, All-take, All-drop}
use Rattle.theory.specs.Graph.{Graph}
use Rattle.theory.specs.LowIndex.{Rows, graph_of, entries}
use Rattle.word_graph.specs.Table.{HasWidth}
use Rattle.table_texts.specs.TableText.{is_digit, has_leading_zero, number_of, target_read, target_text, row_text, table_text, rows_cut, row_read, table_read, IsFaultAt, IsGoodRow}
use Rattle.table_texts.proofs.ReadLaws.{GoodRows, no_fault}

abbrev value : List ℕ → ℕ
value ds = fold (λ n b. n * 10 + (b - 48)) 0 ds

digit_is : (b : ℕ) → 48 ≤ b → b ≤ 57 → is_digit b ≡ true
digit_is b h g = grind (arith, h, g)

-- digits whose value is n
record IsDigits (n : ℕ) (ds : List ℕ) : Type 0 where
  each : All (λ b. (48 ≤ b) × (b ≤ 57)) ds
  digits : list_all is_digit ds ≡ true
  value_is : value ds ≡ n

one_digit : (n : ℕ) → n < 10 → IsDigits n ((48 + n) ∷ [])
one_digit n h = record {
  each = All-cons (λ b. (48 ≤ b) × (b ≤ 57)) (48 + n) [] (omega arith, omega arith) (All-nil (λ b. (48 ≤ b) × (b ≤ 57)));
  digits = rw (digit_is (48 + n) (omega arith) (omega arith)) refl;
  value_is = omega arith;
}

more_digits : (n : ℕ) (ds : List ℕ) → 10 ≤ n → IsDigits (n / 10) ds → IsDigits n (ds ++ (48 + n % 10) ∷ [])
more_digits n ds h is =
    let last : n % 10 < 10 = omega arith in
    let one = one_digit (n % 10) last in
    record {
      each = All-append (λ b. (48 ≤ b) × (b ≤ 57)) ds ((48 + n % 10) ∷ []) is.each one.each;
      digits = list_all-append is_digit ds ((48 + n % 10) ∷ []) ∙ ap₂ ◌&&◌ is.digits one.digits;
      value_is = fold-append (λ n b. n * 10 + (b - 48)) 0 ds ((48 + n % 10) ∷ []) ∙ omega (arith, is.value_is);
    }

decimal_digits : (n : ℕ) → n < 2 ^ 64 → IsDigits n (decimal n)
decimal_digits = decimal_by_steps IsDigits one_digit more_digits

no_leading_zero : (n : ℕ) → n < 2 ^ 64 → has_leading_zero (decimal n) ≡ false
no_leading_zero zero h = rw (decimal_digit 0 (omega arith)) refl
no_leading_zero (suc n) h = go (decimal (suc n)) (first_decimal (suc n) (omega arith) h)
  where
    and_false : (b : Bool) → (b && false) ≡ false
    and_false true = refl
    and_false false = refl

    differ : (a : ℕ) → 48 < a → (a == 48) ≡ false
    differ a h = grind (arith, h)

    go : (ds : List ℕ) → 48 < get_or ds 0 0 → has_leading_zero ds ≡ false
    go ds g = ap (λ z. nat_le 2 (length ds) && z) (differ (get_or ds 0 0) g) ∙ and_false (nat_le 2 (length ds))

number_from : (ds : List ℕ) (n : ℕ) → 1 ≤ length ds → length ds ≤ 4 → has_leading_zero ds ≡ false → list_all is_digit ds ≡ true → value ds ≡ n → number_of ds ≡ Some n
number_from ds n some short plain digits e =
    ap (λ b. if b && (nat_le (length ds) 4 && (not (has_leading_zero ds) && list_all is_digit ds)) then Some (value ds) else None) (le-leb 1 (length ds) some)
    ∙ ap (λ b. if b && (not (has_leading_zero ds) && list_all is_digit ds) then Some (value ds) else None) (le-leb (length ds) 4 short)
    ∙ ap (λ b. if not b && list_all is_digit ds then Some (value ds) else None) plain
    ∙ ap (λ b. if b then Some (value ds) else None) digits
    ∙ ap (λ z. Some z) e

large : (n : ℕ) → n < 1024 → n < 2 ^ 64
large n h = omega arith

pub decimal_number : (n : ℕ) → n < 1024 → number_of (decimal n) ≡ Some n
decimal_number n h =
    let d = decimal_digits n (large n h) in
    number_from (decimal n) n (decimal_nonempty n (large n h)) (length-decimal-le 4 n (omega arith) (omega arith) (large n h)) (no_leading_zero n (large n h)) d.digits d.value_is

pub decimal_target : (nodes n : ℕ) → n < nodes → n < 1024 → target_read nodes (decimal n) ≡ Some n
decimal_target nodes n h few = rw (decimal_number n few) (within nodes n h)
  where
    within : (nodes n : ℕ) → n < nodes → (if nat_lt n nodes then Some n else None) ≡ Some n
    within nodes n h = grind (arith, h)

-- texts without the byte that parts them
module _ {X : Type 0} (b : ℕ) (f : X → List ℕ) where
  pub split_joined : (x : X) (xs : List X) → All (λ x. All (λ c. (c == b) ≡ false) (f x)) (x ∷ xs) → slice_split (λ c. c == b) (join_by f (b ∷ []) (x ∷ xs)) ≡ map f (x ∷ xs)
  split_joined x [] all =
      ap (slice_split (λ c. c == b)) (append-nil (f x))
      ∙ slice_split_none (λ c. c == b) (f x) (All-head (λ x. All (λ c. (c == b) ≡ false) (f x)) x [] all)
  split_joined x (y ∷ ys) all =
      let here = All-head (λ x. All (λ c. (c == b) ≡ false) (f x)) x (y ∷ ys) all in
      slice_split_at (λ c. c == b) (f x) b (join_by f (b ∷ []) (y ∷ ys)) here (same b)
      ∙ ap (λ (zs : List (List ℕ)). f x ∷ zs) (split_joined y ys (All-tail (λ x. All (λ c. (c == b) ≡ false) (f x)) x (y ∷ ys) all))
    where
      same : (b : ℕ) → (b == b) ≡ true
      same b = grind arith

  pub joined_all : (P : ℕ → Type 0) → P b → (xs : List X) → All (λ x. All P (f x)) xs → All P (join_by f (b ∷ []) xs)
  joined_all P pb [] all = All-nil P
  joined_all P pb (x ∷ xs) all = All-append P (f x) (flat_map (λ y. (b ∷ []) ++ f y) xs) (All-head (λ x. All P (f x)) x xs all) (go xs (All-tail (λ x. All P (f x)) x xs all))
    where
      go : (xs : List X) → All (λ x. All P (f x)) xs → All P (flat_map (λ y. (b ∷ []) ++ f y) xs)
      go [] all = All-nil P
      go (x ∷ xs) all = All-append P (b ∷ f x) (flat_map (λ y. (b ∷ []) ++ f y) xs) (All-cons P b (f x) pb (All-head (λ x. All P (f x)) x xs all)) (go xs (All-tail (λ x. All P (f x)) x xs all))

differ : (b c : ℕ) → b < 48 → 48 ≤ c → (c == b) ≡ false
differ b c h g = grind (arith, h, g)

-- the digits of targets
module _ (n : ℕ) (few : n ≤ 1024) where
  target_apart : (b m : ℕ) → b < 48 → m < n → All (λ c. (c == b) ≡ false) (decimal m)
  target_apart b m h less = λ i d lt. differ b (get_or (decimal m) i d) h ((decimal_digits m (large m (omega arith))).each i d lt).0

  row_apart : (b : ℕ) (row : List ℕ) → b < 48 → All (λ m. m < n) row → All (λ t. All (λ c. (c == b) ≡ false) (target_text t)) (map Some row)
  row_apart b row h all = All-map (λ t. All (λ c. (c == b) ≡ false) (target_text t)) Some row (λ i d lt. target_apart b (get_or row i d) h (all i d lt))

  targets_read : (row : List ℕ) → All (λ m. m < n) row → map (target_read n) (map target_text (map Some row)) ≡ map Some row
  targets_read [] all = refl
  targets_read (m ∷ row) all =
      let here : m < n = All-head (λ m. m < n) m row all in
      ap₂ (λ (t : Option ℕ) (ts : List (Option ℕ)). t ∷ ts) (decimal_target n m here (omega arith)) (targets_read row (All-tail (λ m. m < n) m row all))

  row_back : (row : List ℕ) → 0 < length row → All (λ m. m < n) row → row_read n (row_text (map Some row)) ≡ map Some row
  row_back [] some all = absurd (omega arith)
  row_back (m ∷ row) some all =
      ap (map (target_read n)) (split_joined 44 target_text (Some m) (map Some row) (row_apart 44 (m ∷ row) (omega arith) all)) ∙ targets_read (m ∷ row) all

  first_row : (row : List ℕ) (rows : Rows) → All (λ m. m < n) (entries (row ∷ rows)) → All (λ m. m < n) row
  first_row row rows all = subst (λ (xs : List ℕ). All (λ m. m < n) xs) (take_at row (entries rows) (length row) refl) (All-take (λ m. m < n) (length row) (row ++ entries rows) all)

  rest_rows : (row : List ℕ) (rows : Rows) → All (λ m. m < n) (entries (row ∷ rows)) → All (λ m. m < n) (entries rows)
  rest_rows row rows all = subst (λ (xs : List ℕ). All (λ m. m < n) xs) (drop_at row (entries rows) (length row) refl) (All-drop (λ m. m < n) (length row) (row ++ entries rows) all)

  rows_apart : (rows : Rows) → All (λ m. m < n) (entries rows) → All (λ r. All (λ c. (c == 47) ≡ false) (row_text r)) (graph_of rows)
  rows_apart [] all = All-nil (λ r. All (λ c. (c == 47) ≡ false) (row_text r))
  rows_apart (row ∷ rows) all = All-cons (λ r. All (λ c. (c == 47) ≡ false) (row_text r)) (map Some row) (graph_of rows)
      (joined_all 44 target_text (λ c. (c == 47) ≡ false) refl (map Some row) (row_apart 47 row (omega arith) (first_row row rows all)))
      (rows_apart rows (rest_rows row rows all))

  rows_read : (k : ℕ) (rows : Rows) → 0 < k → HasWidth k rows → All (λ m. m < n) (entries rows) → map (row_read n) (map row_text (graph_of rows)) ≡ graph_of rows
  rows_read k [] some wide all = refl
  rows_read k (row ∷ rows) some wide all =
      let width : length row ≡ k = All-head (λ (r : List ℕ). length r ≡ k) row rows wide in
      ap₂ (λ (r : List (Option ℕ)) (rs : Graph). r ∷ rs) (row_back row (omega arith) (first_row row rows all))
      (rows_read k rows some (All-tail (λ (r : List ℕ). length r ≡ k) row rows wide) (rest_rows row rows all))

pub table_back : (k : ℕ) (rows : Rows) → 0 < k → HasWidth k rows → 0 < length rows → length rows ≤ 1024 → All (λ m. m < length rows) (entries rows) → table_read (table_text (graph_of rows)) ≡ graph_of rows
table_back k [] some wide rooted few all = absurd (omega arith)
table_back k (row ∷ rows) some wide rooted few all =
    let n = length (row ∷ rows) in
    let pieces : rows_cut (table_text (graph_of (row ∷ rows))) ≡ map row_text (graph_of (row ∷ rows)) = split_joined 47 row_text (map Some row) (graph_of rows) (rows_apart n few (row ∷ rows) all) in
    let long : length (rows_cut (table_text (graph_of (row ∷ rows)))) ≡ n = ap length pieces ∙ length-map (graph_of (row ∷ rows)) row_text ∙ length-map (row ∷ rows) (map Some) in
    ap₂ (λ (m : ℕ) (ps : List (List ℕ)). map (row_read m) ps) long pieces ∙ rows_read n few k (row ∷ rows) some wide all

-- nothing is wrong in a table
pub table_faultless : (k : ℕ) (rows : Rows) → HasWidth k rows → length rows ≤ 1024 → (place : ℕ) → IsFaultAt k (graph_of rows) place → ⊥
table_faultless k rows wide few = no_fault k (graph_of rows) (length (graph_of rows)) good (omega arith) (omega (arith, length-map rows (map Some)))
  where
    no_gap : (row : List ℕ) (j : ℕ) → slice_get (map Some row) j ≡ Some None → ⊥
    no_gap [] j e = cc
    no_gap (x ∷ row) zero e = cc
    no_gap (x ∷ row) (suc j) e = no_gap row j e

    at : (rows : Rows) (r : ℕ) (c : List (Option ℕ)) → HasWidth k rows → slice_get (graph_of rows) r ≡ Some c → IsGoodRow k c
    at [] r c wide e = cc
    at (row ∷ rows) zero c wide e =
        let width : length row ≡ k = All-head (λ (r : List ℕ). length r ≡ k) row rows wide in
        let same : map Some row ≡ c = cc in
        subst (IsGoodRow k) same (record { width = length-map row Some ∙ width; good = no_gap row })
    at (row ∷ rows) (suc r) c wide e = at rows r c (All-tail (λ (r : List ℕ). length r ≡ k) row rows wide) e

    good : GoodRows k (graph_of rows) (length (graph_of rows))
    good r c h e = at rows r c wide e
