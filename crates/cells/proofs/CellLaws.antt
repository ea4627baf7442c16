-- Rows that stand in one list.
use Rattle.std.proofs.Common.{◌≡◌, ◌≢◌, ℕ, zero, suc, ◌+◌, ◌-◌, ◌*◌, ◌<◌, ◌≤◌, All, List, [], ◌∷◌, ◌++◌, refl, sym, ◌∙◌, ap, ap₂, arith, ◌⊎◌, inl, inr, Option, None, length, subst, get_or, set, take, drop, replicate, append_assoc, append-nil}
use Rattle.std.proofs.lemmas.Bool.{cases_eq}
use Rattle.std.proofs.Math.Nat.{suc-mul, mul-le-mul_right}
use Rattle.std.proofs.Math.Seq.{take-set-lt, take-length, take-append_seam, drop-append_seam}
use Rattle.std.proofs.lemmas.List.{get_or-set_same, get_or-set_other, take-append-le, drop-append-le, take-set-le, drop-set-lt, drop-set-add, get_or-take, get_or-drop, nil_from_length, length-append, take-append-drop, drop-drop, length-take-le, length-drop, take-replicate, drop-replicate}
use Rattle.std.proofs.lemmas.List.Elements.{All-tail}
use Rattle.std.specs.Option.{ForSome}
use Rattle.std.below.core.specs.declared.int.u32.TheConstants.{MAX}
use Rattle.theory.specs.Graph.{Graph, target}
use Rattle.cells.specs.Rows.{AreRows, flat, rows_of, with_entry}
use Rattle.cells.proofs.EntryLaws.{target_is}

-- a node of the table has a code
pub within_code : (entry : Option ℕ) (count nodes : ℕ) → count ≡ nodes → nodes ≤ MAX → ForSome entry (λ n. n < count) → ForSome entry (λ n. n < MAX)
within_code entry count nodes same few h n is = omega (arith, same, few, h n is)

-- the entry lies within the list
pub place_within : (n k node a : ℕ) → node < n → a < k → node * k + a < n * k
place_within n k node a hn ha =
    let up : suc node * k ≤ n * k = mul-le-mul_right k (omega (arith, hn)) in
    omega (arith, up, suc-mul node k, ha)

pub length_rows : (k n : ℕ) (xs : List (Option ℕ)) → length (rows_of k n xs) ≡ n
length_rows k zero xs = refl
length_rows k (suc n) xs = ap suc (length_rows k n (drop k xs))

-- the first row, and those after it
long : (k n : ℕ) (xs : List (Option ℕ)) → length xs ≡ suc n * k → (k ≤ length xs) × (length (drop k xs) ≡ n * k)
long k n xs e = (omega (arith, e, suc-mul n k), omega (arith, e, suc-mul n k, length-drop k xs))

pub width_rows : (k n : ℕ) (xs : List (Option ℕ)) → length xs ≡ n * k → (i : ℕ) (d : List (Option ℕ)) → i < n → length (get_or (rows_of k n xs) i d) ≡ k
width_rows k zero xs e i d h = absurd (omega (arith, h))
width_rows k (suc n) xs e zero d h = length-take-le k xs (long k n xs e).0
width_rows k (suc n) xs e (suc i) d h = width_rows k n (drop k xs) (long k n xs e).1 i d (omega (arith, h))

pub read_rows : (k n : ℕ) (xs : List (Option ℕ)) (node a : ℕ) → node < n → a < k → get_or (get_or (rows_of k n xs) node []) a None ≡ get_or xs (node * k + a) None
read_rows k zero xs node a hn ha = absurd (omega (arith, hn))
read_rows k (suc n) xs zero a hn ha = get_or-take k xs a None ha ∙ ap (λ z. get_or xs z None) (let e : a ≡ zero * k + a = omega arith in e)
read_rows k (suc n) xs (suc node) a hn ha =
    read_rows k n (drop k xs) node a (omega (arith, hn)) ha ∙ get_or-drop k xs (node * k + a) None
    ∙ ap (λ z. get_or xs z None) (let e : k + (node * k + a) ≡ suc node * k + a = omega (arith, suc-mul node k) in e)

pub write_rows : (k n : ℕ) (xs : List (Option ℕ)) (node a : ℕ) (x : Option ℕ) → node < n → a < k → rows_of k n (set xs (node * k + a) x) ≡ with_entry (rows_of k n xs) node a x
write_rows k zero xs node a x hn ha = absurd (omega (arith, hn))
write_rows k (suc n) xs zero a x hn ha =
    let at : zero * k + a ≡ a = omega arith in
    rw (at, take-set-lt k xs a x ha, drop-set-lt k xs a x ha) refl
write_rows k (suc n) xs (suc node) a x hn ha =
    let at : suc node * k + a ≡ k + (node * k + a) = omega (arith, suc-mul node k) in
    let first : take k (set xs (k + (node * k + a)) x) ≡ take k xs = take-set-le k xs (k + (node * k + a)) x (omega arith) in
    let rest : drop k (set xs (k + (node * k + a)) x) ≡ set (drop k xs) (node * k + a) x = drop-set-add k xs (node * k + a) x in
    rw (at, first, rest) (ap (λ z. take k xs ∷ z) (write_rows k n (drop k xs) node a x (omega (arith, hn)) ha))

pub read_target : (k n : ℕ) (xs : List (Option ℕ)) (node a : ℕ) → node < n → a < k → target (rows_of k n xs) node a ≡ get_or xs (node * k + a) None
read_target k n xs node a hn ha = target_is (rows_of k n xs) node a ∙ read_rows k n xs node a hn ha

pub rows_are : (k n : ℕ) (xs : List (Option ℕ)) → length xs ≡ n * k → AreRows n k (rows_of k n xs)
rows_are k n xs e = record { count = length_rows k n xs; width = λ i d h. width_rows k n xs e i d (omega (arith, h, length_rows k n xs)) }

-- a row
pub row_is : (k n : ℕ) (xs : List (Option ℕ)) (node : ℕ) → node < n → get_or (rows_of k n xs) node [] ≡ take k (drop (node * k) xs)
row_is k zero xs node h = absurd (omega (arith, h))
row_is k (suc n) xs zero h = ap (λ z. take k (drop z xs)) (let e : 0 ≡ 0 * k = omega arith in e)
row_is k (suc n) xs (suc node) h =
    row_is k n (drop k xs) node (omega (arith, h)) ∙ ap (take k) (drop-drop (node * k) k xs)
    ∙ ap (λ z. take k (drop z xs)) (let e : k + node * k ≡ suc node * k = omega (arith, suc-mul node k) in e)

-- rows that are put one behind another, and that are cut again
pub flat_rows : (k n : ℕ) (xs : List (Option ℕ)) → length xs ≡ n * k → flat (rows_of k n xs) ≡ xs
flat_rows k zero xs e = sym (nil_from_length xs (omega (arith, e)))
flat_rows k (suc n) xs e = ap (λ z. take k xs ++ z) (flat_rows k n (drop k xs) (long k n xs e).1) ∙ take-append-drop k xs

pub flat_long : (k : ℕ) (g : Graph) → All (λ row. length row ≡ k) g → length (flat g) ≡ length g * k
flat_long k [] w = let none : 0 ≡ 0 * k = omega arith in none
flat_long k (row ∷ g) w =
    let wide : length row ≡ k = w 0 [] (omega arith) in
    length-append row (flat g) ∙ (let sum : length row + length (flat g) ≡ suc (length g) * k = omega (arith, wide, flat_long k g (All-tail (λ row. length row ≡ k) row g w), suc-mul (length g) k) in sum)

pub flat_more : (g : Graph) (row : List (Option ℕ)) → flat g ++ row ≡ flat (g ++ row ∷ [])
flat_more [] row = sym (append-nil row)
flat_more (first ∷ g) row = append_assoc first (flat g) row ∙ ap (λ z. first ++ z) (flat_more g row)

pub rows_flat : (k : ℕ) (g : Graph) → All (λ row. length row ≡ k) g → rows_of k (length g) (flat g) ≡ g
rows_flat k [] w = refl
rows_flat k (row ∷ g) w =
    let wide : length row ≡ k = w 0 [] (omega arith) in
    let first : take k (row ++ flat g) ≡ row = subst (λ z. take z (row ++ flat g) ≡ row) wide (take-append_seam row (flat g)) in
    let rest : drop k (row ++ flat g) ≡ flat g = subst (λ z. drop z (row ++ flat g) ≡ flat g) wide (drop-append_seam row (flat g)) in
    ap₂ (λ (r : List (Option ℕ)) (xs : List (Option ℕ)). r ∷ rows_of k (length g) xs) first rest
    ∙ ap (λ (rs : Graph). row ∷ rs) (rows_flat k g (All-tail (λ row. length row ≡ k) row g w))

-- one row more
pub add_rows : (k n : ℕ) (xs row : List (Option ℕ)) → length xs ≡ n * k → length row ≡ k → rows_of k (suc n) (xs ++ row) ≡ rows_of k n xs ++ row ∷ []
add_rows k zero xs row e h = go xs (omega (arith, e))
  where
    go : (xs : List (Option ℕ)) → length xs ≡ 0 → rows_of k (suc zero) (xs ++ row) ≡ row ∷ []
    go [] d = let all : take k row ≡ row = subst (λ z. take z row ≡ row) h (take-length row) in rw all refl
    go (x ∷ xs) d = absurd (omega (arith, d))
add_rows k (suc n) xs row e h =
    let first : take k (xs ++ row) ≡ take k xs = take-append-le k xs row (long k n xs e).0 in
    let rest : drop k (xs ++ row) ≡ drop k xs ++ row = drop-append-le k xs row (long k n xs e).0 in
    rw (first, rest) (ap (λ z. take k xs ∷ z) (add_rows k n (drop k xs) row (long k n xs e).1 h))

-- the rows of a table have one width
pub one_width : (k l n : ℕ) (xs : List (Option ℕ)) → length xs ≡ n * k → 0 < n → ((i : ℕ) (d : List (Option ℕ)) → i < length (rows_of k n xs) → length (get_or (rows_of k n xs) i d) ≡ l) → k ≡ l
one_width k l n xs e h w = sym (width_rows k n xs e 0 [] h) ∙ w 0 [] (omega (arith, h, length_rows k n xs))

-- a node and a letter of the table
pub within_rows : (k n node a : ℕ) (g : Graph) (xs : List (Option ℕ)) → length xs ≡ n * k → rows_of k n xs ≡ g → node < length g → a < length (get_or g node []) → (node < n) × (a < k)
within_rows k n node a g xs e view hn ha =
    let less : node < n = subst (λ z. node < z) (sym (ap length view) ∙ length_rows k n xs) hn in
    let wide : length (get_or g node []) ≡ k = sym (ap (λ z. length (get_or z node [])) view) ∙ width_rows k n xs e node [] less in
    (less, subst (λ z. a < z) wide ha)

-- a list of nothing
pub all_none : (xs : List (Option ℕ)) → ((i : ℕ) → i < length xs → get_or xs i None ≡ None) → xs ≡ replicate (length xs) None
all_none [] h = refl
all_none (x ∷ xs) h = let head : x ≡ None = h 0 (omega arith) in let tail = all_none xs (λ i l. h (suc i) (omega (arith, l))) in ap (λ z. z ∷ xs) head ∙ ap (λ z. None ∷ z) tail

pub none_more : (xs : List (Option ℕ)) (place : ℕ) → place < length xs → ((i : ℕ) → i < place → get_or xs i None ≡ None) → (i : ℕ) → i < place + 1 → get_or (set xs place None) i None ≡ None
none_more xs place h so_far i l = go (cases_eq i place)
  where
    go : (i ≡ place) ⊎ (i ≢ place) → get_or (set xs place None) i None ≡ None
    go (inl e) = ap (λ z. get_or (set xs place None) z None) e ∙ get_or-set_same xs place None None h
    go (inr d) = get_or-set_other xs place i None None d ∙ so_far i (omega (arith, l, d))

-- the root alone
pub cleared : (k n : ℕ) (xs : List (Option ℕ)) → 0 < n → length xs ≡ n * k → length (take k xs) ≡ k
cleared k zero xs h e = absurd (omega (arith, h))
cleared k (suc n) xs h e = length-take-le k xs (long k n xs e).0

pub bare_rows : (k n m : ℕ) → m ≡ n * k → rows_of k n (replicate m None) ≡ replicate n (replicate k None)
bare_rows k zero m e = refl
bare_rows k (suc n) m e =
    let first : take k (replicate m None) ≡ replicate {A = Option ℕ} k None = take-replicate k m None (omega (arith, e, suc-mul n k)) in
    let rest : drop k (replicate m None) ≡ replicate {A = Option ℕ} (m - k) None = drop-replicate k m None in
    rw (first, rest) (ap (λ z. replicate k None ∷ z) (bare_rows k n (m - k) (omega (arith, e, suc-mul n k))))
