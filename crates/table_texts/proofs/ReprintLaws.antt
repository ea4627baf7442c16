-- Tables that are read, and printed again.
use Rattle.std.proofs.Common.{◌≡◌, ◌≢◌, ℕ, suc, ◌+◌, ◌-◌, ◌*◌, ◌^◌, ◌<◌, ◌≤◌, ◌==◌, nat_le, nat_lt, Bool, true, false, not, ◌&&◌, List, [], ◌∷◌, ◌++◌, length, map, fold, get_or, slice_get, if◌then◌else◌, cond, min, Option, Some, None, option_and_then, decimal, refl, sym, ◌∙◌, ap, ap₂, arith, inl, inr, rules}
use Rattle.std.specs.Prelude.{option_map}
use Rattle.std.proofs.lemmas.List.{length-map}
use Rattle.std.specs.List.{slice_split, onto_first, list_all, join_by, flat_map}
use Rattle.std.proofs.lemmas.Bool.{cases_lt, cases_eq, eqb-true, le-leb, leb-true}
use Rattle.std.proofs.lemmas.Fmt.{decimal-digits_value}
use Rattle.std.proofs.lemmas.Str.Parse.{IsNumeralModel, numerals_by_fold, digits_value_short}
use Rattle.std.proofs.lemmas.List.Splits.{length-slice_split}
use Rattle.std.proofs.lemmas.Option.{slice_get-get_or, slice_get-map}
use Rattle.table_texts.specs.TableText.{is_digit, has_leading_zero, number_of, target_read, target_text, row_text, table_text, fields_cut, rows_cut, row_read, table_read, IsFaultAt}

-- parts that are joined again
joined_parts : (b : ℕ) (parts : List (List ℕ)) (x : ℕ) → 0 < length parts → join_by (λ p. p) (b ∷ []) (onto_first x parts) ≡ x ∷ join_by (λ p. p) (b ∷ []) parts
joined_parts b [] x h = absurd (omega arith)
joined_parts b (p ∷ parts) x h = refl

split_some : (b : ℕ) (bs : List ℕ) → 0 < length (slice_split (λ c. c == b) bs)
split_some b bs = omega (arith, length-slice_split (λ c. c == b) bs)

pub join_split : (b : ℕ) (bs : List ℕ) → join_by (λ p. p) (b ∷ []) (slice_split (λ c. c == b) bs) ≡ bs
join_split b [] = refl
join_split b (x ∷ bs) = go (x == b) refl (slice_split (λ c. c == b) bs) (split_some b bs) (join_split b bs)
  where
    go : (t : Bool) → (x == b) ≡ t → (parts : List (List ℕ)) → 0 < length parts → join_by (λ p. p) (b ∷ []) parts ≡ bs
        → join_by (λ p. p) (b ∷ []) (cond t ([] ∷ parts) (onto_first x parts)) ≡ x ∷ bs
    go true e [] some h = absurd (omega arith)
    go true e (p ∷ parts) some h = let same : b ≡ x = sym (eqb-true x b e) in ap₂ (λ (z : ℕ) (zs : List ℕ). z ∷ zs) same h
    go false e parts some h = joined_parts b parts x some ∙ ap (λ (zs : List ℕ). x ∷ zs) h

-- what each part prints as
pub join_same : {A : Type 0} (sep : List ℕ) (f : A → List ℕ) (g : List ℕ → A) (parts : List (List ℕ)) → ((i : ℕ) → i < length parts → f (g (get_or parts i [])) ≡ get_or parts i [])
    → join_by f sep (map g parts) ≡ join_by (λ p. p) sep parts
join_same sep f g [] same = refl
join_same sep f g (p ∷ parts) same = ap₂ (λ (a b : List ℕ). a ++ b) (same 0 (omega arith)) (go parts (λ i h. same (suc i) (omega arith)))
  where
    go : (parts : List (List ℕ)) → ((i : ℕ) → i < length parts → f (g (get_or parts i [])) ≡ get_or parts i [])
        → flat_map (λ y. sep ++ f y) (map g parts) ≡ flat_map (λ y. sep ++ y) parts
    go [] same = refl
    go (p ∷ parts) same = ap₂ (λ (a b : List ℕ). (sep ++ a) ++ b) (same 0 (omega arith)) (go parts (λ i h. same (suc i) (omega arith)))

own : IsNumeralModel (λ ds. list_all is_digit ds ≡ true) (λ ds. fold (λ n b. n * 10 + (b - 48)) 0 ds)
own = numerals_by_fold (λ ds. list_all is_digit ds ≡ true) (search rules) (λ n ds. fold (λ n b. n * 10 + (b - 48)) n ds) (search rules)

-- a number is the decimal of its value
pub number_back : (field : List ℕ) (n : ℕ) → number_of field ≡ Some n → decimal n ≡ field
number_back field n e = go (nat_le 1 (length field)) (nat_le (length field) 4) (has_leading_zero field) (list_all is_digit field) refl refl refl refl e
  where
    lone : (l g : ℕ) → 0 < l → (nat_le 2 l && (g == 48)) ≡ false → g ≡ 48 → l ≡ 1
    lone l g some z h = elim (cases_lt 1 l) [
      | inl more ↦
          let two : nat_le 2 l ≡ true = le-leb 2 l (omega arith) in
          let eq : (g == 48) ≡ true = ap (λ m. m == 48) h in
          let t : (nat_le 2 l && (g == 48)) ≡ true = ap₂ (λ x y. x && y) two eq in
          let f : true ≡ false = sym t ∙ z in
          absurd (let n : ⊥ = cc in n)
      | inr less ↦ omega arith
    ]

    go : (a b c d : Bool) → nat_le 1 (length field) ≡ a → nat_le (length field) 4 ≡ b → has_leading_zero field ≡ c → list_all is_digit field ≡ d
        → (if a && (b && (not c && d)) then Some (fold (λ n b. n * 10 + (b - 48)) 0 field) else None) ≡ Some n → decimal n ≡ field
    go true true false true ea eb ec ed e =
        let some : 0 < length field = leb-true 1 (length field) ea in
        let short : length field ≤ 4 = leb-true (length field) 4 eb in
        let small : fold (λ n b. n * 10 + (b - 48)) 0 field < 10 ^ 4 = digits_value_short own field 4 ed short in
        let is : fold (λ n b. n * 10 + (b - 48)) 0 field ≡ n = cc in
        ap decimal (sym is) ∙ decimal-digits_value own field ed some (lone (length field) (get_or field 0 0) some ec) (omega (arith, small))
    go true true false false ea eb ec ed e = cc
    go true true true d ea eb ec ed e = cc
    go true false c d ea eb ec ed e = cc
    go false b c d ea eb ec ed e = cc

pub target_back : (nodes : ℕ) (field : List ℕ) → target_read nodes field ≢ None → target_text (target_read nodes field) ≡ field
target_back nodes field some = go (number_of field) refl some
  where
    go : (o : Option ℕ) → number_of field ≡ o → option_and_then (λ n. if nat_lt n nodes then Some n else None) o ≢ None → target_text (option_and_then (λ n. if nat_lt n nodes then Some n else None) o) ≡ field
    go None e some = absurd (some refl)
    go (Some n) e some = within (nat_lt n nodes) some
      where
        within : (b : Bool) → (if b then Some n else None) ≢ None → target_text (if b then Some n else None) ≡ field
        within true some = number_back field n e
        within false some = absurd (some refl)

-- a text in which nothing is wrong
pub table_again : (k : ℕ) (text : List ℕ) → ((place : ℕ) → IsFaultAt k (table_read text) place → ⊥) → table_text (table_read text) ≡ text
table_again k text good = join_same (47 ∷ []) row_text (row_read (length (rows_cut text))) (rows_cut text) row ∙ join_split 47 text
  where
    at : (i : ℕ) → i < length (rows_cut text) → slice_get (table_read text) i ≡ Some (row_read (length (rows_cut text)) (get_or (rows_cut text) i []))
    at i h = slice_get-map (row_read (length (rows_cut text))) (rows_cut text) i ∙ ap (option_map (row_read (length (rows_cut text)))) (slice_get-get_or (rows_cut text) i [] h)

    row : (i : ℕ) → i < length (rows_cut text) → row_text (row_read (length (rows_cut text)) (get_or (rows_cut text) i [])) ≡ get_or (rows_cut text) i []
    row i h =
        let p = get_or (rows_cut text) i [] in
        join_same (44 ∷ []) target_text (target_read (length (rows_cut text))) (fields_cut p) (field i h) ∙ join_split 44 p
      where
        field : (i : ℕ) → i < length (rows_cut text) → (j : ℕ) → j < length (fields_cut (get_or (rows_cut text) i [])) → target_text (target_read (length (rows_cut text)) (get_or (fields_cut (get_or (rows_cut text) i [])) j [])) ≡ get_or (fields_cut (get_or (rows_cut text) i [])) j []
        field i h j hj =
            let p = get_or (rows_cut text) i [] in
            let m = length (rows_cut text) in
            let there : slice_get (row_read m p) j ≡ Some (target_read m (get_or (fields_cut p) j [])) = slice_get-map (target_read m) (fields_cut p) j ∙ ap (option_map (target_read m)) (slice_get-get_or (fields_cut p) j [] hj) in
            target_back m (get_or (fields_cut p) j []) (λ none. elim (cases_eq (length (row_read m p)) k) [
              | inl wide ↦ good (i * k + j) (inl (record { row = i; column = j; fields = row_read m p; row_is = at i h; within = omega (arith, hj, wide, length-map (fields_cut p) (target_read m)); bad = there ∙ ap (λ z. Some z) none; place_is = refl }))
              | inr other ↦ good (i * k + min (length (row_read m p)) k) (inr (inl (record { row = i; fields = row_read m p; row_is = at i h; bad = other; place_is = refl })))
            ])
