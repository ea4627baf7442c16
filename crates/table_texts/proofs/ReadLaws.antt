-- Rows and tables that are read.
use Rattle.std.proofs.Common.{◌≡◌, ◌≢◌, ℕ, ◌+◌, ◌*◌, ◌<◌, ◌≤◌, List, [], ◌∷◌, ◌++◌, length, map, take, get_or, slice_get, Option, Some, None, sym, ap, ◌∙◌, subst, refl, arith, inl, inr, ◌⊎◌}
use Rattle.std.specs.Prelude.{option_map}
use Rattle.std.proofs.Math.Nat.{mul-le-mul_left}
use Rattle.std.specs.Borrow.{Bor}
use Rattle.std.proofs.lemmas.List.{length-map, take_more}
use Rattle.std.proofs.lemmas.Option.{slice_get-map, slice_get-get_or, get_or_from_slice_get, slice_get_within}
use Rattle.theory.specs.Graph.{Graph}
use Rattle.table_texts.specs.TableText.{texts, IsGoodRow, IsFirstInRow, IsBadField, IsBadRow, IsFaultAt, IsLeastFault}

below_or_at : (k n : ℕ) → k < n + 1 → (k < n) ⊎ (k ≡ n)
below_or_at k n h = grind arith

module _ {A : Type 0} (f : List ℕ → A) (pieces : List (Bor (List ℕ))) where
  pub cell_at : (j : ℕ) (d : Bor (List ℕ)) → j < length pieces → slice_get (map f (texts pieces)) j ≡ Some (f (get_or pieces j d).now)
  cell_at j d h = slice_get-map f (texts pieces) j ∙ ap (option_map f) (slice_get-map (λ t. t.now) pieces j ∙ ap (option_map (λ t. t.now)) (slice_get-get_or pieces j d h))

  pub cells_long : length (map f (texts pieces)) ≡ length pieces
  cells_long = length-map (texts pieces) f ∙ length-map pieces (λ t. t.now)

  -- one piece more
  pub cells_more : (j : ℕ) (d : Bor (List ℕ)) → j < length pieces → take j (map f (texts pieces)) ++ f (get_or pieces j d).now ∷ [] ≡ take (j + 1) (map f (texts pieces))
  cells_more j d h =
      let v = f (get_or pieces j d).now in
      let here : get_or (map f (texts pieces)) j v ≡ v = get_or_from_slice_get (map f (texts pieces)) j v v (cell_at j d h) in
      ap (λ z. take j (map f (texts pieces)) ++ z ∷ []) (sym here) ∙ sym (take_more (map f (texts pieces)) j v (omega (arith, cells_long, h)))

-- the fields before j are good
abbrev pub GoodBelow : List (Option ℕ) → ℕ → Type 0
GoodBelow fields j = (i : ℕ) → i < j → slice_get fields i ≢ Some None

module _ (fields : List (Option ℕ)) where
  pub good_more : (j n : ℕ) → GoodBelow fields j → slice_get fields j ≡ Some (Some n) → GoodBelow fields (j + 1)
  good_more j n good at = λ i lt bad. elim (below_or_at i j lt) [
    | inl b ↦ good i b bad
    | inr b ↦ let here : slice_get fields i ≡ Some (Some n) = ap (slice_get fields) b ∙ at in let e : Some (Some n) ≡ Some None = sym here ∙ bad in cc
  ]

  pub good_all : (k j : ℕ) → GoodBelow fields j → length fields ≤ j → length fields ≡ k → IsGoodRow k fields
  good_all k j good past wide = record {
    width = wide;
    good = λ i bad. good i (omega (arith, slice_get_within fields i None bad)) bad;
  }

  pub first_at : (k j : ℕ) → GoodBelow fields j → j < length fields → j < k → slice_get fields j ≡ Some None → IsFirstInRow k fields j
  first_at k j good within below at = record { before = λ i lt. (omega arith, good i lt); at = inl (below, at) }

  pub first_more : (k j : ℕ) → GoodBelow fields j → j < length fields → j ≡ k → IsFirstInRow k fields j
  first_more k j good within e = record { before = λ i lt. (omega arith, good i lt); at = inr (λ wide. omega arith, omega arith) }

  pub first_less : (k j : ℕ) → GoodBelow fields j → length fields ≡ j → j < k → IsFirstInRow k fields j
  first_less k j good e less = record { before = λ i lt. (omega arith, good i lt); at = inr (λ wide. omega arith, omega arith) }

rows_apart : (i r k : ℕ) → i < r → i * k + k ≤ r * k
rows_apart i r k h = let next : i + 1 ≤ r = omega arith in omega (arith, mul-le-mul_left k next)

less_or : (i r : ℕ) → (r < i) ⊎ ((r ≡ i) ⊎ (i < r))
less_or i r = grind arith

-- the rows before i are good
abbrev pub GoodRows : ℕ → Graph → ℕ → Type 0
GoodRows k table i = (r : ℕ) (c : List (Option ℕ)) → r < i → slice_get table r ≡ Some c → IsGoodRow k c

module _ (k : ℕ) (table : Graph) where
  pub rows_more : (i : ℕ) (c : List (Option ℕ)) → GoodRows k table i → slice_get table i ≡ Some c → IsGoodRow k c → GoodRows k table (i + 1)
  rows_more i c good at row = λ r d lt there. elim (below_or_at r i lt) [
    | inl b ↦ good r d b there
    | inr b ↦ subst (IsGoodRow k) (same_some (sym (ap (slice_get table) b ∙ at) ∙ there)) row
  ]
    where
      same_some : {A : Type 0} {x y : A} → Some x ≡ Some y → x ≡ y
      same_some e = cc

  first_within : (c : List (Option ℕ)) (j : ℕ) → IsFirstInRow k c j → (j ≤ k) × (j ≤ length c)
  first_within c j f = elim f.at [
    | inl a ↦ (omega (arith, a.0), omega (arith, slice_get_within c j None a.1))
    | inr a ↦ (omega (arith, a.1), omega (arith, a.1))
  ]

  fault_in : (i j : ℕ) (c : List (Option ℕ)) → slice_get table i ≡ Some c → IsFirstInRow k c j → IsFaultAt k table (i * k + j)
  fault_in i j c at f = elim f.at [
    | inl a ↦ inl (record { row = i; column = j; fields = c; row_is = at; within = a.0; bad = a.1; place_is = refl })
    | inr a ↦ inr (inl (record { row = i; fields = c; row_is = at; bad = a.0; place_is = ap (λ z. i * k + z) a.1 }))
  ]

  module _ (i j : ℕ) (c : List (Option ℕ)) (good : GoodRows k table i) (at : slice_get table i ≡ Some c) (f : IsFirstInRow k c j) where
    same_row : (r : ℕ) (d : List (Option ℕ)) → slice_get table r ≡ Some d → r ≡ i → d ≡ c
    same_row r d there e = let both : Some d ≡ Some c = sym there ∙ ap (slice_get table) e ∙ at in cc

    after_field : (other : ℕ) → IsBadField k table other → i * k + j ≤ other
    after_field other b = elim (less_or i b.row) [
      | inl h ↦ absurd ((good b.row b.fields h b.row_is).good b.column b.bad)
      | inr h ↦ elim h [
        | inl e ↦
            let bad : slice_get c b.column ≡ Some None = subst (λ d. slice_get d b.column ≡ Some None) (same_row b.row b.fields b.row_is e) b.bad in
            elim (less_or j b.column) [
              | inl l ↦ absurd ((f.before b.column l).1 bad)
              | inr l ↦ let row : b.row * k ≡ i * k = ap (λ z. z * k) e in elim l [ inl m ↦ omega (arith, b.place_is, row, m) | inr m ↦ omega (arith, b.place_is, row, m) ]
            ]
        | inr l ↦ omega (arith, b.place_is, rows_apart i b.row k l, (first_within c j f).0)
      ]
    ]

    after_row : (other : ℕ) → IsBadRow k table other → i * k + j ≤ other
    after_row other b = elim (less_or i b.row) [
      | inl h ↦ absurd (b.bad (good b.row b.fields h b.row_is).width)
      | inr h ↦ elim h [
        | inl e ↦
            let row : b.row * k ≡ i * k = ap (λ z. z * k) e in
            let long : length b.fields ≡ length c = ap length (same_row b.row b.fields b.row_is e) in
            omega (arith, b.place_is, row, long, (first_within c j f).0, (first_within c j f).1)
        | inr l ↦ omega (arith, b.place_is, rows_apart i b.row k l, (first_within c j f).0)
      ]
    ]

    pub least_in : i < 1024 → IsLeastFault k table (i * k + j)
    least_in few = record {
      is = fault_in i j c at f;
      least = λ other b. elim b [
        | inl b ↦ after_field other b
        | inr b ↦ elim b [ inl b ↦ after_row other b | inr b ↦ omega (arith, b.place_is, rows_apart i 1024 k few, (first_within c j f).0) ]
      ];
    }

  before_field : (i other : ℕ) → GoodRows k table i → IsBadField k table other → i * k ≤ other
  before_field i other good b = elim (less_or i b.row) [
    | inl h ↦ absurd ((good b.row b.fields h b.row_is).good b.column b.bad)
    | inr h ↦ elim h [
      | inl e ↦ let row : b.row * k ≡ i * k = ap (λ z. z * k) e in omega (arith, b.place_is, row)
      | inr l ↦ omega (arith, b.place_is, rows_apart i b.row k l)
    ]
  ]

  before_row : (i other : ℕ) → GoodRows k table i → IsBadRow k table other → i * k ≤ other
  before_row i other good b = elim (less_or i b.row) [
    | inl h ↦ absurd (b.bad (good b.row b.fields h b.row_is).width)
    | inr h ↦ elim h [
      | inl e ↦ let row : b.row * k ≡ i * k = ap (λ z. z * k) e in omega (arith, b.place_is, row)
      | inr l ↦ omega (arith, b.place_is, rows_apart i b.row k l)
    ]
  ]

  pub least_long : GoodRows k table 1024 → 1024 < length table → IsLeastFault k table (1024 * k)
  least_long good long = record {
    is = inr (inr (record { long = long; place_is = refl }));
    least = λ other b. elim b [
      | inl b ↦ before_field 1024 other good b
      | inr b ↦ elim b [ inl b ↦ before_row 1024 other good b | inr b ↦ omega (arith, b.place_is) ]
    ];
  }

  pub no_fault : (i : ℕ) → GoodRows k table i → length table ≤ i → length table ≤ 1024 → (place : ℕ) → IsFaultAt k table place → ⊥
  no_fault i good all few place b = elim b [
    | inl b ↦ (good b.row b.fields (omega (arith, all, slice_get_within table b.row b.fields b.row_is)) b.row_is).good b.column b.bad
    | inr b ↦ elim b [
      | inl b ↦ b.bad (good b.row b.fields (omega (arith, all, slice_get_within table b.row b.fields b.row_is)) b.row_is).width
      | inr b ↦ omega (arith, b.long)
    ]
  ]
