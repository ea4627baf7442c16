-- Rows that are cut from a list.
use Rattle.std.proofs.Common.{◌≡◌, ℕ, zero, suc, ◌+◌, ◌*◌, ◌<◌, ◌≤◌, List, [], ◌∷◌, ◌++◌, length, length-append, drop, get_or, slice_index, refl, sym, ap, subst, ◌∙◌, arith, mul-le-mul_right, mul_comm, inl, inr}
use Rattle.std.proofs.lemmas.List.{get_or-take, get_or-drop, length-take-le, length-drop}
use Rattle.froidure_pin.specs.Found.{entry}
use Rattle.froidure_pin.specs.Numbering.{AreRows, AreRowsBy, IsRowBy, rows_in}
use Rattle.froidure_pin.proofs.OneShape.{get_any}
use Rattle.froidure_pin.proofs.Order.{equal_or_below}
use Rattle.froidure_pin.proofs.Places.{at_last, row_below}
use Rattle.froidure_pin.proofs.Starts.{get_front}

pub rows_count : (k n : ℕ) (xs : List ℕ) → length (rows_in k n xs) ≡ n
rows_count k zero xs = refl
rows_count k (suc n) xs = ap suc (rows_count k n (drop k xs))

pub row_at : (k n : ℕ) (xs : List ℕ) (i a : ℕ) → i < n → a < k → slice_index (get_or (rows_in k n xs) i []) a ≡ slice_index xs (i * k + a)
row_at k zero xs i a h l = absurd (omega arith)
row_at k (suc n) xs zero a h l = let place : a ≡ 0 * k + a = omega arith in get_or-take k xs a 0 l ∙ ap (slice_index xs) place
row_at k (suc n) xs (suc i) a h l =
    let place : k + (i * k + a) ≡ suc i * k + a = omega arith in
    row_at k n (drop k xs) i a (omega arith) l ∙ get_or-drop k xs (i * k + a) 0 ∙ ap (slice_index xs) place

pub row_width : (k n : ℕ) (xs : List ℕ) → n * k ≤ length xs → (i : ℕ) → i < n → length (get_or (rows_in k n xs) i []) ≡ k
row_width k zero xs long i h = absurd (omega arith)
row_width k (suc n) xs long zero h = length-take-le k xs (omega (arith, long))
row_width k (suc n) xs long (suc i) h = row_width k n (drop k xs) (omega (arith, long, length-drop k xs)) i (omega arith)

-- the rows behind that of the empty word
pub rows_by : (k n : ℕ) (numbers : List ℕ) → AreRows k n numbers → AreRowsBy n k (λ i. entry k numbers (i + 1)) (rows_in k n (drop k numbers))
rows_by k n numbers rows = record {
  count = rows_count k n (drop k numbers);
  row = λ i h. record {
    count = row_width k n (drop k numbers) (omega (arith, rows.count, length-drop k numbers)) i h;
    at = λ a l.
        let place : k + (i * k + a) ≡ (i + 1) * k + a = omega arith in
        row_at k n (drop k numbers) i a h l ∙ get_or-drop k numbers (i * k + a) 0 ∙ ap (slice_index numbers) place;
  };
}

-- the row of the empty word stands first
pub first_row : (k : ℕ) (numbers row : List ℕ) → IsRowBy k (entry k numbers 0) row → IsRowBy k (slice_index numbers) row
first_row k numbers row is = record {
  count = is.count;
  at = λ a l. let place : 0 * k + a ≡ a = omega arith in is.at a l ∙ ap (slice_index numbers) place;
}

-- a letter has a place in the first row
pub in_first_row : (k n : ℕ) (numbers : List ℕ) (a : ℕ) → AreRows k n numbers → a < k → a < length numbers
in_first_row k n numbers a rows h = omega (arith, rows.count, row_below k 0 (n + 1) a (omega arith) h)

-- what is read there
pub first_row_read : (k n : ℕ) (numbers : List ℕ) (a r : ℕ) → AreRows k n numbers → a < k → r ≡ get_or numbers a r → (r < n) × (r ≡ slice_index numbers a)
first_row_read k n numbers a r rows h is =
    let inside = in_first_row k n numbers a rows h in
    let read : r ≡ slice_index numbers a = is ∙ get_any numbers a r 0 inside in
    (omega (arith, read, rows.within a inside), read)

-- one number more
pub row_more : (number : ℕ → ℕ) (row more : List ℕ) (a : ℕ) → more ≡ row ++ number a ∷ [] → IsRowBy a number row → IsRowBy (a + 1) number more
row_more number row more a is known = subst (λ xs. IsRowBy (a + 1) number xs) (sym is) (record { count = omega (arith, known.count, length-append row (number a ∷ [])); at = at })
  where
    at : (b : ℕ) → b < a + 1 → slice_index (row ++ number a ∷ []) b ≡ number b
    at b h = elim (equal_or_below b a (omega arith)) [
      | inl e ↦ ap (slice_index (row ++ number a ∷ [])) (e ∙ sym known.count) ∙ at_last row (number a) 0 ∙ ap number (sym e)
      | inr less ↦ get_front row (number a ∷ []) b 0 (omega (arith, known.count)) ∙ known.at b less
    ]

-- the rows as they are seen
module _ (k n : ℕ) (numbers : List ℕ) (rows : AreRows k n numbers) (seen : List (List ℕ)) (is : rows_in k n (drop k numbers) ≡ seen) where
  pub seen_count : n ≡ length seen
  seen_count = sym (rows_count k n (drop k numbers)) ∙ ap length is

  pub seen_width : (i : ℕ) → i < length seen → length (get_or seen i []) ≡ k
  seen_width i h = subst (λ (v : List (List ℕ)). length (get_or v i []) ≡ k) is ((rows_by k n numbers rows).row i (omega (arith, h, seen_count))).count

  pub seen_at : (i a : ℕ) → i < length seen → a < length (get_or seen i []) → entry k numbers (i + 1) a ≡ slice_index (get_or seen i []) a
  seen_at i a h l =
      subst (λ (v : List (List ℕ)). entry k numbers (i + 1) a ≡ slice_index (get_or v i []) a) is
      (sym (((rows_by k n numbers rows).row i (omega (arith, h, seen_count))).at a (omega (arith, l, seen_width i h))))

  pub seen_in : (i a : ℕ) → i < length seen → a < length (get_or seen i []) → (i + 1) * k + a < length numbers
  seen_in i a h l =
      let below = row_below k (i + 1) (n + 1) a (omega (arith, h, seen_count)) (omega (arith, l, seen_width i h)) in
      omega (arith, below, rows.count)

  pub seen_small : (i a : ℕ) → i < length seen → a < length (get_or seen i []) → i + 1 < length numbers + 1
  seen_small i a h l =
      let least : 1 * (i + 1) ≤ k * (i + 1) = mul-le-mul_right (i + 1) (omega (arith, l, seen_width i h)) in
      omega (arith, least, mul_comm k (i + 1), seen_in i a h l)
