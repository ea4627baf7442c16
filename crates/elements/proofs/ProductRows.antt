-- A product of matrices, row by row and entry by entry.
use Rattle.std.proofs.Common.{◌≡◌, ℕ, zero, suc, ◌+◌, ◌*◌, ◌/◌, ◌%◌, ◌<◌, ◌≤◌, List, [], ◌∷◌, ◌++◌, length, map, get_or, sym, ap, ◌∙◌, arith, append-nil, append_assoc}
use Rattle.std.specs.List.{range_with_len, between}
use Rattle.std.proofs.lemmas.List.Edits.{length-between, get_or-between}
use Rattle.std.proofs.lemmas.List.FromFn.{map-range_with_len_more}
use Rattle.std.proofs.lemmas.Nat.{div-mul-add, mod-mul-add, row_fits}
use Rattle.elements.specs.Matrix.{sum_below, product_entry, row_by_column}
use Rattle.elements.specs.MatrixLaws.{total-same}

module _ {A : Type 0} where
  -- a list behind another, with one place more
  pub entries_more : (f : ℕ → A) (old done items : List A) (j : ℕ) (x : A) → items ≡ done ++ x ∷ [] → done ≡ old ++ map f (range_with_len 0 j) → x ≡ f j → items ≡ old ++ map f (range_with_len 0 (j + 1))
  entries_more f old done items j x pushed so_far here =
      pushed ∙ (λ t. so_far t ++ here t ∷ []) ∙ append_assoc old (map f (range_with_len 0 j)) (f j ∷ [])
      ∙ ap (λ r. old ++ r) (sym (map-range_with_len_more f 0 j j (omega arith)))

  -- the front of a table that ends with its row i as far as column m
  front_of_row : (n : ℕ) (f : ℕ → ℕ → A) (i m : ℕ) → m ≤ n → map (λ p. f (p / n) (p % n)) (range_with_len 0 (i * n)) ++ map (f i) (range_with_len 0 m) ≡ map (λ p. f (p / n) (p % n)) (range_with_len 0 (i * n + m))
  front_of_row n f i zero h =
      let entry : ℕ → A = λ p. f (p / n) (p % n) in
      append-nil (map entry (range_with_len 0 (i * n))) ∙ ap (λ k. map entry (range_with_len 0 k)) (omega arith)
  front_of_row n f i (suc m) h =
      let entry : ℕ → A = λ p. f (p / n) (p % n) in
      let above : List A = map entry (range_with_len 0 (i * n)) in
      let one : suc m ≡ m + 1 = omega arith in
      let here : entry (i * n + m) ≡ f i m = λ t. f (div-mul-add i n m (omega arith) t) (mod-mul-add i n m (omega arith) t) in
      ap (λ k. above ++ map (f i) (range_with_len 0 k)) one
      ∙ sym (entries_more (f i) above (map entry (range_with_len 0 (i * n + m))) (map entry (range_with_len 0 (i * n + m + 1))) m (entry (i * n + m)) (map-range_with_len_more entry 0 (i * n + m) (i * n + m) (omega arith)) (sym (front_of_row n f i m (omega arith))) here)
      ∙ ap (λ k. map entry (range_with_len 0 k)) (omega arith)

module _ {A : Type 0} (add multiply : A → A → A) (nothing : A) where
  -- a sum with one term more
  pub sum_more : (f : ℕ → A) (k : ℕ) (sum next term : A) → next ≡ add sum term → sum ≡ sum_below add multiply nothing f k → term ≡ f k → next ≡ sum_below add multiply nothing f (k + 1)
  sum_more f k sum next term made so_far here =
      let one : suc k ≡ k + 1 = omega arith in
      made ∙ (λ t. add (so_far t) (here t)) ∙ ap (λ m. sum_below add multiply nothing f m) one

  -- row i is part of the matrix
  row_entry : (n : ℕ) (x y : List A) (i : ℕ) → length x ≡ n * n → i < n → (j : ℕ) → row_by_column add multiply nothing (between (i * n) (i * n + n) x) y j ≡ product_entry add multiply nothing n x y i j
  row_entry n x y i sized in_rows j =
      let row : List A = between (i * n) (i * n + n) x in
      let ends : i * n + n ≤ length x = omega (arith, sized, row_fits i n n n in_rows (omega arith)) in
      let long : length row ≡ n = length-between x (i * n) (i * n + n) ends ∙ omega arith in
      ap (λ m. sum_below add multiply nothing (λ k. multiply (get_or row k nothing) (get_or y (k * m + j) nothing)) m) long
      ∙ total-same add multiply nothing (λ k. multiply (get_or row k nothing) (get_or y (k * n + j) nothing)) (λ k. multiply (get_or x (i * n + k) nothing) (get_or y (k * n + j) nothing)) n
      (λ k lt. ap (λ p. multiply p (get_or y (k * n + j) nothing)) (get_or-between x (i * n) (i * n + n) k nothing (omega arith)))

  -- the rows above row i, and row i behind them
  pub rows_more : (n : ℕ) (x y : List A) (i : ℕ) (done items row : List A) → length x ≡ n * n → i < n → row ≡ between (i * n) (i * n + n) x → items ≡ done ++ map (row_by_column add multiply nothing row y) (range_with_len 0 (length row)) → done ≡ map (λ p. product_entry add multiply nothing n x y (p / n) (p % n)) (range_with_len 0 (i * n)) → items ≡ map (λ p. product_entry add multiply nothing n x y (p / n) (p % n)) (range_with_len 0 ((i + 1) * n))
  rows_more n x y i done items row sized in_rows is pushed so_far =
      let ends : i * n + n ≤ length x = omega (arith, sized, row_fits i n n n in_rows (omega arith)) in
      let long : length (between (i * n) (i * n + n) x) ≡ n = length-between x (i * n) (i * n + n) ends ∙ omega arith in
      let next : i * n + n ≡ (i + 1) * n = omega arith in
      pushed ∙ (λ t. so_far t ++ map (row_by_column add multiply nothing (is t) y) (range_with_len 0 (length (is t))))
      ∙ (λ t. map (λ p. product_entry add multiply nothing n x y (p / n) (p % n)) (range_with_len 0 (i * n)) ++ map (λ j. row_entry n x y i sized in_rows j t) (range_with_len 0 (long t)))
      ∙ front_of_row n (product_entry add multiply nothing n x y) i n (omega arith)
      ∙ ap (λ k. map (λ p. product_entry add multiply nothing n x y (p / n) (p % n)) (range_with_len 0 k)) next
