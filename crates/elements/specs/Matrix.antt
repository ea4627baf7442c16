-- Square matrices, row by row.
use Rattle.std.specs.Prelude.{◌≡◌, ℕ, zero, suc, ◌+◌, ◌*◌, ◌/◌, ◌%◌, List, length, map, slice_index_or}
use Rattle.std.specs.List.{range_with_len}

-- the n by n matrix with f i j in row i and column j
abbrev pub table : {A : Type 0} → ℕ → (ℕ → ℕ → A) → List A
table n f = map (λ p. f (p / n) (p % n)) (range_with_len 0 (n * n))

module _ {A : Type 0} (add multiply : A → A → A) (nothing : A) where
  -- the sum of f over the numbers below n
  abbrev pub sum_below : (ℕ → A) → ℕ → A
  sum_below f zero = nothing
  sum_below f (suc n) = add (sum_below f n) (f n)

  -- what stands in row i and column j
  abbrev pub entry_at : ℕ → List A → ℕ → ℕ → A
  entry_at n x i j = slice_index_or x (i * n + j) nothing

  -- row i of x times column j of y
  abbrev pub product_entry : ℕ → List A → List A → ℕ → ℕ → A
  product_entry n x y i j = sum_below (λ k. multiply (entry_at n x i k) (entry_at n y k j)) n

  -- a row times column j of y, whose rows are as long
  abbrev pub row_by_column : List A → List A → ℕ → A
  row_by_column row y j =
      sum_below (λ k. multiply (slice_index_or row k nothing) (entry_at (length row) y k j))
      (length row)

  -- x times y
  abbrev pub matrix_product : ℕ → List A → List A → List A
  matrix_product n x y = table n (product_entry n x y)

  -- the laws that make the product associative
  pub record IsSemiring : Type 0 where
    pub add_associative : (p q r : A) → add (add p q) r ≡ add p (add q r)
    pub add_commutative : (p q : A) → add p q ≡ add q p
    pub add_nothing : (p : A) → add p nothing ≡ p
    pub multiply_associative : (p q r : A) → multiply (multiply p q) r ≡ multiply p (multiply q r)
    pub multiply_sum : (p q r : A) → multiply p (add q r) ≡ add (multiply p q) (multiply p r)
    pub sum_multiply : (p q r : A) → multiply (add p q) r ≡ add (multiply p r) (multiply q r)
    pub multiply_nothing : (p : A) → multiply p nothing ≡ nothing
    pub nothing_multiply : (p : A) → multiply nothing p ≡ nothing
