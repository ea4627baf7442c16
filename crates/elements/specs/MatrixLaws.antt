-- The product of square matrices is associative.
use Rattle.std.specs.Prelude.{◌≡◌, ℕ, zero, suc, ◌+◌, ◌*◌, ◌/◌, ◌%◌, ◌<◌, List, length, refl}
use Rattle.std.proofs.Common.{sym, ap, ◌∙◌, arith}
use Rattle.std.proofs.lemmas.List.{same_lists}
use Rattle.std.proofs.lemmas.List.FromFn.{get_or-map-range_with_len, length-map-range_with_len}
use Rattle.std.proofs.lemmas.Nat.{mul-add-lt, div-mul-add, mod-mul-add, div_below, mod_below}
use Rattle.elements.specs.Matrix.{table, sum_below, entry_at, product_entry, matrix_product, IsSemiring}

pub above_zero : (n p : ℕ) → p < n * n → 0 < n
above_zero zero p h = absurd (Prim.omega arith)
above_zero (suc n) p h = Prim.omega arith

module _ {A : Type 0} where
  length-table : (n : ℕ) (f : ℕ → ℕ → A) → length (table n f) ≡ n * n
  length-table n f = length-map-range_with_len (λ p. f (p / n) (p % n)) 0 (n * n)

  table-same : (n : ℕ) (f g : ℕ → ℕ → A) → ((i j : ℕ) → i < n → j < n → f i j ≡ g i j)
      → table n f ≡ table n g
  table-same n f g h = same_lists (table n f) (table n g)
      (length-table n f ∙ sym (length-table n g)) (λ p d within.
      let p_in : p < n * n = Prim.omega (arith, length-table n f) in
      let some : 0 < n = above_zero n p p_in in
      let here : f (p / n) (p % n) ≡ g (p / n) (p % n) = h (p / n) (p % n)
      (div_below p n n some p_in) (mod_below p n some) in
      get_or-map-range_with_len (λ q. f (q / n) (q % n)) 0 (n * n) p p d p_in
      (Prim.omega arith) ∙ here ∙ sym
      (get_or-map-range_with_len (λ q. g (q / n) (q % n)) 0 (n * n) p p d p_in
      (Prim.omega arith)))

module _ {A : Type 0} (add multiply : A → A → A) (nothing : A) where
  abbrev total : (ℕ → A) → ℕ → A
  total f n = sum_below add multiply nothing f n

  abbrev at : ℕ → List A → ℕ → ℕ → A
  at n x i j = entry_at add multiply nothing n x i j

  pub length-matrix_product : (n : ℕ) (x y : List A)
      → length (matrix_product add multiply nothing n x y) ≡ n * n
  length-matrix_product n x y = length-table n (product_entry add multiply nothing n x y)

  entry-table : (n : ℕ) (f : ℕ → ℕ → A) (i j : ℕ) → i < n → j < n → at n (table n f) i j ≡ f i j
  entry-table n f i j in_rows in_columns =
      get_or-map-range_with_len (λ q. f (q / n) (q % n)) 0 (n * n) (i * n + j) (i * n + j) nothing
      (mul-add-lt i n j n in_rows in_columns) (Prim.omega arith)
      ∙ (λ t. f (div-mul-add i n j in_columns t) (mod-mul-add i n j in_columns t))

  pub total-same : (f g : ℕ → A) (n : ℕ) → ((k : ℕ) → k < n → f k ≡ g k) → total f n ≡ total g n
  total-same f g zero h = refl
  total-same f g (suc n) h = λ t. add (total-same f g n (λ k lt. h k (Prim.omega arith)) t)
      (h n (Prim.omega arith) t)

  module _ (s : IsSemiring add multiply nothing) where
    total-nothing : (n : ℕ) → total (λ _. nothing) n ≡ nothing
    total-nothing zero = refl
    total-nothing (suc n) = ap (λ p. add p nothing) (total-nothing n) ∙ s.add_nothing nothing

    crossed : (p q r t : A) → add (add p q) (add r t) ≡ add (add p r) (add q t)
    crossed p q r t =
        s.add_associative p q (add r t)
        ∙ ap (add p) (sym (s.add_associative q r t) ∙ ap (λ w. add w t)
        (s.add_commutative q r) ∙ s.add_associative r q t)
        ∙ sym (s.add_associative p r (add q t))

    total-add : (f g : ℕ → A) (n : ℕ) → total (λ k. add (f k) (g k)) n ≡ add (total f n) (total g n)
    total-add f g zero = sym (s.add_nothing nothing)
    total-add f g (suc n) = ap (λ p. add p (add (f n) (g n))) (total-add f g n) ∙ crossed
        (total f n) (total g n) (f n) (g n)

    total-swap : (f : ℕ → ℕ → A) (n m : ℕ)
        → total (λ k. total (f k) m) n ≡ total (λ l. total (λ k. f k l) n) m
    total-swap f zero m = sym (total-nothing m)
    total-swap f (suc n) m = ap (λ p. add p (total (f n) m)) (total-swap f n m) ∙ sym
        (total-add (λ l. total (λ k. f k l) n) (f n) m)

    total-multiply : (f : ℕ → A) (r : A) (n : ℕ)
        → multiply (total f n) r ≡ total (λ k. multiply (f k) r) n
    total-multiply f r zero = s.nothing_multiply r
    total-multiply f r (suc n) = s.sum_multiply (total f n) (f n) r ∙ ap
        (λ p. add p (multiply (f n) r)) (total-multiply f r n)

    multiply-total : (p : A) (f : ℕ → A) (n : ℕ)
        → multiply p (total f n) ≡ total (λ k. multiply p (f k)) n
    multiply-total p f zero = s.multiply_nothing p
    multiply-total p f (suc n) = s.multiply_sum p (total f n) (f n) ∙ ap
        (λ q. add q (multiply p (f n))) (multiply-total p f n)

    abbrev times : ℕ → List A → List A → List A
    times n x y = matrix_product add multiply nothing n x y

    entries-associative : (n : ℕ) (x y z : List A) (i j : ℕ) → i < n → j < n
        → product_entry add multiply nothing n (times n x y) z i j
        ≡ product_entry add multiply nothing n x (times n y z) i j
    entries-associative n x y z i j in_rows in_columns =
        let left : (k : ℕ) → k < n → multiply (at n (times n x y) i k) (at n z k j)
        ≡ total (λ l. multiply (at n x i l) (multiply (at n y l k) (at n z k j))) n
        = λ k lt.
        ap (λ p. multiply p (at n z k j))
        (entry-table n (product_entry add multiply nothing n x y) i k in_rows lt)
        ∙ total-multiply (λ l. multiply (at n x i l) (at n y l k)) (at n z k j) n
        ∙ total-same (λ l. multiply (multiply (at n x i l) (at n y l k)) (at n z k j))
        (λ l. multiply (at n x i l) (multiply (at n y l k) (at n z k j))) n
        (λ l _. s.multiply_associative (at n x i l) (at n y l k) (at n z k j)) in
        let right : (l : ℕ) → l < n → multiply (at n x i l) (at n (times n y z) l j)
        ≡ total (λ k. multiply (at n x i l) (multiply (at n y l k) (at n z k j))) n
        = λ l lt.
        ap (multiply (at n x i l)) (entry-table n
        (product_entry add multiply nothing n y z) l j lt in_columns)
        ∙ multiply-total (at n x i l) (λ k. multiply (at n y l k) (at n z k j)) n in
        total-same (λ k. multiply (at n (times n x y) i k) (at n z k j))
        (λ k. total (λ l. multiply (at n x i l) (multiply (at n y l k) (at n z k j))) n) n left
        ∙ total-swap (λ k l. multiply (at n x i l) (multiply (at n y l k) (at n z k j))) n n
        ∙ sym (total-same (λ l. multiply (at n x i l) (at n (times n y z) l j))
        (λ l. total (λ k. multiply (at n x i l) (multiply (at n y l k) (at n z k j))) n) n
        right)

    pub matrix_product-associative : (n : ℕ) (x y z : List A)
        → times n (times n x y) z ≡ times n x (times n y z)
    matrix_product-associative n x y z = table-same n
        (product_entry add multiply nothing n (times n x y) z)
        (product_entry add multiply nothing n x (times n y z)) (entries-associative n x y z)
