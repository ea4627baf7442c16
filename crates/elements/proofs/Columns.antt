-- The product of packed Boolean matrices: columns of the left one times rows of the right one.
use Rattle.std.proofs.Common.{◌≡◌, ℕ, zero, suc, ◌+◌, ◌-◌, ◌*◌, ◌/◌, ◌%◌, ◌^◌, ◌<◌, ◌≤◌, Bool, false, ◌&&◌, ◌||◌, ◌==◌, get_or, refl, sym, ap, subst, ◌∙◌, arith, max, min}
use Rattle.std.specs.Prelude.{bit_or, bit_and}
use Rattle.std.specs.Int.{bit_at}
use Rattle.std.specs.Int.Bits.{and_zero_r}
use Rattle.std.specs.List.{between}
use Rattle.std.proofs.Math.Nat.{div-add-mod, pow-le-pow_right}
use Rattle.std.proofs.lemmas.List.Edits.{get_or-between}
use Rattle.std.proofs.lemmas.List.FromFn.{fill_by_all}
use Rattle.std.proofs.lemmas.Nat.{and_block, and_mask, mod_below, div_below, pow_pos, pow-add, mul-le, row_fits, shr-shr}
use Rattle.std.proofs.lemmas.Nat.Bits.{bit_at_or, bit_at-lt, bit_at-zero, bit_at_lowest, bit_at_cat_low, bit_at_cat_high}
use Rattle.elements.specs.Bits.{bits, column_of_ones}
use Rattle.elements.specs.MatrixLaws.{above_zero}
use Rattle.elements.specs.Matrix.{sum_below, product_entry, matrix_product}
use Rattle.elements.proofs.Bits.{length-bits, bit_in, shifted_in, shifted_below}
use Rattle.elements.proofs.ProductRows.{sum_more}

-- a column times a row of n digits, as far as some rows: each row of the product is the row where
-- the column has a one
record IsTimes (n rows left row product : ℕ) : Type 0 where
  pub below : product < 2 ^ (n * rows)
  pub digits : (m q : ℕ) → m < rows → q < n → bit_at product (n * m + q) ≡ min (bit_at left (n * m)) (bit_at row q)

at_most_once : (b x : ℕ) (q : ℕ) → b < 2 → bit_at (b * x) q ≡ min b (bit_at x q)
at_most_once zero x q h =
    let none : zero * x ≡ 0 = omega arith in
    let least : min 0 (bit_at x q) ≡ 0 = omega arith in
    ap (λ z. bit_at z q) none ∙ bit_at-zero q ∙ sym least
at_most_once (suc zero) x q h =
    let itself : suc zero * x ≡ x = omega arith in
    let few = bit_at-lt x q in
    ap (λ z. bit_at z q) itself ∙ omega (arith, few)
at_most_once (suc (suc b)) x q h = absurd (omega arith)

shorter : (b x P : ℕ) → b < 2 → x < P → b * x < P
shorter zero x P h p = omega arith
shorter (suc zero) x P h p = omega arith
shorter (suc (suc b)) x P h p = absurd (omega arith)

-- one row more of the product, below those of the left side's other rows
digits_more : (n rows left row above : ℕ) → bit_at left 0 * row < 2 ^ n → ((m q : ℕ) → m < rows → q < n → bit_at above (n * m + q) ≡ min (bit_at (left / 2 ^ n) (n * m)) (bit_at row q)) → (m q : ℕ) → m < suc rows → q < n → bit_at (above * 2 ^ n + bit_at left 0 * row) (n * m + q) ≡ min (bit_at left (n * m)) (bit_at row q)
digits_more n rows left row above below so_far zero q lt q_in =
    let place : n * 0 + q ≡ q = omega arith in
    let none : n * 0 ≡ 0 = omega arith in
    ap (bit_at (above * 2 ^ n + bit_at left 0 * row)) place ∙ bit_at_cat_low above n (bit_at left 0 * row) q q_in
    ∙ at_most_once (bit_at left 0) row q (bit_at-lt left 0) ∙ ap (λ k. min (bit_at left k) (bit_at row q)) (sym none)
digits_more n rows left row above below so_far (suc m) q lt q_in =
    let back : (n * suc m + q) - n ≡ n * m + q = omega arith in
    let place : n + n * m ≡ n * suc m = omega arith in
    bit_at_cat_high above n (bit_at left 0 * row) (n * suc m + q) below (omega arith) ∙ ap (bit_at above) back ∙ so_far m q (omega arith) q_in
    ∙ ap (λ z. min z (bit_at row q)) (ap (λ z. z % 2) (shr-shr left n (n * m)) ∙ ap (bit_at left) place)

column_times : (n rows left row : ℕ) → 0 < n → row < 2 ^ n → IsTimes n rows left row (bit_and left (column_of_ones n rows) * row)
column_times n zero left row some small =
    let none : n * 0 ≡ 0 = omega arith in
    let one : 2 ^ (n * 0) ≡ 1 = ap (λ k. 2 ^ k) none in
    let absent : bit_and left 0 ≡ 0 = and_zero_r left in
    let nothing : bit_and left 0 * row ≡ 0 * row = ap (λ z. z * row) absent in
    record { below = omega (arith, one, nothing); digits = λ m q lt _. absurd (omega arith) }
column_times n (suc rows) left row some small =
    let high : ℕ = left / 2 ^ n in
    let low : ℕ = left % 2 ^ n in
    let ones : ℕ = column_of_ones n rows in
    let power : 0 < 2 ^ n = pow_pos n in
    let low_below : low < 2 ^ n = mod_below left (2 ^ n) power in
    let two : 2 ^ 1 ≤ 2 ^ n = pow-le-pow_right (omega arith) some in
    let whole : left ≡ high * 2 ^ n + low = omega (arith, div-add-mod left (2 ^ n)) in
    let bit : low % 2 ≡ bit_at left 0 = sym (bit_at_lowest low) ∙ sym (bit_at_cat_low high n low 0 some) ∙ ap (λ z. bit_at z 0) (sym whole) in
    let last : bit_and low 1 ≡ bit_at left 0 = and_mask low 1 ∙ bit in
    let column : bit_and left (ones * 2 ^ n + 1) ≡ bit_and high ones * 2 ^ n + bit_at left 0 =
    ap (λ z. bit_and z (ones * 2 ^ n + 1)) whole ∙ and_block n high ones low 1 low_below two ∙ ap (λ z. bit_and high ones * 2 ^ n + z) last in
    let rest : IsTimes n rows high row (bit_and high ones * row) = column_times n rows high row some small in
    let above : ℕ = bit_and high ones * row in
    let first : ℕ = bit_at left 0 * row in
    let product : bit_and left (ones * 2 ^ n + 1) * row ≡ above * 2 ^ n + first = ap (λ z. z * row) column ∙ spread (bit_and high ones) (2 ^ n) (bit_at left 0) row in
    let first_below : first < 2 ^ n = shorter (bit_at left 0) row (2 ^ n) (bit_at-lt left 0) small in
    let wide : 2 ^ (n * suc rows) ≡ 2 ^ (n * rows) * 2 ^ n = ap (λ k. 2 ^ k) (omega arith) ∙ pow-add 2 (n * rows) n in
    let most : (above + 1) * 2 ^ n ≤ 2 ^ (n * rows) * 2 ^ n = mul-le (above + 1) (2 ^ n) (2 ^ (n * rows)) (2 ^ n) (omega (arith, rest.below)) (omega arith) in
    record {
      below = omega (arith, product, wide, most, first_below);
      digits = λ m q lt q_in. ap (λ z. bit_at z (n * m + q)) product ∙ digits_more n rows left row above first_below rest.digits m q lt q_in;
    }
  where
    spread : (h P b row : ℕ) → (h * P + b) * row ≡ h * row * P + b * row
    spread h P b row = omega arith

or_of_and : (a b c : ℕ) → a < 2 → b < 2 → c < 2 → (max a (min b c) == 1) ≡ ((a == 1) || ((b == 1) && (c == 1)))
or_of_and zero zero zero p q r = refl
or_of_and zero zero (suc zero) p q r = refl
or_of_and zero (suc zero) zero p q r = refl
or_of_and zero (suc zero) (suc zero) p q r = refl
or_of_and (suc zero) zero zero p q r = refl
or_of_and (suc zero) zero (suc zero) p q r = refl
or_of_and (suc zero) (suc zero) zero p q r = refl
or_of_and (suc zero) (suc zero) (suc zero) p q r = refl
or_of_and (suc (suc a)) b c p q r = absurd (omega arith)
or_of_and zero (suc (suc b)) c p q r = absurd (omega arith)
or_of_and (suc zero) (suc (suc b)) c p q r = absurd (omega arith)
or_of_and zero zero (suc (suc c)) p q r = absurd (omega arith)
or_of_and zero (suc zero) (suc (suc c)) p q r = absurd (omega arith)
or_of_and (suc zero) zero (suc (suc c)) p q r = absurd (omega arith)
or_of_and (suc zero) (suc zero) (suc (suc c)) p q r = absurd (omega arith)

module _ (n left right : ℕ) where
  -- what place k adds to the entry in row i and column j
  abbrev term : ℕ → ℕ → ℕ → Bool
  term i j k = get_or (bits (n * n) left) (i * n + k) false && get_or (bits (n * n) right) (k * n + j) false

  -- each entry of the product, as far as place k
  abbrev pub AreSums : ℕ → ℕ → Type 0
  AreSums k product = (i j m q : ℕ) → i + suc m ≡ n → j + suc q ≡ n → (bit_at product (n * m + q) == 1) ≡ sum_below ◌||◌ ◌&&◌ false (term i j) k

  -- a column of the left matrix times a row of the right one
  abbrev pub column_by_row : ℕ → ℕ → ℕ
  column_by_row k row = bit_and (left / 2 ^ (n - 1 - k)) (column_of_ones n n) * row

  pub column_below : (k row : ℕ) → k < n → row < 2 ^ n → column_by_row k row < 2 ^ (n * n)
  column_below k row within small = (column_times n n (left / 2 ^ (n - 1 - k)) row (omega arith) small).below

  pub column_fits : (k row ones : ℕ) → n ≤ 8 → ones ≡ column_of_ones n n → k < n → row < 2 ^ n → bit_and (left / 2 ^ (n - 1 - k)) ones * row < 2 ^ 64
  column_fits k row ones few is within small =
      let square : n * n ≤ 8 * 8 = mul-le n n 8 8 few few in
      let room : 2 ^ (n * n) ≤ 2 ^ 64 = pow-le-pow_right (omega arith) square in
      let same : bit_and (left / 2 ^ (n - 1 - k)) ones * row ≡ column_by_row k row = ap (λ z. bit_and (left / 2 ^ (n - 1 - k)) z * row) is in
      omega (arith, room, same, column_below k row within small)

  pub sums_more : (k product row next : ℕ) → k < n → row < 2 ^ n → bits n row ≡ between (k * n) (k * n + n) (bits (n * n) right) → next ≡ bit_or product (column_by_row k row) → AreSums k product → AreSums (k + 1) next
  sums_more k product row next within small row_is made so_far = λ i j m q e f.
      let shift : ℕ = n - 1 - k in
      let rows : n * n ≡ (i + suc m) * n = ap (λ t. t * n) (sym e) in
      let p : ℕ = n * m + q in
      let times = column_times n n (left / 2 ^ shift) row (omega arith) small in
      let first : (bit_at (left / 2 ^ shift) (n * m) == 1) ≡ get_or (bits (n * n) left) (i * n + k) false =
      ap (λ z. z % 2 == 1) (shr-shr left shift (n * m)) ∙ sym (bit_in (n * n) left (i * n + k) (shift + n * m) false (omega (arith, rows))) in
      let second : (bit_at row q == 1) ≡ get_or (bits (n * n) right) (k * n + j) false =
      sym (bit_in n row j q false f) ∙ ap (λ l. get_or l j false) row_is ∙ get_or-between (bits (n * n) right) (k * n) (k * n + n) j false (omega arith) in
      let added : (bit_at next p == 1) ≡ ((bit_at product p == 1) || ((bit_at (left / 2 ^ shift) (n * m) == 1) && (bit_at row q == 1))) =
      ap (λ z. bit_at z p == 1) made ∙ ap (λ z. z == 1) (bit_at_or product (column_by_row k row) p ∙ ap (max (bit_at product p)) (times.digits m q (omega arith) (omega arith)))
      ∙ or_of_and (bit_at product p) (bit_at (left / 2 ^ shift) (n * m)) (bit_at row q) (bit_at-lt product p) (bit_at-lt (left / 2 ^ shift) (n * m)) (bit_at-lt row q) in
      sum_more ◌||◌ ◌&&◌ false (term i j) k (bit_at product p == 1) (bit_at next p == 1) ((bit_at (left / 2 ^ shift) (n * m) == 1) && (bit_at row q == 1)) added (so_far i j m q e f) (λ t. first t && second t)

  pub sums_all : (product : ℕ) → AreSums n product → bits (n * n) product ≡ matrix_product ◌||◌ ◌&&◌ false n (bits (n * n) left) (bits (n * n) right)
  sums_all product all = fill_by_all (λ p. product_entry ◌||◌ ◌&&◌ false n (bits (n * n) left) (bits (n * n) right) (p / n) (p % n)) (bits (n * n) product) (n * n) false (length-bits (n * n) product) (λ p lt.
      let some : 0 < n = above_zero n p lt in
      let i : ℕ = p / n in
      let j : ℕ = p % n in
      let i_in : i < n = div_below p n n some lt in
      let j_in : j < n = mod_below p n some in
      let m : ℕ = n - (i + 1) in
      let q : ℕ = n - (j + 1) in
      let row : i + suc m ≡ n = omega arith in
      let column : j + suc q ≡ n = omega arith in
      let rows : n * n ≡ (i + suc m) * n = ap (λ t. t * n) (sym row) in
      bit_in (n * n) product p (n * m + q) false (omega (arith, rows, div-add-mod p n)) ∙ all i j m q row column)

-- one row more of the column of ones
pub ones_more : (n i ones next : ℕ) → i < n → n ≤ 8 → ones ≡ column_of_ones n i → ones < 2 ^ (i * n) → next ≡ bit_or (ones * 2 ^ n % 2 ^ 64) 1 → (next ≡ column_of_ones n (i + 1)) × (next < 2 ^ ((i + 1) * n))
ones_more n i ones next within few so_far below made =
    let square : n * n ≤ 8 * 8 = mul-le n n 8 8 few few in
    let fits : i * n + n ≤ 64 = omega (arith, square, row_fits i n n n within (omega arith)) in
    let some : 1 ≤ n = omega arith in
    let two : 2 ^ 1 ≤ 2 ^ n = pow-le-pow_right (omega arith) some in
    let one : suc i ≡ i + 1 = omega arith in (
      made ∙ shifted_in n (i * n) ones 1 fits below two ∙ ap (λ z. z * 2 ^ n + 1) so_far ∙ ap (column_of_ones n) one,
      subst (λ z. z < 2 ^ ((i + 1) * n)) (sym made) (shifted_below n (i * n) ((i + 1) * n) ones 1 (omega arith) fits below two),
    )
