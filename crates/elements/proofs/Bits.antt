-- The binary digits of a number.
use Rattle.std.proofs.Common.{◌≡◌, ℕ, zero, suc, ◌+◌, ◌-◌, ◌*◌, ◌/◌, ◌%◌, ◌^◌, ◌<◌, ◌≤◌, Bool, true, false, ◌==◌, List, [], ◌∷◌, ◌++◌, length, map, get_or, fold, refl, sym, ap, subst, ◌∙◌, arith, min, append-nil, append_assoc}
use Rattle.std.specs.Prelude.{bit_or, bit_and, IsTrue}
use Rattle.std.specs.Bool.{if◌then◌else◌}
use Rattle.std.specs.Int.{bit_at}
use Rattle.std.specs.List.{between, range_with_len}
use Rattle.std.specs.declared.cmp.Ordering.{Ordering}
use Rattle.std.specs.declared.cmp.Ordering.TheVariants.{Less, Equal, Greater}
use Rattle.std.specs.Ordering.{nat_cmp, bool_cmp, ordering_then, MatchOrdering}
use Rattle.std.specs.Cmp.{nat_cmp_is}
use Rattle.std.specs.Cmp.Lexicographic.{slice_cmp}
use Rattle.std.proofs.lemmas.List.{same_lists}
use Rattle.std.proofs.lemmas.List.Edits.{length-between, get_or-between}
use Rattle.std.proofs.lemmas.Nat.{pow_pos, shr-shr, mod-pow-add, mod_below, mod_low, mul-le, or_shifted, shl_whole, pow-add}
use Rattle.std.proofs.lemmas.Grind.{pow_more}
use Rattle.std.proofs.Math.Nat.{pow-le-pow_right}
use Rattle.std.proofs.lemmas.Nat.Bits.{bit_at_and, bit_at_ones, bit_at-lt, bit_at_cat_low, bit_at_cat_high, same_from_bits_below}
use Rattle.elements.specs.Bits.{bits}
use Rattle.std.proofs.lemmas.Slice.{between_from_start}
use Rattle.std.proofs.Math.Seq.{take-length}
use Rattle.std.specs.Int.{div_ceil}
use Rattle.std.specs.Hash as fed
use Rattle.elements.specs.Hashes.{bits_number, block_number, bits_hash, numbers_hash}

pub same_tests : (a b : Bool) → (IsTrue a → IsTrue b) → (IsTrue b → IsTrue a) → a ≡ b
same_tests true true f g = refl
same_tests true false f g = sym (f refl)
same_tests false true f g = g refl
same_tests false false f g = refl

pub length-bits : (n x : ℕ) → length (bits n x) ≡ n
length-bits zero x = refl
length-bits (suc n) x = ap suc (length-bits n x)

-- what stands at place k, where j places follow
pub bit_in : (n x k j : ℕ) (d : Bool) → k + suc j ≡ n → get_or (bits n x) k d ≡ (bit_at x j == 1)
bit_in zero x k j d e = absurd (omega arith)
bit_in (suc n) x zero j d e = let same : n ≡ j = omega arith in ap (λ m. bit_at x m == 1) same
bit_in (suc n) x (suc k) j d e = bit_in n x k j d (omega arith)

pub same_bits : (n x y : ℕ) → ((j : ℕ) → j < n → bit_at x j ≡ bit_at y j) → bits n x ≡ bits n y
same_bits zero x y h = refl
same_bits (suc n) x y h = λ t. (h n (omega arith) t == 1) ∷ same_bits n x y (λ j lt. h j (omega arith)) t

-- row i of n rows of n digits
pub row_bits : (n x i m row : ℕ) → i + suc m ≡ n → row ≡ bit_and (x / 2 ^ (n * m)) (2 ^ n - 1) → bits n row ≡ between (i * n) (i * n + n) (bits (n * n) x)
row_bits n x i m row e is =
    let whole : n * n ≡ (i + suc m) * n = ap (λ t. t * n) (sym e) in
    let ends : i * n + n ≤ length (bits (n * n) x) = omega (arith, whole, length-bits (n * n) x) in
    let long : length (between (i * n) (i * n + n) (bits (n * n) x)) ≡ n = length-between (bits (n * n) x) (i * n) (i * n + n) ends ∙ omega arith in
    same_lists (bits n row) (between (i * n) (i * n + n) (bits (n * n) x)) (length-bits n row ∙ sym long) (λ k d lt.
    let k_in : k < n = omega (arith, length-bits n row) in
    let j : ℕ = n - (k + 1) in
    let last : k + suc j ≡ n = omega arith in
    let digit : bit_at row j ≡ bit_at x (n * m + j) =
    ap (λ r. bit_at r j) is ∙ bit_at_and (x / 2 ^ (n * m)) (2 ^ n - 1) j ∙ ap (min (bit_at (x / 2 ^ (n * m)) j)) (bit_at_ones n j (omega arith))
    ∙ below_one (bit_at (x / 2 ^ (n * m)) j) (bit_at-lt (x / 2 ^ (n * m)) j) ∙ ap (λ z. z % 2) (shr-shr x (n * m) j) in
    bit_in n row k j d last ∙ ap (λ z. z == 1) digit
    ∙ sym (bit_in (n * n) x (i * n + k) (n * m + j) d (omega (arith, whole)))
    ∙ sym (get_or-between (bits (n * n) x) (i * n) (i * n + n) k d (omega arith)))
  where
    below_one : (a : ℕ) → a < 2 → min a 1 ≡ a
    below_one a h = omega arith

one_of_two : (a b : ℕ) → a < 2 → b < 2 → (a == 1) ≡ (b == 1) → a ≡ b
one_of_two zero zero p q e = refl
one_of_two (suc zero) (suc zero) p q e = refl
one_of_two zero (suc zero) p q e = absurd (cc)
one_of_two (suc zero) zero p q e = absurd (cc)
one_of_two (suc (suc a)) b p q e = absurd (omega arith)
one_of_two zero (suc (suc b)) p q e = absurd (omega arith)
one_of_two (suc zero) (suc (suc b)) p q e = absurd (omega arith)

-- numbers of n digits with the same digits are the same
pub same_from_digits : (n x y : ℕ) → x < 2 ^ n → y < 2 ^ n → bits n x ≡ bits n y → x ≡ y
same_from_digits n x y p q e = same_from_bits_below n x y p q (λ j lt.
    let k : ℕ = n - (j + 1) in
    let last : k + suc j ≡ n = omega arith in
    one_of_two (bit_at x j) (bit_at y j) (bit_at-lt x j) (bit_at-lt y j) (sym (bit_in n x k j false last) ∙ ap (λ l. get_or l k false) e ∙ bit_in n y k j false last))

first_digit : (a b P rx ry X Y : ℕ) (r : Ordering) → a < 2 → b < 2 → X ≡ a * P + rx → Y ≡ b * P + ry → rx < P → ry < P → MatchOrdering r (rx < ry) (rx ≡ ry) (ry < rx) → MatchOrdering (ordering_then (bool_cmp (a == 1) (b == 1)) r) (X < Y) (X ≡ Y) (Y < X)
first_digit zero zero P rx ry X Y Less p q e f u v h = omega arith
first_digit zero zero P rx ry X Y Equal p q e f u v h = omega arith
first_digit zero zero P rx ry X Y Greater p q e f u v h = omega arith
first_digit zero (suc zero) P rx ry X Y r p q e f u v h = omega arith
first_digit (suc zero) zero P rx ry X Y r p q e f u v h = omega arith
first_digit (suc zero) (suc zero) P rx ry X Y Less p q e f u v h = omega arith
first_digit (suc zero) (suc zero) P rx ry X Y Equal p q e f u v h = omega arith
first_digit (suc zero) (suc zero) P rx ry X Y Greater p q e f u v h = omega arith
first_digit (suc (suc a)) b P rx ry X Y r p q e f u v h = absurd (omega arith)
first_digit zero (suc (suc b)) P rx ry X Y r p q e f u v h = absurd (omega arith)
first_digit (suc zero) (suc (suc b)) P rx ry X Y r p q e f u v h = absurd (omega arith)

by_digits : (n x y : ℕ) → MatchOrdering (slice_cmp bool_cmp (bits n x) (bits n y)) (x % 2 ^ n < y % 2 ^ n) (x % 2 ^ n ≡ y % 2 ^ n) (y % 2 ^ n < x % 2 ^ n)
by_digits zero x y = omega arith
by_digits (suc n) x y =
    let one : suc n ≡ 1 + n = omega arith in
    let split : (z : ℕ) → z % 2 ^ suc n ≡ bit_at z n * 2 ^ n + z % 2 ^ n = λ z. ap (λ k. z % 2 ^ k) one ∙ mod-pow-add z 1 n in
    first_digit (bit_at x n) (bit_at y n) (2 ^ n) (x % 2 ^ n) (y % 2 ^ n) (x % 2 ^ suc n) (y % 2 ^ suc n) (slice_cmp bool_cmp (bits n x) (bits n y)) (bit_at-lt x n) (bit_at-lt y n) (split x) (split y) (mod_below x (2 ^ n) (pow_pos n)) (mod_below y (2 ^ n) (pow_pos n)) (by_digits n x y)

pub small : (n x : ℕ) → x < 2 ^ n → x % 2 ^ n ≡ x
small n x h =
    let none : x ≡ 0 * 2 ^ n + x = omega arith in
    ap (λ z. z % 2 ^ n) none ∙ mod_low 0 n x h

-- numbers of n digits lie as their digits do
pub cmp_digits : (n x y : ℕ) → x < 2 ^ n → y < 2 ^ n → slice_cmp bool_cmp (bits n x) (bits n y) ≡ nat_cmp x y
cmp_digits n x y p q = nat_cmp_is x y (slice_cmp bool_cmp (bits n x) (bits n y)) (turned (slice_cmp bool_cmp (bits n x) (bits n y)) (by_digits n x y))
  where
    turned : (r : Ordering) → MatchOrdering r (x % 2 ^ n < y % 2 ^ n) (x % 2 ^ n ≡ y % 2 ^ n) (y % 2 ^ n < x % 2 ^ n) → MatchOrdering r (x < y) (x ≡ y) (y < x)
    turned Less h = omega (arith, small n x p, small n y q)
    turned Equal h = omega (arith, small n x p, small n y q)
    turned Greater h = omega (arith, small n x p, small n y q)

-- the digits of a number that a list of bits makes are those bits
pub record IsMade (bs : List Bool) (a : ℕ) : Type 0 where
  pub number : ℕ
  pub below : number < 2 ^ length bs
  pub made : fold (λ n b. bit_or (n * 2 % 2 ^ 64) (if b then 1 else 0)) a bs ≡ a * 2 ^ length bs + number
  pub same : bits (length bs) number ≡ bs

abbrev bit_number : Bool → ℕ
bit_number b = if b then 1 else 0

bit_number-lt : (b : Bool) → bit_number b < 2
bit_number-lt true = omega arith
bit_number-lt false = omega arith

bit_number-is : (b : Bool) → (bit_at (bit_number b) 0 == 1) ≡ b
bit_number-is true = refl
bit_number-is false = refl

made_of_bits : (bs : List Bool) (a : ℕ) → (a + 1) * 2 ^ length bs ≤ 2 ^ 64 → IsMade bs a
made_of_bits [] a h = record {
  number = 0;
  below = omega arith;
  made = omega arith;
  same = refl;
}
made_of_bits (b ∷ bs) a h =
    let n : ℕ = length bs in
    let top : ℕ = bit_number b in
    let one : suc n ≡ n + 1 = omega arith in
    let double : 2 ^ suc n ≡ 2 * 2 ^ n = ap (λ k. 2 ^ k) one ∙ pow_more 2 n ∙ omega arith in
    let top_below : top < 2 = bit_number-lt b in
    let power : 0 < 2 ^ n = pow_pos n in
    let wide : (a + 1) * (2 * 2 ^ n) ≡ (2 * a + 2) * 2 ^ n = omega arith in
    let bound : (a + 1) * (2 * 2 ^ n) ≤ 2 ^ 64 = subst (λ z. (a + 1) * z ≤ 2 ^ 64) double h in
    let room : a * 2 < 2 ^ 64 = fits_in a (2 ^ n) power (omega (arith, bound, wide)) in
    let next : bit_or (a * 2 % 2 ^ 64) top ≡ a * 2 + top = ap (λ z. bit_or z top) (small 64 (a * 2) room) ∙ or_shifted a 1 top top_below in
    let larger : (a * 2 + top + 1) * 2 ^ n ≤ (2 * a + 2) * 2 ^ n = mul-le (a * 2 + top + 1) (2 ^ n) (2 * a + 2) (2 ^ n) (omega arith) (omega arith) in
    let rest : IsMade bs (a * 2 + top) = made_of_bits bs (a * 2 + top) (omega (arith, bound, larger, wide)) in
    let low : ℕ = rest.number in
    let whole : ℕ = top * 2 ^ n + low in
    let most : top * 2 ^ n ≤ 1 * 2 ^ n = mul-le top (2 ^ n) 1 (2 ^ n) (omega arith) (omega arith) in
    let below : whole < 2 ^ suc n = omega (arith, double, rest.below, most) in
    let none : n - n ≡ 0 = omega arith in
    let highest : (bit_at whole n == 1) ≡ b = ap (λ z. z == 1) (bit_at_cat_high top n low n rest.below (omega arith) ∙ ap (bit_at top) none) ∙ bit_number-is b in
    let others : bits n whole ≡ bs = same_bits n whole low (λ j lt. bit_at_cat_low top n low j lt) ∙ rest.same in
    record {
      number = whole;
      below = below;
      made = ap (λ z. fold (λ n b. bit_or (n * 2 % 2 ^ 64) (if b then 1 else 0)) z bs) next ∙ rest.made ∙ total a top (2 ^ n) low ∙ ap (λ z. a * z + whole) (sym double);
      same = λ t. highest t ∷ others t;
    }
  where
    total : (a top P low : ℕ) → (a * 2 + top) * P + low ≡ a * (2 * P) + (top * P + low)
    total a top P low = omega arith

    fits_in : (a P : ℕ) → 0 < P → (2 * a + 2) * P ≤ 2 ^ 64 → a * 2 < 2 ^ 64
    fits_in a (suc P) p h = omega (arith, h)
    fits_in a zero p h = absurd (omega arith)

-- the number of up to 64 bits has them as its digits
pub bits_of_number : (bs : List Bool) → length bs ≤ 64 → (bits (length bs) (bits_number bs) ≡ bs) × (bits_number bs < 2 ^ length bs)
bits_of_number bs h =
    let room : 2 ^ length bs ≤ 2 ^ 64 = pow-le-pow_right (omega arith) h in
    let made : IsMade bs 0 = made_of_bits bs 0 (omega (arith, room)) in
    let is : bits_number bs ≡ made.number = made.made ∙ omega arith in
    (ap (bits (length bs)) is ∙ made.same, omega (arith, is, made.below))

-- and so the number of the digits of a number is that number
pub number_of_bits : (n x : ℕ) → n ≤ 64 → x < 2 ^ n → bits_number (bits n x) ≡ x
number_of_bits n x h below =
    let long = length-bits n x in
    let back = bits_of_number (bits n x) (omega (arith, long)) in
    let lower : bits_number (bits n x) < 2 ^ n = subst (λ k. bits_number (bits n x) < 2 ^ k) long back.1 in
    same_from_digits n (bits_number (bits n x)) x lower below (ap (λ k. bits k (bits_number (bits n x))) (sym long) ∙ back.0)

-- what a hasher is fed for a packed matrix that has a row
pub packed_hash : (k x : ℕ) → 0 < k → k ≤ 64 → x < 2 ^ k → bits_hash (bits k x) ≡ fed.u64 x
packed_hash k x some few below =
    let long = length-bits k x in
    let blocks : div_ceil (length (bits k x)) 64 ≡ 1 = omega (arith, long) in
    let end : min (64 * 0 + 64) (length (bits k x)) ≡ length (bits k x) = omega (arith, long) in
    let start : 64 * 0 ≡ 0 = omega arith in
    let all : between (64 * 0) (min (64 * 0 + 64) (length (bits k x))) (bits k x) ≡ bits k x = (λ t. between (start t) (end t) (bits k x)) ∙ between_all (bits k x) in
    ap (λ n. numbers_hash (map (λ k'. block_number (bits k x) (64 * k')) (range_with_len 0 n))) blocks ∙ ap (λ n. numbers_hash (n ∷ [])) (ap bits_number all ∙ number_of_bits k x few below) ∙ append-nil (fed.u64 x)
  where
    between_all : (xs : List Bool) → between 0 (length xs) xs ≡ xs
    between_all xs = between_from_start xs (length xs) ∙ take-length xs

-- a number with n digits more
pub shifted_in : (n k x y : ℕ) → k + n ≤ 64 → x < 2 ^ k → y < 2 ^ n → bit_or (x * 2 ^ n % 2 ^ 64) y ≡ x * 2 ^ n + y
shifted_in n k x y fits p q = ap (λ z. bit_or z y) (shl_whole x k n 64 p fits) ∙ or_shifted x n y q

pub shifted_below : (n k m x y : ℕ) → m ≡ k + n → k + n ≤ 64 → x < 2 ^ k → y < 2 ^ n → bit_or (x * 2 ^ n % 2 ^ 64) y < 2 ^ m
shifted_below n k m x y e fits p q =
    let power : 0 < 2 ^ n = pow_pos n in
    let most : (x + 1) * 2 ^ n ≤ 2 ^ k * 2 ^ n = mul-le (x + 1) (2 ^ n) (2 ^ k) (2 ^ n) (omega arith) (omega arith) in
    let whole : 2 ^ m ≡ 2 ^ k * 2 ^ n = ap (λ z. 2 ^ z) e ∙ pow-add 2 k n in
    omega (arith, shifted_in n k x y fits p q, most, whole, q)

-- digits so far, and one more
pub unpack_more : (count x i m : ℕ) (bit : Bool) (done items : List Bool) → suc m ≡ count - i → bit ≡ (bit_at x m == 1) → items ≡ done ++ bit ∷ [] → done ++ bits (count - i) x ≡ bits count x → items ++ bits (count - (i + 1)) x ≡ bits count x
unpack_more count x i m bit done items e is pushed so_far =
    let rest : count - (i + 1) ≡ m = omega arith in
    (λ t. pushed t ++ bits (rest t) x) ∙ append_assoc done (bit ∷ []) (bits m x) ∙ ap (λ b. done ++ b ∷ bits m x) is ∙ ap (λ k. done ++ bits k x) e ∙ so_far
