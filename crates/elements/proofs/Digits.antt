-- The digits of a number in base 16.
use Rattle.std.proofs.Common.{◌≡◌, ℕ, zero, suc, ◌+◌, ◌-◌, ◌*◌, ◌/◌, ◌%◌, ◌^◌, ◌<◌, ◌≤◌, true, ◌==◌, List, [], ◌∷◌, ◌++◌, length, map, take, get_or, refl, sym, ap, subst, ◌∙◌, rules, arith}
use Rattle.std.specs.Prelude.{bit_or, All}
use Rattle.std.specs.Int.Digits.{number_from_digits_after, number_from_digits}
use Rattle.std.specs.Cmp.{unsigned_Decides}
use Rattle.std.specs.Cmp.Lexicographic.{pointwise, pointwise_decides}
use Rattle.std.proofs.lemmas.Nat.{shr-shr, shr_high, mod-pow-add, or_shifted, shl_whole, pow-add}
use Rattle.std.specs.Bool.{if◌then◌else◌, nat_le}
use Rattle.std.specs.Hash as fed
use Rattle.std.proofs.Math.Seq.{take-length}
use Rattle.std.proofs.lemmas.List.{take_more, map-append}
use Rattle.elements.specs.Hashes.{images_hash, octets_hash}
use Rattle.elements.specs.Digits.{digit_at, digits}
use Rattle.elements.specs.Transf.{image, composed, AreImages}
use Rattle.elements.proofs.Bits.{small, same_tests}

pub length-digits : (n x : ℕ) → length (digits n x) ≡ n
length-digits zero x = refl
length-digits (suc n) x = ap suc (length-digits n x)

-- what stands at place k, where j places follow
pub digit_in : (n x k j d : ℕ) → k + suc j ≡ n → get_or (digits n x) k d ≡ digit_at x j
digit_in zero x k j d e = absurd (omega arith)
digit_in (suc n) x zero j d e = let same : n ≡ j = omega arith in ap (digit_at x) same
digit_in (suc n) x (suc k) j d e = digit_in n x k j d (omega arith)

-- one digit more
pub digits_push : (n x d : ℕ) → d < 16 → digits (suc n) (x * 16 + d) ≡ digits n x ++ d ∷ []
digits_push zero x d h =
    let first : 2 ^ (4 * 0) ≡ 1 = refl in
    let last : (x * 16 + d) / 1 % 16 ≡ d = omega arith in
    ap (λ z. z ∷ []) (ap (λ p. (x * 16 + d) / p % 16) first ∙ last)
digits_push (suc n) x d h =
    let wide : 4 * suc n ≡ 4 + 4 * n = omega arith in
    let back : (x * 16 + d) / 2 ^ 4 ≡ x = shr_high x 4 d h in
    let top : digit_at (x * 16 + d) (suc n) ≡ digit_at x n = ap (λ k. (x * 16 + d) / 2 ^ k % 16) wide ∙ ap (λ z. z % 16) (sym (shr-shr (x * 16 + d) 4 (4 * n))) ∙ ap (λ z. z / 2 ^ (4 * n) % 16) back in
    λ t. top t ∷ digits_push n x d h t

-- the number with one digit more, as it is computed
pub pushed : (n x d next m : ℕ) → m ≡ n + 1 → m ≤ 16 → d < 16 → x < 2 ^ (4 * n) → next ≡ bit_or (x * 2 ^ 4 % 2 ^ 64) d → (digits m next ≡ digits n x ++ d ∷ []) × (next < 2 ^ (4 * m))
pushed n x d next m e few h below is =
    let one : m ≡ suc n = omega arith in
    let whole : next ≡ x * 2 ^ 4 + d = is ∙ ap (λ z. bit_or z d) (shl_whole x (4 * n) 4 64 below (omega arith)) ∙ or_shifted x 4 d h in
    let wide : 4 * m ≡ 4 * n + 4 = omega arith in
    let power : 2 ^ (4 * m) ≡ 2 ^ (4 * n) * 2 ^ 4 = ap (λ z. 2 ^ z) wide ∙ pow-add 2 (4 * n) 4 in
    ((λ t. digits (one t) (whole t)) ∙ digits_push n x d h, omega (arith, whole, power, below))

-- the number of the digits of a number is that number
number_after : (n x a : ℕ) → number_from_digits_after 16 a (digits n x) ≡ a * 2 ^ (4 * n) + x % 2 ^ (4 * n)
number_after zero x a = omega arith
number_after (suc n) x a =
    let wide : 4 * suc n ≡ 4 + 4 * n = omega arith in
    let power : 2 ^ (4 * suc n) ≡ 16 * 2 ^ (4 * n) = ap (λ k. 2 ^ k) wide ∙ pow-add 2 4 (4 * n) in
    let split : x % 2 ^ (4 * suc n) ≡ digit_at x n * 2 ^ (4 * n) + x % 2 ^ (4 * n) = ap (λ k. x % 2 ^ k) wide ∙ mod-pow-add x 4 (4 * n) in
    number_after n x (a * 16 + digit_at x n) ∙ sym ((λ t. a * power t + split t) ∙ total a (digit_at x n) (2 ^ (4 * n)) (x % 2 ^ (4 * n)))
  where
    total : (a d P r : ℕ) → a * (16 * P) + (d * P + r) ≡ (a * 16 + d) * P + r
    total a d P r = omega arith

pub number_of_digits : (n x : ℕ) → x < 2 ^ (4 * n) → number_from_digits 16 (digits n x) ≡ x
number_of_digits n x h = number_after n x 0 ∙ omega (arith, small (4 * n) x h)

-- numbers of n digits with the same digits are the same
pub same_from_digits : (n x y : ℕ) → x < 2 ^ (4 * n) → y < 2 ^ (4 * n) → digits n x ≡ digits n y → x ≡ y
same_from_digits n x y p q e = sym (number_of_digits n x p) ∙ ap (number_from_digits 16) e ∙ number_of_digits n y q

pub digits_equal : (n m x y : ℕ) → n ≡ m → x < 2 ^ (4 * n) → y < 2 ^ (4 * m) → (x == y) ≡ pointwise ◌==◌ (digits n x) (digits m y)
digits_equal n m x y e p q =
    same_tests (x == y) (pointwise ◌==◌ (digits n x) (digits n y))
    (λ h. (pointwise_decides unsigned_Decides (digits n x) (digits n y)).1 (ap (digits n) ((unsigned_Decides x y).0 h)))
    (λ h. (unsigned_Decides x y).1 (same_from_digits n x y p (subst (λ k. y < 2 ^ (4 * k)) (sym e) q) ((pointwise_decides unsigned_Decides (digits n x) (digits n y)).0 h)))
    ∙ ap (λ k. pointwise ◌==◌ (digits n x) (digits k y)) e

-- up to sixteen images in the list, one of them after the others
pub pack_more : (images : List ℕ) (x i next : ℕ) → length images ≤ 16 → All (λ y. y < 16) images → i < length images → next ≡ bit_or (x * 2 ^ 4 % 2 ^ 64) (get_or images i 0) → digits i x ≡ take i images → x < 2 ^ (4 * i) → (digits (i + 1) next ≡ take (i + 1) images) × (next < 2 ^ (4 * (i + 1)))
pack_more images x i next few small_ones within is so_far below =
    let step = pushed i x (get_or images i 0) next (i + 1) refl (omega arith) (small_ones i 0 within) below is in
    (step.0 ∙ ap (λ l. l ++ get_or images i 0 ∷ []) so_far ∙ sym (take_more images i 0 within), step.1)

-- an image of a packed list
pub image_in : (n x k j : ℕ) → k + suc j ≡ n → image (digits n x) k ≡ digit_at x j
image_in n x k j e = digit_in n x k j k e

-- the images of a product so far, and one more
pub product_more : (n x y i product next k d : ℕ) → n ≤ 16 → i < n → AreImages (digits n x) → k ≡ digit_at x (n - 1 - i) → d ≡ digit_at y (n - 1 - k) → d < 16 → next ≡ bit_or (product * 2 ^ 4 % 2 ^ 64) d → digits i product ≡ map (image (digits n y)) (take i (digits n x)) → product < 2 ^ (4 * i) → (digits (i + 1) next ≡ map (image (digits n y)) (take (i + 1) (digits n x))) × (next < 2 ^ (4 * (i + 1)))
product_more n x y i product next k d few within images k_is d_is d_small is so_far below =
    let step = pushed i product d next (i + 1) refl (omega arith) d_small below is in
    let long = length-digits n x in
    let here : get_or (digits n x) i 0 ≡ k = digit_in n x i (n - 1 - i) 0 (omega arith) ∙ sym k_is in
    let inside : k < n = omega (arith, images i 0 (omega (arith, long)), here, long) in
    let moved : image (digits n y) k ≡ d = image_in n y k (n - 1 - k) (omega arith) ∙ sym d_is in
    let more : take (i + 1) (digits n x) ≡ take i (digits n x) ++ k ∷ [] = take_more (digits n x) i 0 (omega (arith, long)) ∙ ap (λ z. take i (digits n x) ++ z ∷ []) here in
    (step.0 ∙ (λ t. so_far t ++ sym moved t ∷ []) ∙ sym (map-append (image (digits n y)) (take i (digits n x)) (k ∷ [])) ∙ ap (map (image (digits n y))) (sym more), step.1)

pub product_all : (n x y i product : ℕ) → i ≡ n → digits i product ≡ map (image (digits n y)) (take i (digits n x)) → digits n product ≡ composed (digits n x) (digits n y)
product_all n x y i product e all =
    ap (λ k. digits k product) (sym e) ∙ all ∙ ap (λ k. map (image (digits n y)) (take k (digits n x))) (e ∙ sym (length-digits n x)) ∙ ap (map (image (digits n y))) (take-length (digits n x))

-- each image of a packed transformation is below its degree
pub image_below : (n x i : ℕ) → i < n → AreImages (digits n x) → digit_at x (n - 1 - i) < n
image_below n x i within images =
    let long = length-digits n x in
    let here : get_or (digits n x) i 0 ≡ digit_at x (n - 1 - i) = digit_in n x i (n - 1 - i) 0 (omega arith) in
    omega (arith, images i 0 (omega (arith, long)), here, long)

-- what a hasher is fed for a packed transformation
pub packed_images_hash : (n x : ℕ) → n ≤ 16 → x < 2 ^ (4 * n) → images_hash (digits n x) ≡ fed.u64 x
packed_images_hash n x few below =
    let within : length (digits n x) ≤ 16 = omega (arith, length-digits n x) in
    let test : nat_le (length (digits n x)) 16 ≡ true = search rules in
    ap (λ b. if b then fed.u64 (number_from_digits 16 (digits n x)) else octets_hash (digits n x)) test ∙ ap fed.u64 (number_of_digits n x below)
