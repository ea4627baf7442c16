-- Digits that stand for images: 0 for none, and else the image plus one.
use Rattle.std.proofs.Common.{◌≡◌, ℕ, zero, suc, ◌+◌, ◌-◌, ◌*◌, ◌%◌, ◌^◌, ◌<◌, ◌≤◌, true, ◌==◌, List, [], ◌∷◌, ◌++◌, length, map, take, get_or, refl, sym, ap, subst, ◌∙◌, rules, arith}
use Rattle.std.specs.Prelude.{bit_or, All, Option, None, Some}
use Rattle.std.specs.Bool.{if◌then◌else◌, nat_le}
use Rattle.std.specs.Hash as fed
use Rattle.std.specs.Option.{option_eq}
use Rattle.std.specs.Int.Digits.{number_from_digits}
use Rattle.std.specs.Cmp.{unsigned_Decides}
use Rattle.std.specs.Cmp.Lexicographic.{pointwise}
use Rattle.std.proofs.Math.Seq.{take-length}
use Rattle.std.proofs.lemmas.List.{take_more, map-append, length-map, get_or-map}
use Rattle.elements.specs.Fields.{IsBelow}
use Rattle.elements.specs.Hashes.{entry_number, partial_hash, entries_hash}
use Rattle.elements.specs.Digits.{digit_at, digits, optional, optional_digits}
use Rattle.elements.specs.PPerm.{partial_image, partially_composed}
use Rattle.elements.specs.PPermLaws.{options_Decides}
use Rattle.elements.proofs.Bits.{same_tests}
use Rattle.elements.proofs.Digits.{length-digits, digit_in, pushed, same_from_digits, number_of_digits}

optional_number : (o : Option ℕ) → optional (entry_number o) ≡ o
optional_number None = refl
optional_number (Some y) = let one : y + 1 ≡ suc y = omega arith in ap optional one

number_optional : (d : ℕ) → entry_number (optional d) ≡ d
number_optional zero = refl
number_optional (suc d) = omega arith

numbers_optional : (ds : List ℕ) → map entry_number (map optional ds) ≡ ds
numbers_optional [] = refl
numbers_optional (d ∷ ds) = λ t. number_optional d t ∷ numbers_optional ds t

pub length-optional : (n x : ℕ) → length (optional_digits n x) ≡ n
length-optional n x = length-map (digits n x) optional ∙ length-digits n x

pub optional_in : (n x k j : ℕ) → k + suc j ≡ n → get_or (optional_digits n x) k None ≡ optional (digit_at x j)
optional_in n x k j e =
    let long = length-digits n x in
    get_or-map optional (digits n x) k 0 None (omega (arith, long)) ∙ ap optional (digit_in n x k j 0 e)

same_from_optional : (n x y : ℕ) → x < 2 ^ (4 * n) → y < 2 ^ (4 * n) → optional_digits n x ≡ optional_digits n y → x ≡ y
same_from_optional n x y p q e = same_from_digits n x y p q (sym (numbers_optional (digits n x)) ∙ ap (map entry_number) e ∙ numbers_optional (digits n y))

pub optional_equal : (n m x y : ℕ) → n ≡ m → x < 2 ^ (4 * n) → y < 2 ^ (4 * m) → (x == y) ≡ pointwise (option_eq ◌==◌) (optional_digits n x) (optional_digits m y)
optional_equal n m x y e p q =
    same_tests (x == y) (pointwise (option_eq ◌==◌) (optional_digits n x) (optional_digits n y))
    (λ h. (options_Decides (optional_digits n x) (optional_digits n y)).1 (ap (λ z. optional_digits n z) ((unsigned_Decides x y).0 h)))
    (λ h. (unsigned_Decides x y).1 (same_from_optional n x y p (subst (λ k. y < 2 ^ (4 * k)) (sym e) q) ((options_Decides (optional_digits n x) (optional_digits n y)).0 h)))
    ∙ ap (λ k. pointwise (option_eq ◌==◌) (optional_digits n x) (optional_digits k y)) e

pub packed_partial_hash : (n x : ℕ) → n ≤ 15 → x < 2 ^ (4 * n) → partial_hash (optional_digits n x) ≡ fed.u64 x
packed_partial_hash n x few below =
    let within : length (optional_digits n x) ≤ 15 = omega (arith, length-optional n x) in
    let test : nat_le (length (optional_digits n x)) 15 ≡ true = search rules in
    ap (λ b. if b then fed.u64 (number_from_digits 16 (map entry_number (optional_digits n x))) else entries_hash (optional_digits n x)) test ∙ ap (λ ds. fed.u64 (number_from_digits 16 ds)) (numbers_optional (digits n x)) ∙ ap fed.u64 (number_of_digits n x below)

-- one image more
pub optional_push : (n x d next : ℕ) (o : Option ℕ) (done : List (Option ℕ)) → n + 1 ≤ 16 → d < 16 → x < 2 ^ (4 * n) → next ≡ bit_or (x * 2 ^ 4 % 2 ^ 64) d → optional d ≡ o → optional_digits n x ≡ done → (optional_digits (n + 1) next ≡ done ++ o ∷ []) × (next < 2 ^ (4 * (n + 1)))
optional_push n x d next o done few h below is stands so_far =
    let step = pushed n x d next (n + 1) refl few h below is in
    (ap (map optional) step.0 ∙ map-append optional (digits n x) (d ∷ []) ∙ (λ t. so_far t ++ stands t ∷ []), step.1)

pub pack_more : (images : List (Option ℕ)) (x i d next : ℕ) → length images ≤ 15 → i < length images → d < 16 → d ≡ entry_number (get_or images i None) → next ≡ bit_or (x * 2 ^ 4 % 2 ^ 64) d → optional_digits i x ≡ take i images → x < 2 ^ (4 * i) → (optional_digits (i + 1) next ≡ take (i + 1) images) × (next < 2 ^ (4 * (i + 1)))
pack_more images x i d next few within h d_is is so_far below =
    let step = optional_push i x d next (get_or images i None) (take i images) (omega arith) h below is (ap optional d_is ∙ optional_number (get_or images i None)) so_far in
    (step.0 ∙ sym (take_more images i None within), step.1)

-- images so far, and one more
pub unpack_more : (count x i : ℕ) (o : Option ℕ) (items next : List (Option ℕ)) → i < count → o ≡ get_or (optional_digits count x) i None → next ≡ items ++ o ∷ [] → items ≡ take i (optional_digits count x) → next ≡ take (i + 1) (optional_digits count x)
unpack_more count x i o items next within is more so_far =
    more ∙ (λ t. so_far t ++ is t ∷ []) ∙ sym (take_more (optional_digits count x) i None (omega (arith, length-optional count x)))

pub unpack_all : (count x i : ℕ) (items : List (Option ℕ)) → i ≡ count → items ≡ take i (optional_digits count x) → items ≡ optional_digits count x
unpack_all count x i items e so_far = so_far ∙ ap (λ k. take k (optional_digits count x)) (e ∙ sym (length-optional count x)) ∙ take-length (optional_digits count x)

-- the digit of the image of what a digit stands for
pub image_digit_is : (n right image result : ℕ) → 0 < image → image ≤ n → result ≡ digit_at right (n - image) → optional result ≡ partial_image (optional_digits n right) (optional image)
image_digit_is n right zero result some few is = absurd (omega arith)
image_digit_is n right (suc k) result some few is = ap optional is ∙ sym (optional_in n right k (n - suc k) (omega arith))

-- a digit of a packed partial permutation is at most its degree
pub digit_within : (n x i : ℕ) → i < n → All (IsBelow n) (optional_digits n x) → digit_at x (n - 1 - i) ≤ n
digit_within n x i within images = bound (digit_at x (n - 1 - i)) (subst (IsBelow n) (optional_in n x i (n - 1 - i) (omega arith)) (images i None (omega (arith, length-optional n x))))
  where
    bound : (d : ℕ) → IsBelow n (optional d) → d ≤ n
    bound zero h = omega arith
    bound (suc d) h = omega arith

-- the images of a product so far, and one more
pub product_more : (n x y i product next d : ℕ) → n ≤ 15 → i < n → d < 16 → optional d ≡ partial_image (optional_digits n y) (optional (digit_at x (n - 1 - i))) → next ≡ bit_or (product * 2 ^ 4 % 2 ^ 64) d → optional_digits i product ≡ map (partial_image (optional_digits n y)) (take i (optional_digits n x)) → product < 2 ^ (4 * i) → (optional_digits (i + 1) next ≡ map (partial_image (optional_digits n y)) (take (i + 1) (optional_digits n x))) × (next < 2 ^ (4 * (i + 1)))
product_more n x y i product next d few within h d_is is so_far below =
    let right : List (Option ℕ) = optional_digits n y in
    let left : List (Option ℕ) = optional_digits n x in
    let step = optional_push i product d next (partial_image right (optional (digit_at x (n - 1 - i)))) (map (partial_image right) (take i left)) (omega arith) h below is d_is so_far in
    let here : get_or left i None ≡ optional (digit_at x (n - 1 - i)) = optional_in n x i (n - 1 - i) (omega arith) in
    let more : take (i + 1) left ≡ take i left ++ optional (digit_at x (n - 1 - i)) ∷ [] = take_more left i None (omega (arith, length-optional n x)) ∙ ap (λ z. take i left ++ z ∷ []) here in
    (step.0 ∙ sym (map-append (partial_image right) (take i left) (optional (digit_at x (n - 1 - i)) ∷ [])) ∙ ap (map (partial_image right)) (sym more), step.1)

pub product_all : (n x y i product : ℕ) → i ≡ n → optional_digits i product ≡ map (partial_image (optional_digits n y)) (take i (optional_digits n x)) → optional_digits n product ≡ partially_composed (optional_digits n x) (optional_digits n y)
product_all n x y i product e all =
    ap (λ k. optional_digits k product) (sym e) ∙ all ∙ ap (λ k. map (partial_image (optional_digits n y)) (take k (optional_digits n x))) (e ∙ sym (length-optional n x)) ∙ ap (map (partial_image (optional_digits n y))) (take-length (optional_digits n x))
