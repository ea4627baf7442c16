-- How many letters an alphabet has.
use Rattle.std.proofs.Common.{◌≡◌, ℕ, zero, suc, ◌-◌, ◌+◌, ◌<◌, ◌≤◌, Bool, true, false, nat_le, eqb, List, [], ◌∷◌, ◌++◌, length, map, All, Contains, Some, refl, ◌∙◌, ap, arith, cond, ◌⊎◌, inl, inr}
use Rattle.std.specs.List.{list_any, IsDistinct, AllByRecursion}
use Rattle.std.proofs.lemmas.Grind.{common_steps}
use Rattle.std.proofs.lemmas.Cmp.{nat_eq_equiv}
use Rattle.std.proofs.lemmas.List.{length-append, length-map}
use Rattle.std.proofs.lemmas.Map.Keys.{IsDistinct-push}
use Rattle.std.proofs.lemmas.Map.Views.{Contains-from_any}
use Rattle.std.proofs.lemmas.List.Quantifiers.{position-Some}
use Rattle.std.proofs.lemmas.Map.Steps.{length-le_from_distinct_below}
use Rattle.words.specs.Alphabet.{IsAlphabet, IsAlphabetOf, IsLetterByte, IsSymbol, place_of}

-- symbols as numbers below 53: lower case, upper case, the marker
abbrev code : ℕ → ℕ
code b = cond (nat_le 97 b) (b - 97) (cond (nat_le 65 b) (b - 39) 52)

IsCode : ℕ → ℕ → Type 0
IsCode b n = ((97 ≤ b) × (b ≤ 122) × (n + 97 ≡ b))
    ⊎ (((65 ≤ b) × (b ≤ 90) × (n + 39 ≡ b)) ⊎ ((b ≡ 35) × (n ≡ 52)))

high : (b : ℕ) → 97 ≤ b → nat_le 97 b ≡ true
high b h = grind (arith, common_steps)

low : (b : ℕ) → b ≤ 90 → nat_le 97 b ≡ false
low b h = grind (arith, common_steps)

middle_high : (b : ℕ) → 65 ≤ b → nat_le 65 b ≡ true
middle_high b h = grind (arith, common_steps)

code_of : (b : ℕ) → IsSymbol b → IsCode b (code b)
unfolding IsCode
code_of b (inl (inl h)) = inl (h.0, h.1, ap (λ t. cond t (b - 97) (cond (nat_le 65 b) (b - 39) 52) + 97) (high b h.0) ∙ omega (arith, h.0))
code_of b (inl (inr h)) = inr (inl (
  h.1,
  h.2,
  ap (λ t. cond t (b - 97) (cond (nat_le 65 b) (b - 39) 52) + 39) (low b h.2)
      ∙ ap (λ t. cond t (b - 39) 52 + 39) (middle_high b h.1) ∙ omega (arith, h.1),
))
code_of b (inr e) = inr (inr (e, ap code e))

code_below : (b n : ℕ) → IsCode b n → n < 53
unfolding IsCode
code_below b n (inl h) = omega (arith, h.0, h.1, h.2)
code_below b n (inr (inl h)) = omega (arith, h.0, h.1, h.2)
code_below b n (inr (inr h)) = omega (arith, h.1)

code_apart : (x y m n : ℕ) → IsCode x m → IsCode y n → m ≡ n → x ≡ y
unfolding IsCode
code_apart x y m n (inl h) (inl k) e = omega (arith, e, h.2, k.2)
code_apart x y m n (inl h) (inr (inl k)) e = absurd (omega (arith, e, h.1, h.2, k.0, k.2))
code_apart x y m n (inl h) (inr (inr k)) e = absurd (omega (arith, e, h.1, h.2, k.1))
code_apart x y m n (inr (inl h)) (inl k) e = absurd (omega (arith, e, h.0, h.2, k.1, k.2))
code_apart x y m n (inr (inl h)) (inr (inl k)) e = omega (arith, e, h.2, k.2)
code_apart x y m n (inr (inl h)) (inr (inr k)) e = absurd (omega (arith, e, h.1, h.2, k.1))
code_apart x y m n (inr (inr h)) (inl k) e = absurd (omega (arith, e, h.1, k.1, k.2))
code_apart x y m n (inr (inr h)) (inr (inl k)) e = absurd (omega (arith, e, h.1, k.1, k.2))
code_apart x y m n (inr (inr h)) (inr (inr k)) e = omega (arith, h.0, k.0)

same : (x y : ℕ) → eqb x y ≡ true → x ≡ y
same x y e = grind (arith, common_steps)

unlike : (x y : ℕ) → eqb x y ≡ false → x ≡ y → ⊥
unlike x y e d = grind (arith, common_steps)

codes_unlike : (x y : ℕ) → IsSymbol x → IsSymbol y → eqb x y ≡ false → eqb (code x) (code y) ≡ false
codes_unlike x y h k e = by (eqb (code x) (code y)) refl
  where
    by : (t : Bool) → eqb (code x) (code y) ≡ t → t ≡ false
    by false d = refl
    by true d = absurd (unlike x y e (code_apart x y (code x) (code y) (code_of x h) (code_of y k) (same (code x) (code y) d)))

codes_apart : (x : ℕ) (xs : List ℕ) → IsSymbol x → All IsSymbol xs → AllByRecursion (λ y. eqb x y ≡ false) xs → AllByRecursion (λ y. eqb (code x) y ≡ false) (map code xs)
codes_apart x [] h all apart = tt
codes_apart x (y ∷ ys) h all apart =
    (codes_unlike x y h (all 0 0 (omega arith)) apart.0, codes_apart x ys h (λ k d p. all (suc k) d (omega arith)) apart.1)

codes_distinct : (xs : List ℕ) → All IsSymbol xs → IsDistinct eqb xs → IsDistinct eqb (map code xs)
unfolding IsDistinct
codes_distinct [] all distinct = tt
codes_distinct (x ∷ xs) all distinct =
    let rest : All IsSymbol xs = λ k d p. all (suc k) d (omega arith) in
    (codes_apart x xs (all 0 0 (omega arith)) rest distinct.0, codes_distinct xs rest distinct.1)

codes_below : (xs : List ℕ) (q : ℕ) → All IsSymbol xs → list_any (eqb q) (map code xs) ≡ true → q < 53
codes_below [] q all h = absurd (cc)
codes_below (x ∷ xs) q all h =
    let rest : All IsSymbol xs = λ k d p. all (suc k) d (omega arith) in
    by (eqb q (code x)) refl (λ t. codes_below xs q rest t)
  where
    by : (b : Bool) → eqb q (code x) ≡ b → (list_any (eqb q) (map code xs) ≡ true → q < 53) → q < 53
    by true e rest = omega (arith, same q (code x) e, code_below x (code x) (code_of x (all 0 0 (omega arith))))
    by false e rest = rest (rw e at h)

-- an alphabet has at most 53 letters
pub few_letters : (bytes : List ℕ) → IsAlphabet bytes → length bytes ≤ 53
few_letters bytes a =
    let bound : length (map code bytes) ≤ 53 = length-le_from_distinct_below (map code bytes) 53 (codes_distinct bytes a.sound.all a.sound.distinct) (λ q h. codes_below bytes q a.sound.all h) in
    omega (arith, bound, length-map bytes code)

-- the place of a letter is a byte
pub place_fits : (bytes : List ℕ) (byte place : ℕ) → IsAlphabet bytes → place_of bytes byte ≡ Some place → place < 53
place_fits bytes byte place a e =
    let at = position-Some (λ y. eqb y byte) bytes place 0 e in
    omega (arith, at.0, few_letters bytes a)

-- an alphabet of letters is one
pub letters_alphabet : (wide : Bool) (bytes : List ℕ) → IsAlphabetOf (IsLetterByte wide) bytes → IsAlphabet bytes
letters_alphabet wide bytes a = record {
  filled = a.filled;
  sound = record { distinct = a.sound.distinct; all = λ k d p. symbol wide (a.sound.all k d p) };
}
  where
    symbol : {b : ℕ} (wide : Bool) → IsLetterByte wide b → IsSymbol b
    symbol wide (inl h) = inl (inl h)
    symbol true (inr h) = inl (inr h)
    symbol false (inr h) = absurd (let bad : false ≡ true = h.0 in cc)

-- an alphabet with one symbol more, which it has not
pub one_more : (bytes : List ℕ) (b : ℕ) → IsSymbol b → IsAlphabet bytes → ¬ Contains bytes b → IsAlphabet (bytes ++ b ∷ [])
one_more bytes b h a new = record {
  filled = omega (arith, length-append bytes (b ∷ []));
  sound = record {
    distinct = IsDistinct-push nat_eq_equiv bytes b a.sound.distinct (fresh (list_any (eqb b) bytes) refl);
    all = push_all bytes a.sound.all;
  };
}
  where
    fresh : (t : Bool) → list_any (eqb b) bytes ≡ t → t ≡ false
    fresh false e = refl
    fresh true e = absurd (new (Contains-from_any same b bytes e))

    push_all : (xs : List ℕ) → All IsSymbol xs → All IsSymbol (xs ++ b ∷ [])
    push_all [] all zero d p = h
    push_all [] all (suc k) d p = absurd (omega arith)
    push_all (x ∷ xs) all zero d p = all 0 d (omega arith)
    push_all (x ∷ xs) all (suc k) d p = push_all xs (λ k d p. all (suc k) d (omega arith)) k d (omega arith)
