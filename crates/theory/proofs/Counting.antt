-- Counting by pigeonholes.
use Rattle.std.proofs.Common.{◌≡◌, ℕ, zero, suc, ◌<◌, ◌≤◌, List, [], ◌∷◌, length, get_or, refl, sym, ◌∙◌, ap, subst, arith, ◌⊎◌, inl, inr, Contains}
use Rattle.std.proofs.lemmas.Bool.{cases_eq}

-- x is one of the list, by cases
abbrev pub IsIn : {X : Type 0} → X → List X → Type 0
IsIn x [] = ⊥
IsIn x (y ∷ ys) = (x ≡ y) ⊎ IsIn x ys

pub in_from_contains : {X : Type 0} (x : X) (ys : List X) → Contains ys x → IsIn x ys
in_from_contains {X} x ys h = go ys h.0 h.1 h.2
  where
    go : (ys : List X) (k : ℕ) → k < length ys → get_or ys k x ≡ x → IsIn x ys
    go [] k l e = omega arith
    go (y ∷ ys) zero l e = inl (sym e)
    go (y ∷ ys) (suc k) l e = inr (go ys k (omega arith) e)

pub contains_from_in : {X : Type 0} (x : X) (ys : List X) → IsIn x ys → Contains ys x
contains_from_in x [] h = absurd h
contains_from_in x (y ∷ ys) (inl e) = (0, omega arith, sym e)
contains_from_in x (y ∷ ys) (inr h) = let r = contains_from_in x ys h in (suc r.0, omega (arith, r.1), r.2)

-- the list without one of its elements
without : {X : Type 0} (x : X) (ys : List X) → IsIn x ys
    → (rest : List X) × (length ys ≡ suc (length rest)) × ((z : X) → IsIn z ys → (z ≡ x) ⊎ IsIn z rest)
without x (y ∷ ys) (inl e) = (ys, refl, λ z h. elim h [ inl d ↦ inl (d ∙ sym e) | inr m ↦ inr m ])
without x (y ∷ ys) (inr m) =
    let r = without x ys m in
    (y ∷ r.0, ap suc r.1, λ z h. elim h [ inl d ↦ inr (inl d) | inr k ↦ elim (r.2 z k) [ inl d ↦ inl d | inr n ↦ inr (inr n) ] ])
without x [] h = absurd h

-- no two have one place in common
abbrev pub AreApart : {X W : Type 0} → (X → W → Type 0) → List X → Type 0
AreApart At [] = Unit {0}
AreApart {X} {W} At (x ∷ xs) = ((y : X) (w : W) → IsIn y xs → At x w → At y w → ⊥) × AreApart At xs

-- then there are no more of them than places
pub pigeonhole : {X W : Type 0} (At : X → W → Type 0) (xs : List X) (ws : List W) → AreApart At xs
    → ((x : X) → IsIn x xs → (w : W) × IsIn w ws × At x w) → length xs ≤ length ws
pigeonhole At [] ws apart placed = omega arith
pigeonhole {X} {W} At (x ∷ xs) ws apart placed =
    let at = placed x (inl refl) in
    let rest = without at.0 ws at.1 in
    let fewer : length xs ≤ length rest.0 = pigeonhole At xs rest.0 apart.1 (others at.0 at.2 rest.0 rest.2) in
    omega (arith, rest.1)
  where
    others : (w : W) → At x w → (rest : List W) → ((v : W) → IsIn v ws → (v ≡ w) ⊎ IsIn v rest) → (y : X) → IsIn y xs
        → (v : W) × IsIn v rest × At y v
    others w here rest left y m =
        let at = placed y (inr m) in
        elim (left at.0 at.1) [
          | inl e ↦ absurd (apart.0 y w m here (subst (λ v. At y v) e at.2))
          | inr n ↦ (at.0, n, at.2)
        ]

-- the numbers below n
pub numbers_below : ℕ → List ℕ
numbers_below zero = []
numbers_below (suc n) = n ∷ numbers_below n

pub length_numbers : (n : ℕ) → length (numbers_below n) ≡ n
unfolding numbers_below
length_numbers zero = refl
length_numbers (suc n) = ap suc (length_numbers n)

pub in_numbers : (n m : ℕ) → m < n → IsIn m (numbers_below n)
unfolding numbers_below
in_numbers zero m h = absurd (omega (arith, h))
in_numbers (suc n) m h = elim (cases_eq m n) [ inl e ↦ inl e | inr d ↦ inr (in_numbers n m (omega (arith, h, d))) ]

pub from_numbers : (n m : ℕ) → IsIn m (numbers_below n) → m < n
unfolding numbers_below
from_numbers zero m h = absurd h
from_numbers (suc n) m (inl e) = omega (arith, e)
from_numbers (suc n) m (inr h) = omega (arith, from_numbers n m h)

-- no more numbers stand below m than below n, where each below m has a place below n of its own
pub no_more_numbers : (At : ℕ → ℕ → Type 0) (m n : ℕ) → ((i j w : ℕ) → At i w → At j w → i ≡ j)
    → ((i : ℕ) → i < m → (w : ℕ) × (w < n) × At i w) → m ≤ n
unfolding numbers_below
no_more_numbers At m n own placed =
    let few = pigeonhole At (numbers_below m) (numbers_below n) (apart m) there in
    omega (arith, few, length_numbers m, length_numbers n)
  where
    apart : (k : ℕ) → AreApart At (numbers_below k)
    apart zero = tt
    apart (suc k) = (λ j w h a b. let less = from_numbers k j h in let e = own k j w a b in omega (arith, less, e), apart k)

    there : (i : ℕ) → IsIn i (numbers_below m) → (w : ℕ) × IsIn w (numbers_below n) × At i w
    there i h = let p = placed i (from_numbers m i h) in (p.0, in_numbers n p.0 p.1, p.2)
