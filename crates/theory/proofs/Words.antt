-- Cutting words, and the laws of short-lex.
use Rattle.std.proofs.Common.{◌≡◌, ℕ, zero, suc, ◌<◌, ◌≤◌, [], ◌∷◌, ◌++◌, length, refl, sym, ◌∙◌, ap, length-append, arith, ◌⊎◌, inl, inr, nat_cmp, Ordering, Less, Equal, Greater}
use Rattle.std.specs.Ordering.{ordering_then, ordering_reverse}
use Rattle.std.specs.Cmp.{IsTotalOrder, nat_cmp_is}
use Rattle.std.specs.Cmp.Lexicographic.{slice_cmp}
use Rattle.std.proofs.lemmas.Cmp.{nat_cmp_total, nat_list_cmp_total, then_total, on_total, ranked, tied_itself}
use Rattle.theory.specs.Word.{Word, IsOver}
use Rattle.theory.specs.ShortLex.{shortlex, ◌≺◌}

-- two ways to cut one word, the first no later than the second
pub cut_between : (x₁ y₁ x₂ y₂ : Word) → x₁ ++ y₁ ≡ x₂ ++ y₂ → length x₁ ≤ length x₂ → (z : Word) × (x₂ ≡ x₁ ++ z) × (y₁ ≡ z ++ y₂)
cut_between [] y₁ x₂ y₂ e h = (x₂, refl, e)
cut_between (a ∷ x₁) y₁ [] y₂ e h = absurd (omega arith)
cut_between (a ∷ x₁) y₁ (b ∷ x₂) y₂ e h =
    let tails : x₁ ++ y₁ ≡ x₂ ++ y₂ = cc in
    let shorter : length x₁ ≤ length x₂ = omega arith in
    let r = cut_between x₁ y₁ x₂ y₂ tails shorter in
    let heads : a ≡ b = cc in
    (r.0, (λ i. sym heads i ∷ r.1 i), r.2)

-- short-lex is a total order
pub shortlex_total : IsTotalOrder shortlex
shortlex_total = then_total (on_total length nat_cmp_total) nat_list_cmp_total

-- what short-lex says, at each answer
pub nat_Less : (x y : ℕ) → x < y → nat_cmp x y ≡ Less
nat_Less x y h = sym (nat_cmp_is x y Less h)

pub nat_Equal : (x : ℕ) → nat_cmp x x ≡ Equal
nat_Equal x = sym (nat_cmp_is x x Equal refl)

pub nat_from_Less : (x y : ℕ) → nat_cmp x y ≡ Less → x < y
nat_from_Less x y h = ranked x y Less (sym h)

pub nat_from_Equal : (x y : ℕ) → nat_cmp x y ≡ Equal → x ≡ y
nat_from_Equal x y h = ranked x y Equal (sym h)

-- a shorter word comes before
pub shorter_first : (u v : Word) → length u < length v → u ≺ v
shorter_first u v h = rw (nat_Less (length u) (length v) h) refl

then_Equal : (o p : Ordering) → ordering_then o p ≡ Equal → (o ≡ Equal) × (p ≡ Equal)
then_Equal Less p h = cc
then_Equal Equal p h = (refl, h)
then_Equal Greater p h = cc

pub then_Less : (o p : Ordering) → ordering_then o p ≡ Less → (o ≡ Less) ⊎ ((o ≡ Equal) × (p ≡ Less))
then_Less Less p h = inl refl
then_Less Equal p h = inr (refl, h)
then_Less Greater p h = cc

pub letters_exact : (u v : Word) → slice_cmp nat_cmp u v ≡ Equal → u ≡ v
letters_exact [] [] h = refl
letters_exact [] (b ∷ v) h = cc
letters_exact (a ∷ u) [] h = cc
letters_exact (a ∷ u) (b ∷ v) h =
    let both = then_Equal (nat_cmp a b) (slice_cmp nat_cmp u v) h in
    let heads : a ≡ b = nat_from_Equal a b both.0 in
    let tails : u ≡ v = letters_exact u v both.1 in
    λ i. heads i ∷ tails i

-- words that compare alike are one
pub shortlex_exact : (u v : Word) → shortlex u v ≡ Equal → u ≡ v
shortlex_exact u v h = letters_exact u v (then_Equal (nat_cmp (length u) (length v)) (slice_cmp nat_cmp u v) h).1

-- what comes before is shorter, or as long and less by letters
pub before_cases : (u v : Word) → u ≺ v → (length u < length v) ⊎ ((length u ≡ length v) × (slice_cmp nat_cmp u v ≡ Less))
before_cases u v h =
    elim (then_Less (nat_cmp (length u) (length v)) (slice_cmp nat_cmp u v) h) [
      | inl l ↦ inl (nat_from_Less _ _ l)
      | inr p ↦ inr (nat_from_Equal _ _ p.0, p.1)
    ]

-- as long and less by letters
pub letters_first : (u v : Word) → length u ≡ length v → slice_cmp nat_cmp u v ≡ Less → u ≺ v
letters_first u v e h = rw (e, nat_Equal (length v)) h

-- what comes before is no longer
pub before_no_longer : (u v : Word) → u ≺ v → length u ≤ length v
before_no_longer u v h = elim (before_cases u v h) [ inl l ↦ omega arith | inr p ↦ omega arith ]

-- of two words one comes before, or they are one
pub order_cases : (u v : Word) → (u ≺ v) ⊎ ((u ≡ v) ⊎ (v ≺ u))
order_cases u v = go (shortlex u v) refl
  where
    back : shortlex u v ≡ Greater → v ≺ u
    back h = turned (shortlex v u) (sym (shortlex_total.antisymm u v) ∙ h)
      where
        turned : (o : Ordering) → ordering_reverse o ≡ Greater → o ≡ Less
        turned Less e = refl
        turned Equal e = cc
        turned Greater e = cc

    go : (o : Ordering) → shortlex u v ≡ o → (u ≺ v) ⊎ ((u ≡ v) ⊎ (v ≺ u))
    go Less h = inl h
    go Equal h = inr (inl (shortlex_exact u v h))
    go Greater h = inr (inr (back h))

-- no word comes before itself
pub before_irrefl : (u : Word) → u ≺ u → ⊥
before_irrefl u h = let e : shortlex u u ≡ Equal = tied_itself shortlex_total u in cc

pub before_trans : (u v w : Word) → u ≺ v → v ≺ w → u ≺ w
before_trans u v w = shortlex_total.trans u v w

-- a letter in front of both
pub before_cons : (a : ℕ) (u v : Word) → u ≺ v → (a ∷ u) ≺ (a ∷ v)
before_cons a u v h =
    elim (before_cases u v h) [
      | inl l ↦ shorter_first (a ∷ u) (a ∷ v) (omega arith)
      | inr p ↦ letters_first (a ∷ u) (a ∷ v) (ap suc p.0) (rw nat_Equal p.1)
    ]

-- a word in front of both
pub before_append_left : (x u v : Word) → u ≺ v → (x ++ u) ≺ (x ++ v)
before_append_left [] u v h = h
before_append_left (a ∷ x) u v h = before_cons a (x ++ u) (x ++ v) (before_append_left x u v h)

letters_append : (u v y : Word) → length u ≡ length v → slice_cmp nat_cmp u v ≡ Less → slice_cmp nat_cmp (u ++ y) (v ++ y) ≡ Less
letters_append [] [] y e h = cc
letters_append [] (b ∷ v) y e h = cc
letters_append (a ∷ u) [] y e h = cc
letters_append (a ∷ u) (b ∷ v) y e h =
    elim (then_Less (nat_cmp a b) (slice_cmp nat_cmp u v) h) [
      | inl l ↦ rw l refl
      | inr p ↦ rw (p.0) (letters_append u v y (omega arith) p.1)
    ]

-- a word behind both
pub before_append_right : (u v y : Word) → u ≺ v → (u ++ y) ≺ (v ++ y)
before_append_right u v y h =
    elim (before_cases u v h) [
      | inl l ↦ shorter_first (u ++ y) (v ++ y) (omega (arith, length-append u y, length-append v y))
      | inr p ↦ letters_first (u ++ y) (v ++ y) (omega (arith, length-append u y, length-append v y)) (letters_append u v y p.0 p.1)
    ]

-- short-lex is kept in every context
pub before_context : (x u v y : Word) → u ≺ v → (x ++ (u ++ y)) ≺ (x ++ (v ++ y))
before_context x u v y h = before_append_left x (u ++ y) (v ++ y) (before_append_right u v y h)

-- strong induction on a number
pub strong_induction : (P : ℕ → Type 0) → ((n : ℕ) → ((m : ℕ) → m < n → P m) → P n) → (n : ℕ) → P n
strong_induction P step n = step n (below n)
  where
    below : (n m : ℕ) → m < n → P m
    below zero m h = absurd (omega arith)
    below (suc n) m h = step m (λ j l. below n j (omega arith))

lex_induction : (n : ℕ) (P : Word → Type 0)
    → ((u : Word) → length u ≡ n → ((v : Word) → length v ≡ n → slice_cmp nat_cmp v u ≡ Less → P v) → P u) → (u : Word) → length u ≡ n → P u
lex_induction zero P step [] e = step [] refl none
  where
    none : (v : Word) → length v ≡ 0 → slice_cmp nat_cmp v [] ≡ Less → P v
    none [] ev h = cc
    none (b ∷ v) ev h = cc
lex_induction zero P step (a ∷ u) e = absurd (omega arith)
lex_induction (suc n) P step [] e = absurd (omega arith)
lex_induction (suc n) P step (a ∷ u) e =
    strong_induction (λ b. (w : Word) → length w ≡ n → P (b ∷ w)) (heads (λ b. lex_induction n (λ w. P (b ∷ w)))) a u (omega arith)
  where
    heads : ((b : ℕ) → ((w : Word) → length w ≡ n → ((v : Word) → length v ≡ n → slice_cmp nat_cmp v w ≡ Less → P (b ∷ v)) → P (b ∷ w)) → (w : Word) → length w ≡ n → P (b ∷ w))
        → (b : ℕ) → ((d : ℕ) → d < b → (w : Word) → length w ≡ n → P (d ∷ w)) → (w : Word) → length w ≡ n → P (b ∷ w)
    heads tails_first b lower = tails_first b at
      where
        at : (w : Word) → length w ≡ n → ((v : Word) → length v ≡ n → slice_cmp nat_cmp v w ≡ Less → P (b ∷ v)) → P (b ∷ w)
        at w ew tails = step (b ∷ w) (ap suc ew) less
          where
            less : (v : Word) → length v ≡ suc n → slice_cmp nat_cmp v (b ∷ w) ≡ Less → P v
            less [] ev h = absurd (omega arith)
            less (d ∷ v) ev h =
                elim (then_Less (nat_cmp d b) (slice_cmp nat_cmp v w) h) [
                  | inl l ↦ lower d (nat_from_Less d b l) v (omega arith)
                  | inr p ↦ rw (nat_from_Equal d b p.0) (tails v (omega arith) p.1)
                ]

-- what holds of a word once it holds of all before it holds of every word
pub shortlex_induction : (P : Word → Type 0) → ((u : Word) → ((v : Word) → v ≺ u → P v) → P u) → (u : Word) → P u
shortlex_induction P step u = strong_induction (λ n. (w : Word) → length w ≡ n → P w) level (length u) u refl
  where
    level : (n : ℕ) → ((m : ℕ) → m < n → (w : Word) → length w ≡ m → P w) → (w : Word) → length w ≡ n → P w
    level n shorter = lex_induction n P at
      where
        at : (w : Word) → length w ≡ n → ((v : Word) → length v ≡ n → slice_cmp nat_cmp v w ≡ Less → P v) → P w
        at w ew same = step w less
          where
            less : (v : Word) → v ≺ w → P v
            less v h =
                elim (before_cases v w h) [
                  | inl l ↦ shorter (length v) (omega arith) v refl
                  | inr p ↦ same v (omega arith) p.1
                ]

-- the letters of a product
pub over_append : (k : ℕ) (u v : Word) → IsOver k u → IsOver k v → IsOver k (u ++ v)
over_append k [] v hu hv = hv
over_append k (a ∷ u) v hu hv = (hu.0, over_append k u v hu.1 hv)

pub over_left : (k : ℕ) (u v : Word) → IsOver k (u ++ v) → IsOver k u
over_left k [] v h = tt
over_left k (a ∷ u) v h = (h.0, over_left k u v h.1)

pub over_right : (k : ℕ) (u v : Word) → IsOver k (u ++ v) → IsOver k v
over_right k [] v h = h
over_right k (a ∷ u) v h = over_right k u v h.1
