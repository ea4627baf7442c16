-- The first elements that have a property, and how those of parts join.
use Rattle.std.proofs.Common.{◌≡◌, ℕ, zero, suc, ◌+◌, ◌<◌, ◌≤◌, ◌⊎◌, inl, inr, Bool, true, false, List, [], ◌∷◌, ◌++◌, length, take, Option, Some, None, refl, sym, ap, subst, arith, append_assoc}
use Rattle.theory.specs.Listing.{IsAfter, IsNext, IsLast, IsPage}
use Rattle.theory.proofs.Listings.{page_cons, page_none, page_of_none}
use Rattle.sims_one.specs.Asked.{AreFirst}

-- the first of the first ones
pub take_joined : {A : Type 0} (n k : ℕ) (xs ys : List A) → n ≤ length xs + k → take n (xs ++ take k ys) ≡ take n (xs ++ ys)
take_joined zero k xs ys h = refl
take_joined (suc n) k [] ys h = short (suc n) k ys (omega (arith, h))
  where
    short : {A : Type 0} (n k : ℕ) (ys : List A) → n ≤ k → take n (take k ys) ≡ take n ys
    short zero k ys h = refl
    short (suc n) zero ys h = absurd (omega (arith, h))
    short (suc n) (suc k) [] h = refl
    short (suc n) (suc k) (y ∷ ys) h = ap (λ zs. y ∷ zs) (short n k ys (omega (arith, h)))
take_joined (suc n) k (x ∷ xs) ys h = ap (λ zs. x ∷ zs) (take_joined n k xs ys (omega (arith, h)))

module _ {A : Type 0} (Less : A → A → Type 0) (trans : (x y z : A) → Less x y → Less y z → Less x z) (irrefl : (x : A) → Less x x → ⊥) where
  after_trans : (c : Option A) (x y : A) → IsAfter Less c x → Less x y → IsAfter Less c y
  after_trans None x y after less = tt
  after_trans (Some c) x y after less = trans c x y after less

  -- what has one property has the other
  pub first_same : (P Q : A → Type 0) (c : Option A) (n : ℕ) (xs : List A) → ((x : A) → IsAfter Less c x → P x → Q x) → ((x : A) → IsAfter Less c x → Q x → P x) → AreFirst P Less c n xs → AreFirst Q Less c n xs
  first_same P Q c zero [] to back f = tt
  first_same P Q c (suc n) [] to back f = λ y has after. f y (back y after has) after
  first_same P Q c zero (x ∷ xs) to back f = f
  first_same P Q c (suc n) (x ∷ xs) to back f = (
    record { has = to x f.0.after f.0.has; after = f.0.after; least = λ y has after less. f.0.least y (back y after has) after less },
    first_same P Q (Some x) n xs (λ y less. to y (after_trans c x y f.0.after less)) (λ y less. back y (after_trans c x y f.0.after less)) f.1,
  )

  -- a cursor between which and the other one nothing has the property
  pub first_between : (P : A → Type 0) (c d : Option A) (n : ℕ) (xs : List A) → ((x : A) → P x → IsAfter Less c x → IsAfter Less d x) → ((x : A) → P x → IsAfter Less d x → IsAfter Less c x) → AreFirst P Less c n xs → AreFirst P Less d n xs
  first_between P c d zero [] to back f = tt
  first_between P c d (suc n) [] to back f = λ y has after. f y has (back y has after)
  first_between P c d zero (x ∷ xs) to back f = f
  first_between P c d (suc n) (x ∷ xs) to back f = (record { has = f.0.has; after = to x f.0.has f.0.after; least = λ y has after less. f.0.least y has (back y has after) less }, f.1)

  pub first_take : (P : A → Type 0) (c : Option A) (n k : ℕ) (xs : List A) → k ≤ n → AreFirst P Less c n xs → AreFirst P Less c k (take k xs)
  first_take P c n zero xs h f = tt
  first_take P c zero (suc k) xs h f = absurd (omega (arith, h))
  first_take P c (suc n) (suc k) [] h f = f
  first_take P c (suc n) (suc k) (x ∷ xs) h f = (f.0, first_take P (Some x) n k xs (omega (arith, h)) f.1)

  module _ (P Q : A → Type 0) (before : (x y : A) → P x → Q y → Less x y) where
    abbrev Either : A → Type 0
    Either x = P x ⊎ Q x

    later : (c : Option A) (x : A) (m : ℕ) (ys : List A) → P x → IsAfter Less c x → AreFirst Q Less c m ys → AreFirst Q Less (Some x) m ys
    later c x m ys has after f = first_between Q c (Some x) m ys (λ y q _. before x y has q) (λ y q less. after_trans c x y after less) f

    -- the first part has no more
    only_second : (c : Option A) (m k : ℕ) (ys : List A) → k ≤ m → IsLast P Less c → AreFirst Q Less c m ys → AreFirst Either Less c k (take k ys)
    only_second c m zero ys h last f = tt
    only_second c zero (suc k) ys h last f = absurd (omega (arith, h))
    only_second c (suc m) (suc k) [] h last f = λ y has after. elim has [ inl p ↦ last y p after | inr q ↦ f y q after ]
    only_second c (suc m) (suc k) (y ∷ ys) h last f = (
      record { has = inr f.0.has; after = f.0.after; least = λ z has after less. elim has [ inl p ↦ last z p after | inr q ↦ f.0.least z q after less ] },
      only_second (Some y) m k ys (omega (arith, h)) (λ z has less. last z has (after_trans c y z f.0.after less)) f.1,
    )

    -- the first of one part, and then those of the other
    pub first_join : (c : Option A) (n m k : ℕ) (xs ys : List A) → k ≤ n → k ≤ length xs + m → AreFirst P Less c n xs → AreFirst Q Less c m ys → AreFirst Either Less c k (take k (xs ++ ys))
    first_join c n m zero xs ys low enough f g = tt
    first_join c zero m (suc k) xs ys low enough f g = absurd (omega (arith, low))
    first_join c (suc n) m (suc k) [] ys low enough f g = only_second c m (suc k) ys (omega (arith, enough)) f g
    first_join c (suc n) m (suc k) (x ∷ xs) ys low enough f g = (
      record {
        has = inl f.0.has;
        after = f.0.after;
        least = λ y has after less. elim has [ inl p ↦ f.0.least y p after less | inr q ↦ irrefl x (trans x y x (before x y f.0.has q) less) ];
      },
      first_join (Some x) n m k xs ys (omega (arith, low)) (omega (arith, enough)) f.1 (later c x m ys f.0.has f.0.after g),
    )

  -- what follows the elements up to one of them completes the list
  abbrev pub Goes : (A → Type 0) → Option A → List A → A → Type 0
  Goes P c xs last = (m : ℕ) (ys : List A) → AreFirst P Less (Some last) m ys → AreFirst P Less c (length xs + m) (xs ++ ys)

  pub goes_none : (P : A → Type 0) (c : A) → Goes P (Some c) [] c
  goes_none P c m ys f = subst (λ n. AreFirst P Less (Some c) n ys) (omega arith) f

  pub goes_next : (P : A → Type 0) (c : Option A) (xs : List A) (last x : A) → Goes P c xs last → IsNext P Less (Some last) x → Goes P c (xs ++ x ∷ []) x
  goes_next P c xs last x goes next m ys f =
      subst (λ n. AreFirst P Less c n ((xs ++ x ∷ []) ++ ys)) (more xs)
      (subst (λ zs. AreFirst P Less c (length xs + suc m) zs) (sym (append_assoc xs (x ∷ []) ys)) (goes (suc m) (x ∷ ys) (next, f)))
    where
      more : (xs : List A) → length xs + suc m ≡ length (xs ++ x ∷ []) + m
      more [] = omega arith
      more (y ∷ xs) = let e = more xs in omega (arith, e)

  pub goes_past : (P : A → Type 0) (c : Option A) (xs : List A) (last x : A) → Goes P c xs last → Less last x → ((y : A) → P y → Less last y → Less x y) → Goes P c xs x
  goes_past P c xs last x goes less none m ys f =
      goes m ys (first_between P (Some x) (Some last) m ys (λ y has after. trans last x y less after) (λ y has after. none y has after) f)

-- the first ones and one more are a page
pub page_of_first : {A : Type 0} (P : A → Type 0) (Less : A → A → Type 0) (c : Option A) (n : ℕ) (xs : List A) (more : Bool) → (n < length xs → more ≡ true) → (length xs ≤ n → more ≡ false) → AreFirst P Less c (suc n) (take (suc n) xs) → IsPage P Less c n (take n xs) more
page_of_first P Less c zero [] more longer shorter f = subst (IsPage P Less c zero []) (sym (shorter (omega arith))) (page_none P Less c zero f)
page_of_first P Less c zero (x ∷ xs) more longer shorter f = subst (IsPage P Less c zero []) (sym (longer (omega arith))) (page_of_none P Less c (x, f.0))
page_of_first P Less c (suc n) [] more longer shorter f = subst (IsPage P Less c (suc n) []) (sym (shorter (omega arith))) (page_none P Less c (suc n) f)
page_of_first P Less c (suc n) (x ∷ xs) more longer shorter f =
    page_cons P Less c n x (take n xs) more f.0 (page_of_first P Less (Some x) n xs more (λ h. longer (omega (arith, h))) (λ h. shorter (omega (arith, h))) f.1)
