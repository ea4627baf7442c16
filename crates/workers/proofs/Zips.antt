-- Lists of which one is made of the other, item by item.
use Rattle.std.proofs.Common.{◌≡◌, ℕ, zero, suc, ◌<◌, List, [], ◌∷◌, ◌++◌, length, map, get_or, set, refl, sym, ap, subst, arith}
use Rattle.std.specs.List.{AllZip}
use Rattle.std.proofs.lemmas.List.{set-get_or}
use Rattle.std.proofs.lemmas.List.Elements.{AllZip-get_or, length_all_zip}

module _ {X : Type 0} (R : X → X → Type 0) where
  pub zip_from_each : (xs ys : List X) → length ys ≡ length xs → ((i : ℕ) (d : X) → i < length xs → R (get_or xs i d) (get_or ys i d)) → AllZip R xs ys
  zip_from_each [] [] long each = tt
  zip_from_each [] (y ∷ ys) long each = absurd (omega (arith, long))
  zip_from_each (x ∷ xs) [] long each = absurd (omega (arith, long))
  zip_from_each (x ∷ xs) (y ∷ ys) long each = (each 0 x (omega arith), zip_from_each xs ys (omega (arith, long)) (λ i d less. each (suc i) d (omega (arith, less))))

  pub zip_same : (xs us ys vs : List X) → xs ≡ us → ys ≡ vs → AllZip R us vs → AllZip R xs ys
  zip_same xs us ys vs p q z = subst (λ zs. AllZip R zs ys) (sym p) (subst (AllZip R us) (sym q) z)

  pub zip_set : (xs ys : List X) (i : ℕ) (x y : X) → AllZip R xs ys → R x y → AllZip R (set xs i x) (set ys i y)
  zip_set [] [] i x y z r = tt
  zip_set [] (w ∷ ys) i x y z r = absurd z
  zip_set (v ∷ xs) [] i x y z r = absurd z
  zip_set (v ∷ xs) (w ∷ ys) zero x y z r = (r, z.1)
  zip_set (v ∷ xs) (w ∷ ys) (suc i) x y z r = (z.0, zip_set xs ys i x y z.1 r)

  pub zip_get : (xs ys : List X) (i : ℕ) (d : X) → AllZip R xs ys → i < length ys → R (get_or xs i d) (get_or ys i d)
  zip_get xs ys i d z low = AllZip-get_or R xs ys i d d z (omega (arith, low, length_all_zip R xs ys z))

  -- an item that was made is made anew
  pub zip_again : (xs ys : List X) (i : ℕ) (y new : X) → AllZip R xs ys → i < length ys → y ≡ get_or ys i y → ((x : X) → R x y → R x new) → AllZip R xs (set ys i new)
  zip_again xs ys i y new z low at more =
      subst (λ zs. AllZip R zs (set ys i new)) (set-get_or xs i y)
      (zip_set xs ys i (get_or xs i y) new z (more (get_or xs i y) (subst (R (get_or xs i y)) (sym at) (zip_get xs ys i y z low))))

  -- what is made of a list with a last item has one
  pub zip_last : (xs : List X) (x : X) (ys : List X) → AllZip R (xs ++ x ∷ []) ys → (h : List X) × (y : X) × (ys ≡ h ++ y ∷ []) × AllZip R xs h × R x y
  zip_last [] x [] z = absurd z
  zip_last [] x (y ∷ []) z = ([], y, refl, tt, z.0)
  zip_last [] x (y ∷ w ∷ ys) z = absurd z.1
  zip_last (v ∷ xs) x [] z = absurd z
  zip_last (v ∷ xs) x (y ∷ ys) z = let r = zip_last xs x ys z.1 in (y ∷ r.0, r.1, ap (λ zs. y ∷ zs) r.2, (z.0, r.3), r.4)

pub zip_map : {X Y : Type 0} (R : X → X → Type 0) (f : Y → X) (xs ys : List Y) → AllZip (λ x y. R (f x) (f y)) xs ys → AllZip R (map f xs) (map f ys)
zip_map R f [] [] z = tt
zip_map R f [] (y ∷ ys) z = absurd z
zip_map R f (x ∷ xs) [] z = absurd z
zip_map R f (x ∷ xs) (y ∷ ys) z = (z.0, zip_map R f xs ys z.1)
