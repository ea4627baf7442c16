-- The classes of numbers are listed in one way.
use Rattle.std.proofs.Common.{◌≡◌, ◌≢◌, ℕ, zero, suc, ◌<◌, ◌≤◌, List, [], ◌∷◌, length, slice_index, map, refl, sym, ◌∙◌, ap, subst, arith, ◌⊎◌, inl, inr, None, Contains}
use Rattle.std.proofs.lemmas.Bool.{cases_lt}
use Rattle.std.proofs.lemmas.List.{get_or_default, get_or_past, get_or-map, length-map, same_lists}
use Rattle.std.proofs.lemmas.List.Elements.{All-contains, Contains-get_or}
use Rattle.theory.specs.Listing.{IsAscending, IsStrictOrder}
use Rattle.theory.specs.Green.{AreClasses, class_at}
use Rattle.theory.proofs.Counting.{IsIn, in_from_contains, contains_from_in}
use Rattle.theory.proofs.Listings.{ascending_after, list_from_ascending, list_unique}

number_cases : (x y : ℕ) → (x < y) ⊎ ((x ≡ y) ⊎ (y < x))
number_cases x y = elim (cases_lt x y) [
  | inl h ↦ inl h
  | inr h ↦ elim (cases_lt y x) [ inl g ↦ inr (inr g) | inr g ↦ inr (inl (omega arith)) ]
]

number_order : (P : ℕ → Type 0) → IsStrictOrder P ◌<◌
number_order P = record { cases = λ x y p q. number_cases x y; irrefl = λ x h. omega arith; trans = λ x y z h k. omega arith }

-- ascending numbers are listed in one way, and the first is the least
one_ascending : (xs ys : List ℕ) → IsAscending ◌<◌ None xs → IsAscending ◌<◌ None ys → ((x : ℕ) → IsIn x xs → IsIn x ys)
    → ((x : ℕ) → IsIn x ys → IsIn x xs) → xs ≡ ys
one_ascending xs ys up also there back =
    let Of : ℕ → Type 0 = λ x. IsIn x xs in
    list_unique Of ◌<◌ (number_order Of) None xs ys
    (list_from_ascending Of ◌<◌ (number_order Of) None xs up (λ x m. m) (λ x m a. m))
    (list_from_ascending Of ◌<◌ (number_order Of) None ys also back (λ x m a. there x m))

pub first_is_least : (c : List ℕ) → IsAscending ◌<◌ None c → (i : ℕ) → Contains c i → slice_index c 0 ≤ i
first_is_least c up i m = go c up (in_from_contains i c m)
  where
    go : (c : List ℕ) → IsAscending ◌<◌ None c → IsIn i c → slice_index c 0 ≤ i
    go [] up m = absurd m
    go (x ∷ c) up (inl e) = omega (arith, e)
    go (x ∷ c) up (inr m) =
        let less : x < i = ascending_after (λ y. IsIn y c) ◌<◌ (number_order (λ y. IsIn y c)) x c up.1 i m in
        omega (arith, less)

some_in : (c : List ℕ) → c ≢ [] → Contains c (slice_index c 0)
some_in [] d = absurd (d refl)
some_in (x ∷ c) d = contains_from_in x (x ∷ c) (inl refl)

-- what stands in the list of a function's values
in_map : (f : List ℕ → ℕ) (cs : List (List ℕ)) (p : ℕ) → p < length cs → IsIn (f (class_at cs p)) (map f cs)
in_map f [] p l = omega arith
in_map f (c ∷ cs) zero l = inl refl
in_map f (c ∷ cs) (suc p) l = inr (in_map f cs p (omega arith))

pub from_map : (f : List ℕ → ℕ) (cs : List (List ℕ)) (x : ℕ) → IsIn x (map f cs) → (p : ℕ) × (p < length cs) × (f (class_at cs p) ≡ x)
from_map f [] x m = absurd m
from_map f (c ∷ cs) x (inl e) = (0, omega arith, sym e)
from_map f (c ∷ cs) x (inr m) = let rest = from_map f cs x m in (suc rest.0, omega (arith, rest.1), rest.2)

-- a class with a member has a place in the list
pub place_inside : (cs : List (List ℕ)) (p i : ℕ) → Contains (class_at cs p) i → p < length cs
place_inside cs p i m = elim (cases_lt p (length cs)) [
  | inl l ↦ l
  | inr past ↦ absurd (none (subst (λ (c : List ℕ). Contains c i) (get_or_past cs p [] past) m))
]
  where
    none : Contains [] i → ⊥
    none m = omega (arith, m.1)

module _ (n : ℕ) (R : ℕ → ℕ → Type 0) (cs : List (List ℕ)) (h : AreClasses n R cs) where
  pub member_below : (p i : ℕ) → Contains (class_at cs p) i → i < n
  member_below p i m = All-contains (λ j. j < n) (class_at cs p) i (h.below p [] (place_inside cs p i m)) m

  pub first_in : (p : ℕ) → p < length cs → Contains (class_at cs p) (slice_index (class_at cs p) 0)
  first_in p l = some_in (class_at cs p) (h.not_empty p [] l)

  -- two numbers of one class are related, and related numbers stand in one class
  pub one_class_related : (c : List ℕ) → Contains cs c → (i j : ℕ) → Contains c i → Contains c j → R i j
  one_class_related c m i j a b =
      let at : c ≡ class_at cs m.0 = sym m.2 ∙ get_or_default cs m.0 c [] m.1 in
      (h.related m.0 m.0 i j (subst (λ (d : List ℕ). Contains d i) at a) (subst (λ (d : List ℕ). Contains d j) at b)).1 refl

  pub related_one_class : (i j : ℕ) → i < n → j < n → R i j → (c : List ℕ) × Contains cs c × Contains c i × Contains c j
  related_one_class i j l k r =
      let at = h.every i l in
      let other = h.every j k in
      let same : at.0 ≡ other.0 = (h.related at.0 other.0 i j at.1 other.1).0 r in (
        class_at cs at.0,
        Contains-get_or cs at.0 [] (place_inside cs at.0 i at.1),
        at.1,
        subst (λ p. Contains (class_at cs p) j) (sym same) other.1,
      )

-- what stands together in one list of the classes does so in another
module _ (n : ℕ) (R : ℕ → ℕ → Type 0) where
  together : (cs ds : List (List ℕ)) → AreClasses n R cs → AreClasses n R ds → (p q i j : ℕ) → Contains (class_at cs p) i → Contains (class_at ds q) i
      → Contains (class_at cs p) j → Contains (class_at ds q) j
  together cs ds g h p q i j a b c =
      let at = h.every j (member_below n R cs g p j c) in
      let same : q ≡ at.0 = (h.related q at.0 i j b at.1).0 ((g.related p p i j a c).1 refl) in
      subst (λ r. Contains (class_at ds r) j) (sym same) at.1

  one_class : (cs ds : List (List ℕ)) → AreClasses n R cs → AreClasses n R ds → (p q i : ℕ) → Contains (class_at cs p) i → Contains (class_at ds q) i
      → class_at cs p ≡ class_at ds q
  one_class cs ds g h p q i a b =
      one_ascending (class_at cs p) (class_at ds q) (g.ascend p [] (place_inside cs p i a)) (h.ascend q [] (place_inside ds q i b))
      (λ j m. in_from_contains j (class_at ds q) (together cs ds g h p q i j a b (contains_from_in j (class_at cs p) m)))
      (λ j m. in_from_contains j (class_at cs p) (together ds cs h g q p i j b a (contains_from_in j (class_at ds q) m)))

  firsts_in : (cs ds : List (List ℕ)) → AreClasses n R cs → AreClasses n R ds → (x : ℕ) → IsIn x (map (λ c. slice_index c 0) cs) → IsIn x (map (λ c. slice_index c 0) ds)
  firsts_in cs ds g h x m =
      let at = from_map (λ c. slice_index c 0) cs x m in
      let a : Contains (class_at cs at.0) x = subst (Contains (class_at cs at.0)) at.2 (first_in n R cs g at.0 at.1) in
      let other = h.every x (member_below n R cs g at.0 x a) in
      let same = one_class cs ds g h at.0 other.0 x a other.1 in
      subst (λ y. IsIn y (map (λ c. slice_index c 0) ds)) (sym (ap (λ (c : List ℕ). slice_index c 0) same) ∙ at.2)
      (in_map (λ c. slice_index c 0) ds other.0 (place_inside ds other.0 x other.1))

  -- there is at most one list of the classes
  pub classes_one : (cs ds : List (List ℕ)) → AreClasses n R cs → AreClasses n R ds → cs ≡ ds
  classes_one cs ds g h = same_lists cs ds as_many (λ p d l. let less : p < length ds = omega (arith, l, as_many) in (
      get_or_default cs p d [] l ∙ at p l less ∙ get_or_default ds p [] d less
      ))
    where
      firsts : map (λ c. slice_index c 0) cs ≡ map (λ c. slice_index c 0) ds
      firsts = one_ascending (map (λ c. slice_index c 0) cs) (map (λ c. slice_index c 0) ds) g.in_order h.in_order (firsts_in cs ds g h) (firsts_in ds cs h g)

      as_many : length cs ≡ length ds
      as_many = sym (length-map cs (λ c. slice_index c 0)) ∙ ap length firsts ∙ length-map ds (λ c. slice_index c 0)

      at : (p : ℕ) → p < length cs → p < length ds → class_at cs p ≡ class_at ds p
      at p l less =
          let first : slice_index (class_at ds p) 0 ≡ slice_index (class_at cs p) 0 =
          sym (get_or-map (λ c. slice_index c 0) ds p [] 0 less) ∙ ap (λ (xs : List ℕ). slice_index xs p) (sym firsts) ∙ get_or-map (λ c. slice_index c 0) cs p [] 0 l in
          one_class cs ds g h p p (slice_index (class_at cs p) 0) (first_in n R cs g p l)
          (subst (Contains (class_at ds p)) first (first_in n R ds h p less))
