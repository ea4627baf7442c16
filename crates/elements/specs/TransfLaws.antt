-- What the product of transformations keeps.
use Rattle.std.specs.Prelude.{◌≡◌, ℕ, ◌<◌, ◌≤◌, List, [], ◌∷◌, ◌⊎◌, IsTrue, length, map, ◌==◌, refl}
use Rattle.std.proofs.Common.{sym, ap, ◌∙◌, arith, inl, inr, subst, subst₂}
use Rattle.std.proofs.lemmas.List.{length-map, get_or-map, get_or_past}
use Rattle.std.specs.Cmp.Lexicographic.{pointwise, same_text, nat_list_eq_equiv}
use Rattle.theory.specs.Value.{IsProduct}
use Rattle.elements.specs.Hashes.{images_hash}
use Rattle.elements.specs.Transf.{image, composed}

pub length-composed : (x y : List ℕ) → length (composed x y) ≡ length x
length-composed x y = length-map x (image y)

within_or_past : (k n : ℕ) → (k < n) ⊎ (n ≤ k)
within_or_past k n = Prim.grind arith

image-composed : (y z : List ℕ) → length y ≡ length z → (k : ℕ)
    → image (composed y z) k ≡ image z (image y k)
image-composed y z e k = elim (within_or_past k (length y)) as
    (λ _. image (composed y z) k ≡ image z (image y k)) [
      | inl p ↦ get_or-map (image z) y k k k p
      | inr p ↦
          let long : length (composed y z) ≤ k = Prim.omega (arith, length-composed y z) in
          let z_long : length z ≤ k = Prim.omega arith in
          let a : image (composed y z) k ≡ k = get_or_past (composed y z) k k long in
          let b : image y k ≡ k = get_or_past y k k p in
          let c : image z k ≡ k = get_or_past z k k z_long in
          Prim.cc
    ]

map-same : (f g : ℕ → ℕ) → ((k : ℕ) → f k ≡ g k) → (xs : List ℕ) → map f xs ≡ map g xs
map-same f g h [] = refl
map-same f g h (x ∷ xs) = let e = h x in let t = map-same f g h xs in Prim.cc

map-twice : (f g : ℕ → ℕ) (xs : List ℕ) → map g (map f xs) ≡ map (λ k. g (f k)) xs
map-twice f g [] = refl
map-twice f g (x ∷ xs) = ap (λ t. g (f x) ∷ t) (map-twice f g xs)

pub composed-associative : (x y z : List ℕ) → length y ≡ length z
    → composed (composed x y) z ≡ composed x (composed y z)
composed-associative x y z e =
    map-twice (image y) (image z) x ∙ sym
    (map-same (image (composed y z)) (λ k. image z (image y k)) (image-composed y z e) x)

pub same_images : (x y : List ℕ) → IsTrue (pointwise ◌==◌ x y) → x ≡ y
same_images x y h = same_text x y (sym h)

pub images_alike : (x y : List ℕ) → IsTrue (pointwise ◌==◌ x y) → images_hash x ≡ images_hash y
images_alike x y h = ap images_hash (same_images x y h)

equals : (x y : List ℕ) → x ≡ y → IsTrue (pointwise ◌==◌ x y)
equals x y e = subst (λ z. IsTrue (pointwise ◌==◌ x z)) e (nat_list_eq_equiv.refl x)

-- equal transformations have one degree
pub one_degree : (x y : List ℕ) → IsTrue (pointwise ◌==◌ x y)
    → ◌≡◌ {A = ℕ × ℕ} (length x, 0) (length y, 0)
one_degree x y e = ap (λ t. (length t, 0)) (same_images x y e)

-- the transformations of one degree have an associative product
pub composed_products : (one : ℕ × ℕ)
    → IsProduct (λ x. let s : ℕ × ℕ = (length x, 0) in s ≡ one) composed (pointwise ◌==◌)
composed_products one = record {
  shape = λ x y h _. ap (λ n. let s : ℕ × ℕ = (n, 0) in s) (length-composed x y) ∙ h;
  associative = λ x y z _ p q. equals _ _ (composed-associative x y z (ap (λ s. s.0) (p ∙ sym q)));
  kept = λ x y z w _ _ _ _ p q. let e = same_images x y p in let d = same_images z w q in subst₂
      (λ a b. IsTrue (pointwise ◌==◌ (composed x z) (composed a b))) e d
      (nat_list_eq_equiv.refl (composed x z));
  reflexive = nat_list_eq_equiv.refl;
  symmetric = λ x y p. equals _ _ (sym (same_images x y p));
  transitive = λ x y z p q. equals _ _ (same_images x y p ∙ same_images y z q);
}
