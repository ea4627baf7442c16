-- What the product of partial permutations keeps.
use Rattle.std.specs.Prelude.{◌≡◌, ℕ, ◌<◌, ◌≤◌, List, [], ◌∷◌, ◌⊎◌, IsTrue, length, ◌==◌, Option, Some, None, slice_index_or}
use Rattle.std.specs.Option.{option_eq, option_cmp}
use Rattle.std.specs.Bool.{Decides}
use Rattle.std.specs.Ordering.{nat_cmp, eq_by_cmp, as_partial_cmp}
use Rattle.std.specs.Cmp.{unsigned_Decides, unsigned_ties, nat_cmp_total, IsPartialOrder, po}
use Rattle.std.specs.Cmp.Lexicographic.{pointwise, pointwise_decides, slice_cmp, lists_total, lists_ties, options_total}
use Rattle.std.proofs.Common.{sym, ap, ◌∙◌, refl, inl, inr, arith}
use Rattle.std.proofs.lemmas.List.{length-map, get_or-map, get_or_past}
use Rattle.theory.specs.Value.{IsProduct}
use Rattle.elements.specs.Hashes.{partial_hash}
use Rattle.elements.specs.PPerm.{partial_image, partially_composed}

option_Decides : (x y : Option ℕ) → Decides (option_eq ◌==◌ x y) (x ≡ y)
option_Decides None None = (λ e. refl, λ e. refl)
option_Decides None (Some y) = (λ e. absurd (Prim.cc), λ e. absurd (Prim.cc))
option_Decides (Some x) None = (λ e. absurd (Prim.cc), λ e. absurd (Prim.cc))
option_Decides (Some x) (Some y) = (
  λ e. ap Some
      ((unsigned_Decides x y).0 e),
  λ e. (unsigned_Decides x y).1 (Prim.cc),
)

pub options_Decides : (x y : List (Option ℕ)) → Decides (pointwise (option_eq ◌==◌) x y) (x ≡ y)
options_Decides = pointwise_decides option_Decides

pub same_entries : (x y : List (Option ℕ)) → IsTrue (pointwise (option_eq ◌==◌) x y) → x ≡ y
same_entries x y h = (options_Decides x y).0 h

option_ties : (x y : Option ℕ) → option_eq ◌==◌ x y ≡ eq_by_cmp (option_cmp nat_cmp) x y
option_ties None None = refl
option_ties None (Some y) = refl
option_ties (Some x) None = refl
option_ties (Some x) (Some y) = unsigned_ties x y

pub entries_ties : (x y : List (Option ℕ))
    → pointwise (option_eq ◌==◌) x y ≡ eq_by_cmp (slice_cmp (option_cmp nat_cmp)) x y
entries_ties = lists_ties (option_cmp nat_cmp) option_ties

pub entries_order : IsPartialOrder (pointwise (option_eq ◌==◌))
    (as_partial_cmp (slice_cmp (option_cmp nat_cmp)))
entries_order = po (lists_total (options_total nat_cmp_total)) entries_ties

pub entries_alike : (x y : List (Option ℕ)) → IsTrue (pointwise (option_eq ◌==◌) x y)
    → partial_hash x ≡ partial_hash y
entries_alike x y h = ap partial_hash (same_entries x y h)

pub equal_entries : (x y : List (Option ℕ)) → x ≡ y → IsTrue (pointwise (option_eq ◌==◌) x y)
equal_entries x y e = (options_Decides x y).1 e

module _ (y z : List (Option ℕ)) where
  image_composed : (k : Option ℕ)
      → partial_image (partially_composed y z) k ≡ partial_image z (partial_image y k)
  image_composed None = refl
  image_composed (Some k) = elim (within_or_past k (length y)) as
      (λ _. slice_index_or (partially_composed y z) k None
      ≡ partial_image z (slice_index_or y k None)) [
        | inl p ↦ get_or-map (partial_image z) y k None None p
        | inr p ↦
            let long : length (partially_composed y z)
            ≤ k = Prim.omega (arith, length-map y (partial_image z)) in
            get_or_past (partially_composed y z) k None long ∙ ap (partial_image z)
            (sym (get_or_past y k None p))
      ]
    where
      within_or_past : (k n : ℕ) → (k < n) ⊎ (n ≤ k)
      within_or_past k n = Prim.grind arith

  pub partially_composed-associative : (x : List (Option ℕ))
      → partially_composed (partially_composed x y) z
      ≡ partially_composed x (partially_composed y z)
  partially_composed-associative [] = refl
  partially_composed-associative (k ∷ x) = let e = image_composed k in let
      t = partially_composed-associative x in Prim.cc

-- equal partial permutations have one degree
pub one_partial_degree : (x y : List (Option ℕ)) → IsTrue (pointwise (option_eq ◌==◌) x y)
    → ◌≡◌ {A = ℕ × ℕ} (length x, 0) (length y, 0)
one_partial_degree x y e = ap (λ t. (length t, 0)) (same_entries x y e)

-- the partial permutations of one degree have an associative product
pub partial_products : (one : ℕ × ℕ)
    → IsProduct (λ x. let s : ℕ × ℕ = (length x, 0) in s ≡ one) partially_composed
    (pointwise (option_eq ◌==◌))
partial_products one = record {
  shape = λ x y h _. ap (λ n. let s : ℕ × ℕ = (n, 0) in s) (length-map x (partial_image y)) ∙ h;
  associative = λ x y z _ _ _. equal_entries _ _ (partially_composed-associative y z x);
  kept = λ x y z w _ _ _ _ p q. let e = same_entries x y p in let d = same_entries z w q in
      equal_entries (partially_composed x z) (partially_composed y w) (Prim.cc);
  reflexive = λ x. equal_entries x x refl;
  symmetric = λ x y p. equal_entries _ _ (sym (same_entries x y p));
  transitive = λ x y z p q. equal_entries _ _ (same_entries x y p ∙ same_entries y z q);
}
