-- The classes of the monoid with one generator of order three.
use Rattle.std.proofs.Common.{◌≡◌, ◌≢◌, ℕ, zero, suc, [], ◌∷◌, refl, sym, subst, arith, inl, inr, Some}
use Rattle.theory.specs.Word.{Word, IsOver}
use Rattle.theory.specs.ShortLex.{◌≺◌}
use Rattle.theory.specs.Chain.{Related}
use Rattle.theory.specs.Class.{SameClass, IsLeast, IsClassList, HasIndex}
use Rattle.theory.specs.Graph.{path}
use Rattle.theory.specs.Examples.{a1, a2, cyclic}
use Rattle.theory.proofs.ClassLaws.{same_class_equivalence, list_from_least}
use Rattle.theory.proofs.Chains.{related_congruence}
use Rattle.theory.proofs.Counting.{IsIn, in_from_contains}
use Rattle.theory.proofs.HltLaws.{hlt_related, hlt_covers}
use Rattle.theory.proofs.CyclicExample.{one_letter_shorter}
use Rattle.theory.proofs.CyclicRows.{cyclic_is, ring, all_rows, over_3, apart, all_rows_met}

-- words that end at two nodes of the ring are of two classes
classes_apart : (u v : Word) (n m : ℕ) → IsOver 1 u → path ring 0 u ≡ Some n → path ring 0 v ≡ Some m → n ≢ m → Related cyclic u v → ⊥
classes_apart u v n m over p q ne r =
    apart all_rows (omega arith) over_3 u v n m p q ne ((hlt_related cyclic all_rows cyclic_is (inl refl) (inl all_rows_met) u v over).1 r)

itself : (u : Word) → IsOver 1 u → SameClass cyclic u u
itself u over = record { left = over; right = over; related = (related_congruence cyclic).reflexive u }

over_1 : IsOver 1 a1
over_1 = (omega arith, tt)

over_2 : IsOver 1 a2
over_2 = (omega arith, (omega arith, tt))

empty_least : IsLeast (SameClass cyclic) []
empty_least = record { element = itself [] tt; none_less = λ v r less. omega (arith, one_letter_shorter v [] r.right tt less) }

one_least : IsLeast (SameClass cyclic) a1
one_least = record { element = itself a1 over_1; none_less = none }
  where
    none : (v : Word) → SameClass cyclic a1 v → v ≺ a1 → ⊥
    none [] r less = classes_apart a1 [] 1 0 over_1 refl refl (λ e. omega arith) r.related
    none (b ∷ v) r less = omega (arith, one_letter_shorter (b ∷ v) a1 r.right over_1 less)

two_least : IsLeast (SameClass cyclic) a2
two_least = record { element = itself a2 over_2; none_less = none }
  where
    none : (v : Word) → SameClass cyclic a2 v → v ≺ a2 → ⊥
    none [] r less = classes_apart a2 [] 2 0 over_2 refl refl (λ e. omega arith) r.related
    none (suc b ∷ v) r less = omega (arith, r.right.0)
    none (zero ∷ []) r less = classes_apart a2 a1 2 1 over_2 refl refl (λ e. omega arith) r.related
    none (zero ∷ d ∷ v) r less = omega (arith, one_letter_shorter (zero ∷ d ∷ v) a2 r.right over_2 less)

-- the classes are those of 1, a and aa
pub three_classes : IsClassList (SameClass cyclic) ([] ∷ a1 ∷ a2 ∷ [])
three_classes = list_from_least (SameClass cyclic) (same_class_equivalence cyclic) ([] ∷ a1 ∷ a2 ∷ []) (tt, (refl, (refl, tt))) has covers
  where
    has : (y : Word) → IsIn y ([] ∷ a1 ∷ a2 ∷ []) → IsLeast (SameClass cyclic) y
    has y (inl e) = subst (λ x. IsLeast (SameClass cyclic) x) (sym e) empty_least
    has y (inr (inl e)) = subst (λ x. IsLeast (SameClass cyclic) x) (sym e) one_least
    has y (inr (inr (inl e))) = subst (λ x. IsLeast (SameClass cyclic) x) (sym e) two_least
    has y (inr (inr (inr h))) = absurd h

    covers : (u : Word) → SameClass cyclic u u → (w : Word) × IsIn w ([] ∷ a1 ∷ a2 ∷ []) × SameClass cyclic u w
    covers u h = let at = hlt_covers cyclic all_rows (inl refl) all_rows_met u h.left in elim (in_from_contains at.0 all_rows at.1) [
      | inl e ↦ (a2, inr (inr (inl refl)), record { left = h.left; right = over_2; related = subst (λ x. Related cyclic u x) e at.2 })
      | inr n ↦ elim n [
        | inl e ↦ (a1, inr (inl refl), record { left = h.left; right = over_1; related = subst (λ x. Related cyclic u x) e at.2 })
        | inr k ↦ elim k [
          | inl e ↦ ([], inl refl, record { left = h.left; right = tt; related = subst (λ x. Related cyclic u x) e at.2 })
          | inr x ↦ absurd x
        ]
      ]
    ]

pub index_three : HasIndex (SameClass cyclic) 3
index_three = ([] ∷ a1 ∷ a2 ∷ [], three_classes, refl)
