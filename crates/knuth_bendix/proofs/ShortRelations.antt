-- Relations whose sides are within a bound.
use Rattle.std.proofs.Common.{◌≡◌, ℕ, add-one, ◌+◌, ◌<◌, ◌≤◌, Bool, true, false, List, [], ◌∷◌, ◌++◌, length, take, get_or, sym, ◌∙◌, ap, subst, subst₂, ◌⊎◌, inl, inr, IsTrue, ◌↔◌}
use Rattle.std.specs.List.Sorted.{IsPermutation}
use Rattle.std.proofs.Math.Seq.{take-suc}
use Rattle.std.proofs.lemmas.List.Elements.{Contains-append_left, Contains-push, Contains-push_cases}
use Rattle.std.proofs.lemmas.List.Sorted.{Contains-permutation, IsPermutation-sym}
use Rattle.theory.specs.Word.{Word}
use Rattle.theory.specs.Completion.{Listed}
use Rattle.knuth_bendix.specs.Runs.{AreShortRelations}

-- one more that is within the bound
short_more : (L : ℕ) (relations equations : List (Word × Word)) (q : Word × Word) → (length q.0 ≤ L) × (length q.1 ≤ L)
    → AreShortRelations L relations equations → AreShortRelations L (relations ++ q ∷ []) (equations ++ q ∷ [])
short_more L relations equations q short h =
    record {
      all = λ r s m left right. elim (Contains-push_cases relations q (r, s) m) [
        | inl n ↦ Contains-append_left equations (q ∷ []) (r, s) (h.all r s n left right)
        | inr e ↦ subst (λ (p : Word × Word). Listed (equations ++ q ∷ []) p.0 p.1) e (Contains-push equations q)
      ];
      are = λ r s m. elim (Contains-push_cases equations q (r, s) m) [
        | inl n ↦ let are = h.are r s n in (Contains-append_left relations (q ∷ []) (r, s) are.0, are.1, are.2)
        | inr e ↦ subst (λ (p : Word × Word). Listed (relations ++ q ∷ []) p.0 p.1 × (length p.0 ≤ L) × (length p.1 ≤ L)) e (Contains-push relations q, short.0, short.1)
      ];
    }

-- one more that is not
long_more : (L : ℕ) (relations equations : List (Word × Word)) (q : Word × Word) → ((length q.0 ≤ L) × (length q.1 ≤ L) → ⊥)
    → AreShortRelations L relations equations → AreShortRelations L (relations ++ q ∷ []) equations
long_more L relations equations q long h =
    record {
      all = λ r s m left right. elim (Contains-push_cases relations q (r, s) m) [
        | inl n ↦ h.all r s n left right
        | inr e ↦ absurd (subst (λ (p : Word × Word). (length p.0 ≤ L) × (length p.1 ≤ L) → ⊥) e long (left, right))
      ];
      are = λ r s m. let are = h.are r s m in (Contains-append_left relations (q ∷ []) (r, s) are.0, are.1, are.2);
    }

-- the order of the equations does not count
short_moved : (L : ℕ) (relations old new : List (Word × Word)) → IsPermutation old new → AreShortRelations L relations old
    → AreShortRelations L relations new
short_moved L relations old new moved h =
    record {
      all = λ r s m left right. Contains-permutation old new (r, s) moved (h.all r s m left right);
      are = λ r s m. h.are r s (Contains-permutation new old (r, s) (IsPermutation-sym old new moved) m);
    }

-- the relation at a place, by whether it is short
pub short_step : (L : ℕ) (relations equations newer : List (Word × Word)) (place : ℕ) (q : Word × Word) (short : Bool)
    → place < length relations → q ≡ get_or relations place q → IsTrue short ↔ ((length q.0 ≤ L) × (length q.1 ≤ L))
    → ((short ≡ true) × IsPermutation (equations ++ q ∷ []) newer) ⊎ ((short ≡ false) × (newer ≡ equations))
    → AreShortRelations L (take place relations) equations → AreShortRelations L (take (place + 1) relations) newer
short_step L relations equations newer place q short within read is then h =
    let more : take (place + 1) relations ≡ take place relations ++ q ∷ [] =
    rw add-one (take-suc relations place q within ∙ ap (λ (p : Word × Word). take place relations ++ p ∷ []) (sym read)) in
    elim then [
      | inl t ↦ subst (λ (rs : List (Word × Word)). AreShortRelations L rs newer) (sym more)
          (short_moved L (take place relations ++ q ∷ []) (equations ++ q ∷ []) newer t.1
          (short_more L (take place relations) equations q (is.0 t.0) h))
      | inr f ↦ subst₂ (λ (rs es : List (Word × Word)). AreShortRelations L rs es) (sym more) (sym f.1)
          (long_more L (take place relations) equations q (λ b. differ (is.1 b) f.0) h)
    ]
  where
    differ : short ≡ true → short ≡ false → ⊥
    differ t f = let e : true ≡ false = sym t ∙ f in cc
