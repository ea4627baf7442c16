-- Where front parts stand to a cursor.
use Rattle.std.proofs.Common.{◌≡◌, ℕ, ◌+◌, ◌<◌, ◌≤◌, List, [], ◌∷◌, ◌++◌, length, take, drop, get_or, refl, sym, ◌∙◌, ap, subst, subst₂, arith, append_assoc}
use Rattle.std.proofs.lemmas.List.{take_all, take-append-drop, drop_more}
use Rattle.sims_one.specs.Targets.{IsWithin}
use Rattle.sims_one.specs.Search.{Before}
use Rattle.sims_one.proofs.FrontLaws.{before_heads}
use Rattle.sims_one.proofs.CutLaws.{before_front}

-- the target at a place between the others
pub at_place : (t : List ℕ) (i : ℕ) → i < length t → t ≡ take i t ++ get_or t i 0 ∷ drop (i + 1) t
at_place t i less = sym (take-append-drop i t) ∙ ap (λ (xs : List ℕ). take i t ++ xs) (drop_more t i 0 less)

behind_place : (t u : List ℕ) (i : ℕ) → i < length t → (w : IsWithin t u) → u ≡ take i t ++ get_or t i 0 ∷ (drop (i + 1) t ++ w.rest)
behind_place t u i less w =
    w.is ∙ ap (λ (xs : List ℕ). xs ++ w.rest) (at_place t i less) ∙ append_assoc (take i t) (get_or t i 0 ∷ drop (i + 1) t) w.rest

module _ (t c : List ℕ) (i : ℕ) (same : take i t ≡ take i c) where
  pub place_short : length c ≤ i → i < length t → (u : List ℕ) → IsWithin t u → Before c u
  place_short short less u w =
      let front : take i t ≡ c = same ∙ take_all i c short in
      let more = drop (i + 1) t ++ w.rest in
      subst (Before c) (sym (behind_place t u i less w ∙ ap (λ (xs : List ℕ). xs ++ get_or t i 0 ∷ more) front)) (before_front c (get_or t i 0) more)

  pub place_above : i < length t → i < length c → get_or c i 0 < get_or t i 0 → (u : List ℕ) → IsWithin t u → Before c u
  place_above in_t in_c less u w =
      subst₂ Before (sym (at_place c i in_c)) (sym (behind_place t u i in_t w ∙ ap (λ (xs : List ℕ). xs ++ get_or t i 0 ∷ (drop (i + 1) t ++ w.rest)) same))
      (before_heads (take i c) (get_or c i 0) (get_or t i 0) (drop (i + 1) c) (drop (i + 1) t ++ w.rest) less)

  pub place_below : i < length t → i < length c → get_or t i 0 < get_or c i 0 → (u : List ℕ) → IsWithin t u → Before u c
  place_below in_t in_c less u w =
      subst₂ Before (sym (behind_place t u i in_t w ∙ ap (λ (xs : List ℕ). xs ++ get_or t i 0 ∷ (drop (i + 1) t ++ w.rest)) same)) (sym (at_place c i in_c))
      (before_heads (take i c) (get_or t i 0) (get_or c i 0) (drop (i + 1) t ++ w.rest) (drop (i + 1) c) less)

  pub place_along : length t ≤ i → IsWithin t c
  place_along all = record { rest = drop i c; is = sym (take-append-drop i c) ∙ ap (λ (xs : List ℕ). xs ++ drop i c) (sym same ∙ take_all i t all) }

pub place_none : (c u : List ℕ) → length c ≡ 0 → 0 < length u → Before c u
place_none [] [] none some = absurd (omega arith)
place_none [] (x ∷ u) none some = refl
place_none (x ∷ c) u none some = absurd (omega arith)
