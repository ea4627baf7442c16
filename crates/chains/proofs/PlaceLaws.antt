-- A word that is put among others, unless it stands there.
use Rattle.std.proofs.Common.{◌≡◌, ℕ, Bool, true, false, not, if◌then◌else◌, List, [], ◌∷◌, ◌++◌, nat_eq, refl, sym, ◌∙◌, ap, subst, Some, Contains, slice_get, true≢false}
use Rattle.std.specs.Cmp.Lexicographic.{pointwise, nat_list_eq_equiv}
use Rattle.std.specs.List.{list_any}
use Rattle.std.proofs.lemmas.Bool.Decides.{Decides-eqb}
use Rattle.std.proofs.lemmas.Map.Views.{list_any-from_Contains}
use Rattle.std.proofs.lemmas.Slice.Eq.{slice_eq-Decides}
use Rattle.indexmap.specs.IndexSet.{insert_key}
use Rattle.theory.specs.Word.{Word}

same_word : (x y : Word) → pointwise nat_eq x y ≡ true → x ≡ y
same_word x y e = (slice_eq-Decides Decides-eqb x y (pointwise nat_eq x y) refl).0 e

-- whether the word is new
module _ (words new : List Word) (word : Word) (is_new : Bool) (tells : is_new ≡ not (list_any (pointwise nat_eq word) words))
    (put : new ≡ insert_key (pointwise nat_eq) words word) where
  stands : is_new ≡ false → list_any (pointwise nat_eq word) words ≡ true
  stands known = by (list_any (pointwise nat_eq word) words) (sym tells ∙ known)
    where
      by : (b : Bool) → not b ≡ false → b ≡ true
      by true e = refl
      by false e = absurd (true≢false e)

  lacks : is_new ≡ true → list_any (pointwise nat_eq word) words ≡ false
  lacks known = by (list_any (pointwise nat_eq word) words) (sym tells ∙ known)
    where
      by : (b : Bool) → not b ≡ true → b ≡ false
      by true e = absurd (true≢false (sym e))
      by false e = refl

  -- then it is the last one
  pub new_last : is_new ≡ true → new ≡ words ++ word ∷ []
  new_last known = put ∙ ap (λ (b : Bool). if b then words else words ++ word ∷ []) (lacks known)

  pub new_nowhere : is_new ≡ true → Contains words word → ⊥
  new_nowhere known among = true≢false (sym (list_any-from_Contains nat_list_eq_equiv word words among) ∙ lacks known)

  -- else the words stay, and it stands at its place
  pub old_stay : is_new ≡ false → new ≡ words
  old_stay known = put ∙ ap (λ (b : Bool). if b then words else words ++ word ∷ []) (stands known)

  pub old_place : is_new ≡ false → (place : ℕ) → (k : Word) × (slice_get new place ≡ Some k) × (pointwise nat_eq word k ≡ true) → slice_get words place ≡ Some word
  old_place known place stored =
      subst (λ (ws : List Word). slice_get ws place ≡ Some word) (old_stay known) (stored.1 ∙ ap (λ (w : Word). Some w) (sym (same_word word stored.0 stored.2)))
