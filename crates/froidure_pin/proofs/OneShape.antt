-- Lists whose values are each held against the first.
use Rattle.std.proofs.Common.{◌≡◌, ℕ, zero, suc, ◌<◌, List, [], ◌∷◌, length, get_or, refl, sym, ap, ◌∙◌, arith}
use Rattle.elements.specs.Generators.{HaveOneShape}

-- within a list the default does not matter
pub get_any : {A : Type 0} (xs : List A) (i : ℕ) (d e : A) → i < length xs → get_or xs i d ≡ get_or xs i e
get_any [] i d e h = absurd (omega arith)
get_any (x ∷ xs) zero d e h = refl
get_any (x ∷ xs) (suc i) d e h = get_any xs i d e (omega arith)

-- a value of a list that has some
pub some_value : {V : Type 0} (xs : List V) → 0 < length xs → V
some_value [] h = absurd (omega arith)
some_value (x ∷ xs) h = x

module _ {V : Type 0} (shape : V → ℕ × ℕ) (xs : List V) where
  pub all_as_first : ((k : ℕ) (unused : V) → k < length xs → shape (get_or xs 0 unused) ≡ shape (get_or xs k unused)) → HaveOneShape shape xs
  all_as_first h = λ i j unused i_in j_in. sym (h i unused i_in) ∙ h j unused j_in

  pub as_first : (i : ℕ) (x y unused : V) → i < length xs → get_or xs 0 x ≡ x → get_or xs i y ≡ y → shape x ≡ shape y → shape (get_or xs 0 unused) ≡ shape (get_or xs i unused)
  as_first i x y unused within first at e = ap shape (get_any xs 0 unused x (omega arith) ∙ first) ∙ e ∙ sym (ap shape (get_any xs i unused y within ∙ at))

  pub one_as_first : (i : ℕ) (x y : V) → i < length xs → get_or xs 0 x ≡ x → get_or xs i y ≡ y → HaveOneShape shape xs → shape x ≡ shape y
  one_as_first i x y within first at h = sym (ap shape first) ∙ h 0 i x (omega arith) within ∙ ap shape (get_any xs i x y within ∙ at)
