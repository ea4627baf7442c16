-- Steps that are put in from the last one to the first.
use Rattle.std.proofs.Common.{◌≡◌, ℕ, ◌+◌, ◌<◌, ◌==◌, Bool, false, IsTrue, arith, List, [], ◌∷◌, ◌++◌, map, length, drop, get_or, reverse, sym, ◌∙◌, ap}
use Rattle.std.proofs.lemmas.List.{drop_more, reverse-append}

module _ {A : Type 0} (xs : List A) (place : ℕ) (none : A) (inside : place < length xs) where
  -- the next one from behind
  pub back_step : reverse (drop (place + 1) xs) ++ get_or xs place none ∷ [] ≡ reverse (drop place xs)
  back_step = sym (ap reverse (drop_more xs place none inside) ∙ reverse-append (get_or xs place none ∷ []) (drop (place + 1) xs))

  -- what is made of it
  pub made_back_step : {B : Type 0} (made : A → B)
      → reverse (map made (drop (place + 1) xs)) ++ made (get_or xs place none) ∷ [] ≡ reverse (map made (drop place xs))
  made_back_step made =
      sym (ap (λ ys. reverse (map made ys)) (drop_more xs place none inside)
      ∙ reverse-append (made (get_or xs place none) ∷ []) (map made (drop (place + 1) xs)))

-- whether steps are left, as a loop tests it
pub some_left : (left : ℕ) → false ≡ (left == 0) → 0 < left
some_left left test = grind (arith, test)

pub none_left : (left : ℕ) (empty : Bool) → empty ≡ (left == 0) → IsTrue empty → left ≡ 0
none_left left empty test is = grind (arith, test, is)
