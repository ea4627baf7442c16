-- Pieces in a row, with one more.
use Rattle.std.proofs.Common.{◌≡◌, ℕ, zero, suc, ◌+◌, ◌<◌, ◌≤◌, List, [], ◌∷◌, ◌++◌, length, get_or, take, sym, ap, ◌∙◌, arith, append-nil, append_assoc}
use Rattle.std.proofs.lemmas.List.{take_more}
use Rattle.std.proofs.lemmas.List.Concat.{flat_map-append}
use Rattle.std.specs.List.{join_by}

module _ {X A : Type 0} (f : X → List A) (between : List A) where
  push_first : (xs : List X) (y : X) → length xs ≤ 0 → join_by f between xs ++ f y ≡ join_by f between (xs ++ y ∷ [])
  push_first [] y h = sym (append-nil (f y))
  push_first (x ∷ xs) y h = absurd (omega arith)

  push_more : (xs : List X) (y : X) → 0 < length xs → (join_by f between xs ++ between) ++ f y ≡ join_by f between (xs ++ y ∷ [])
  push_more [] y h = absurd (omega arith)
  push_more (x ∷ xs) y h = rw (flat_map-append (λ z. between ++ f z) xs (y ∷ []), append-nil) (simp append_assoc)

  pub joined_first : (xs : List X) (i : ℕ) (d : X) → i ≤ 0 → i < length xs → join_by f between (take i xs) ++ f (get_or xs i d) ≡ join_by f between (take (i + 1) xs)
  joined_first xs zero d none h = push_first [] (get_or xs 0 d) (omega arith) ∙ ap (join_by f between) (sym (take_more xs 0 d h))
  joined_first xs (suc i) d none h = absurd (omega arith)

  pub joined_more : (xs : List X) (i : ℕ) (d : X) → 0 < i → i < length xs → (join_by f between (take i xs) ++ between) ++ f (get_or xs i d) ≡ join_by f between (take (i + 1) xs)
  joined_more [] i d some h = absurd (omega arith)
  joined_more (x ∷ xs) zero d some h = absurd (omega arith)
  joined_more (x ∷ xs) (suc i) d some h = push_more (x ∷ take i xs) (get_or xs i d) (omega arith) ∙ ap (join_by f between) (sym (take_more (x ∷ xs) (suc i) d h))
