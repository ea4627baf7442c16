-- Lists that grow by what a list has, one after another.
use Rattle.std.proofs.Common.{◌≡◌, ℕ, ◌+◌, ◌<◌, List, [], ◌∷◌, ◌++◌, length, map, take, get_or, sym, ap, ◌∙◌, append_assoc}
use Rattle.std.proofs.lemmas.List.{map_more}

pub pushed_more : {A B : Type 0} (f : A → B) (xs : List A) (i : ℕ) (d : A) (begun old new : List B) → i < length xs → new ≡ old ++ f (get_or xs i d) ∷ []
    → old ≡ begun ++ map f (take i xs) → new ≡ begun ++ map f (take (i + 1) xs)
pushed_more f xs i d begun old new h pushed so_far =
    pushed ∙ ap (λ ys. ys ++ f (get_or xs i d) ∷ []) so_far ∙ append_assoc begun (map f (take i xs)) (f (get_or xs i d) ∷ []) ∙ ap (λ ys. begun ++ ys) (sym (map_more f xs i d h))
