-- The writes of numbers to a hasher, with one number more.
use Rattle.std.proofs.Common.{◌≡◌, ℕ, List, [], ◌∷◌, ◌++◌, fold, sym, ap, ◌∙◌}
use Rattle.std.specs.Hash as fed
use Rattle.std.proofs.lemmas.List.Concat.{flat_map-append}
use Rattle.elements.specs.Hashes.{numbers_hash}

pub writes_more : {S : Type 0} (write : S → List ℕ → S) (s t u : S) (before after : List ℕ) (n : ℕ) → after ≡ before ++ n ∷ [] → t ≡ fold write s (numbers_hash before) → u ≡ fold write t (fed.u64 n) → u ≡ fold write s (numbers_hash after)
writes_more write s t u before after n more so_far written =
    fed.fed_then write s t u (numbers_hash before) (fed.u64 n) so_far written
    ∙ ap (fold write s) (sym (flat_map-append fed.u64 before (n ∷ []))) ∙ ap (λ ns. fold write s (numbers_hash ns)) (sym more)
