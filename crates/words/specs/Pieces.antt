-- The pieces in which a word is hashed.
use Rattle.std.specs.Prelude.{◌≡◌, ℕ, zero, suc, ◌*◌, ◌/◌, List, [], ◌∷◌, ◌++◌, drop, length, nat_eq, take, IsTrue}
use Rattle.std.specs.Cmp.Lexicographic.{pointwise}
use Rattle.std.specs.Hash as fed
use Rattle.std.proofs.Common.{ap, refl}
use Rattle.std.proofs.lemmas.Bool.Decides.{Decides-eqb}
use Rattle.std.proofs.lemmas.Slice.Eq.{slice_eq-Decides}

-- the first pieces of the letters, thirty-two letters each; the last may have fewer
abbrev pub pieces : ℕ → List ℕ → fed.HashWrites
pieces zero letters = []
pieces (suc n) letters = pieces n letters ++ take 32 (drop (n * 32) letters) ∷ []

-- all of them
abbrev pub letters_hash : List ℕ → fed.HashWrites
letters_hash letters = pieces (suc (length letters / 32)) letters

pub same_letters_hash : (u v : List ℕ) → IsTrue (pointwise nat_eq u v)
    → letters_hash u ≡ letters_hash v
same_letters_hash u v equal =
    ap letters_hash ((slice_eq-Decides Decides-eqb u v (pointwise nat_eq u v) refl).0 equal)
