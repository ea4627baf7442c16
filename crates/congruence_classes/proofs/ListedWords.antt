-- Words of a list in order, by their places.
use Rattle.std.proofs.Common.{ℕ, zero, suc, ◌<◌, List, [], ◌∷◌, length, arith, get_or, Option, None, Some}
use Rattle.theory.specs.Word.{Word}
use Rattle.theory.specs.ShortLex.{◌≺◌}
use Rattle.theory.specs.Listing.{IsAfter, IsListOf}
use Rattle.theory.proofs.Words.{before_trans}

module _ (P : Word → Type 0) where
  pub listed_at : (cursor : Option Word) (words : List Word) → IsListOf P ◌≺◌ cursor words → (i : ℕ) → i < length words
      → P (get_or words i []) × IsAfter ◌≺◌ cursor (get_or words i [])
  listed_at cursor [] listed i h = absurd (omega arith)
  listed_at cursor (w ∷ words) listed zero h = (listed.0.has, listed.0.after)
  listed_at cursor (w ∷ words) listed (suc i) h =
      let further = listed_at (Some w) words listed.1 i (omega arith) in
      (further.0, after cursor (get_or words i []) listed.0.after further.1)
    where
      after : (c : Option Word) (v : Word) → IsAfter ◌≺◌ c w → w ≺ v → IsAfter ◌≺◌ c v
      after None v first less = tt
      after (Some u) v first less = before_trans u w v first less

  pub listed_ascend : (cursor : Option Word) (words : List Word) → IsListOf P ◌≺◌ cursor words → (i j : ℕ) → i < j → j < length words
      → get_or words i [] ≺ get_or words j []
  listed_ascend cursor [] listed i j less h = absurd (omega arith)
  listed_ascend cursor (w ∷ words) listed i zero less h = absurd (omega arith)
  listed_ascend cursor (w ∷ words) listed zero (suc j) less h = (listed_at (Some w) words listed.1 j (omega arith)).1
  listed_ascend cursor (w ∷ words) listed (suc i) (suc j) less h = listed_ascend (Some w) words listed.1 i j (omega arith) (omega arith)
