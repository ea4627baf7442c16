-- Idempotents of H-classes (Howie 1995, corollary 2.2.6).
use Rattle.std.specs.Prelude.{◌≡◌, ℕ, ◌<◌, Bool, true, false, List, length, slice_index, slice_index_or, Option, Some, None}
use Rattle.froidure_pin.specs.declared.tables.CayleyTables.{CayleyTables}
use Rattle.green.specs.Related.{AreRelated, IsIdempotentAt}
use Rattle.theory.specs.declared.Relation.TheVariants.{H}

-- this is the idempotent in the H-class of a number, or there is none
abbrev pub IsIdempotentIn : CayleyTables → ℕ → Option ℕ → Type 0
IsIdempotentIn t i None = (e : ℕ) → IsIdempotentAt t e → AreRelated H t i e → ⊥
IsIdempotentIn t i (Some p) = IsIdempotentAt t p
    × ((e : ℕ) → IsIdempotentAt t e → AreRelated H t i e → e ≡ p)

-- a number is marked
abbrev pub IsMarked : List Bool → ℕ → Type 0
IsMarked marks i = slice_index_or marks i false ≡ true

-- what is marked is idempotent, and what is idempotent and in the H-class of a number below m is
-- marked; names that are seen are those of such numbers
pub record AreMarked (t : CayleyTables) (names : List ℕ) (m : ℕ)
    (seen marks : List Bool) : Type 0 where
  pub seen_count : length seen ≡ length names
  pub count : length marks ≡ length t.words
  pub sound : (i : ℕ) → IsMarked marks i → IsIdempotentAt t i
  pub complete : (i e : ℕ) → i < m → IsIdempotentAt t e → AreRelated H t i e → IsMarked marks e
  pub known : (name : ℕ) → IsMarked seen name
      → (i : ℕ) × (i < m) × (slice_index names i ≡ name)
