-- Pairs of numbers that wait to be merged.
use Rattle.std.specs.Prelude.{◌≡◌, ℕ, zero, suc, ◌<◌, List, [], ◌∷◌, ◌++◌, Contains}
use Rattle.congruence_closure.specs.Labels.{AreLabels}
use Rattle.congruence_closure.specs.Maps.{MapList, KeptBy}

-- the images of two numbers under the first maps
abbrev pub images : MapList → ℕ → ℕ → ℕ → List (ℕ × ℕ)
images m i j zero = []
images m i j (suc a) = images m i j a ++ (m.image i a, m.image j a) ∷ []

-- the labels, and the pairs that wait, lead from one number to the other
pub data Linking (label : ℕ → ℕ) (waiting : List (ℕ × ℕ)) : ℕ → ℕ → Type 0 where
  alike : {i j : ℕ} → label i ≡ label j → Linking label waiting i j
  waits : {i j : ℕ} → Contains waiting (i, j) → Linking label waiting i j
  back : {i j : ℕ} → Linking label waiting i j → Linking label waiting j i
  on : {i j l : ℕ} → Linking label waiting i j → Linking label waiting j l
      → Linking label waiting i l

-- what was merged is related, what waits too; and no more is to be merged than what waits
pub record IsClosing (m : MapList) (pairs : List (ℕ × ℕ)) (parents : List ℕ)
    (waiting : List (ℕ × ℕ)) : Type 0 where
  pub label : ℕ → ℕ
  pub labels : AreLabels label parents
  pub merged : (i j : ℕ) → i < m.bound → j < m.bound → label i ≡ label j → KeptBy m pairs i j
  pub due : (i j : ℕ) → Contains waiting (i, j) → KeptBy m pairs i j
  pub given : (i j : ℕ) → Contains pairs (i, j) → Linking label waiting i j
  pub kept : (i j a : ℕ) → a < m.count → i < m.bound → j < m.bound → label i ≡ label j
      → Linking label waiting (m.image i a) (m.image j a)
