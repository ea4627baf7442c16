-- Rows of entries, which are a number or none, and rows that stand in one list.
use Rattle.std.specs.Prelude.{◌≡◌, ℕ, zero, suc, ◌++◌, All, List, [], ◌∷◌, length, take, drop, replicate, Option, None, slice_set, slice_index_or}
use Rattle.std.specs.List.{flat_map}
use Rattle.theory.specs.Graph.{Graph, target}

-- the first rows of k entries each
abbrev pub rows_of : ℕ → ℕ → List (Option ℕ) → Graph
rows_of k zero xs = []
rows_of k (suc n) xs = take k xs ∷ rows_of k n (drop k xs)

-- the entries of rows, row after row
abbrev pub flat : Graph → List (Option ℕ)
flat = flat_map (λ row. row)

-- n rows of k entries each
pub record AreRows (n k : ℕ) (g : Graph) : Type 0 where
  pub count : length g ≡ n
  pub width : All (λ row. length row ≡ k) g

-- g with the entry x at the node j and letter a
abbrev pub with_entry : Graph → ℕ → ℕ → Option ℕ → Graph
with_entry g j a x = slice_set g j (slice_set (slice_index_or g j []) a x)

-- g with a further node without edges
abbrev pub with_node : ℕ → Graph → Graph
with_node k g = g ++ replicate k None ∷ []

-- new is old but for the entry x at the node j and letter a
pub record IsPut (old new : Graph) (j a : ℕ) (x : Option ℕ) : Type 0 where
  pub put : target new j a ≡ x
  pub other : (n b : ℕ) → ((n ≡ j) × (b ≡ a) → ⊥) → target new n b ≡ target old n b
