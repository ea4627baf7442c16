-- Complete graphs as lists of targets.
use Rattle.std.specs.Prelude.{◌≡◌, ℕ, zero, suc, List, [], ◌∷◌, length, take, drop, All}
use Rattle.std.specs.List.{flat_map}
use Rattle.std.specs.Option.{option_to_list}
use Rattle.theory.specs.Graph.{Graph}
use Rattle.theory.specs.LowIndex.{Rows}

-- k targets in each row
abbrev pub HasWidth : ℕ → Rows → Type 0
HasWidth k = All (λ row. length row ≡ k)

-- the nodes that edges lead to, row after row
abbrev pub targets_of : Graph → List ℕ
targets_of = flat_map (flat_map option_to_list)

-- the targets cut into so many rows of k
abbrev pub cut : ℕ → ℕ → List ℕ → Rows
cut k zero targets = []
cut k (suc n) targets = take k targets ∷ cut k n (drop k targets)
