-- Targets where an edge is added, and in graphs.
use Rattle.std.proofs.Common.{◌≡◌, ◌≢◌, ℕ, ◌<◌, ◌≤◌, refl, sym, ◌∙◌, arith, [], Some, None, length, get_or, ◌⊎◌, inl, inr}
use Rattle.std.proofs.lemmas.Bool.{cases_lt}
use Rattle.theory.specs.Graph.{Graph, target, IsGraph}
use Rattle.cells.specs.Rows.{AreRows}
use Rattle.cells.proofs.EntryLaws.{graph_put, letters_past, rows_past, target_beside, target_put}
use Rattle.word_graph.specs.Edges.{with_edge}

pub target_edged : (g : Graph) (j a m : ℕ) → j < length g → a < length (get_or g j []) → target (with_edge g j a m) j a ≡ Some m
target_edged g j a m = target_put g j a (Some m)

pub target_other : (g : Graph) (j a m n b : ℕ) → j < length g → (n ≢ j) ⊎ (b ≢ a) → target (with_edge g j a m) n b ≡ target g n b
target_other g j a m n b hj (inl h) = target_beside g j a (Some m) n b hj (λ e. h e.0)
target_other g j a m n b hj (inr h) = target_beside g j a (Some m) n b hj (λ e. h e.1)

-- an edge lies within the graph
pub target_in : (k : ℕ) (g : Graph) → IsGraph k g → (n a m : ℕ) → target g n a ≡ Some m → (n < length g) × (a < k) × (m < length g)
target_in k g is n a m e = (inside (cases_lt n (length g)), letter (cases_lt a k), is.nodes n a m e)
  where
    rows : AreRows (length g) k g
    rows = record { count = refl; width = is.width }

    inside : (n < length g) ⊎ (length g ≤ n) → n < length g
    inside (inl h) = h
    inside (inr h) = let e' : None ≡ Some m = sym (rows_past (length g) k g rows n a h) ∙ e in cc

    letter : (a < k) ⊎ (k ≤ a) → a < k
    letter (inl h) = h
    letter (inr h) = let e' : None ≡ Some m = sym (letters_past (length g) k g rows n a h) ∙ e in cc

pub graph_edged : (k : ℕ) (g : Graph) (j a m : ℕ) → IsGraph k g → j < length g → a < k → m < length g → IsGraph k (with_edge g j a m)
graph_edged k g j a m is hj ha hm = graph_put k g j a (Some m) is hj ha (λ t e. let same : m ≡ t = cc in omega (arith, same, hm))
