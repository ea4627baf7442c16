-- Classes read off a complete table.
use Rattle.std.proofs.Common.{◌≡◌, ℕ, ◌<◌, ◌≤◌, zero, suc, [], ◌∷◌, ◌++◌, length, sym, ◌∙◌, ap, subst, arith, Some, option_and_then, append-nil, append_assoc}
use Rattle.theory.specs.Word.{Word, IsOver}
use Rattle.theory.specs.Congruence.{Congruence, IsRightSided}
use Rattle.theory.specs.Chain.{Related}
use Rattle.theory.specs.Graph.{Graph, target, path}
use Rattle.theory.proofs.Chains.{related_congruence}
use Rattle.theory.proofs.Related.{related_behind}

-- a word for each of n nodes, that of the root empty, and each edge leads to a related one
module _ (c : Congruence) (right : IsRightSided c) (g : Graph) (n : ℕ) (word : ℕ → Word)
    (edges : (node a : ℕ) → node < n → a < c.presentation.letters → (next : ℕ) × (next < n) × (target g node a ≡ Some next) × Related c (word node ++ a ∷ []) (word next))
  where
    path_from : (u : Word) (node : ℕ) → node < n → IsOver c.presentation.letters u
        → (m : ℕ) × (m < n) × (path g node u ≡ Some m) × Related c (word node ++ u) (word m)
    path_from [] node l over = (
      node,
      l,
      (λ i. Some node),
      subst (λ w. Related c w (word node)) (sym (append-nil (word node))) ((related_congruence c).reflexive (word node)),
    )
    path_from (a ∷ u) node l over =
        let e = edges node a l over.0 in
        let rest = path_from u e.0 e.1 over.1 in (
          rest.0,
          rest.1,
          ap (option_and_then (λ m. path g m u)) e.2 ∙ rest.2,
          (related_congruence c).transitive (word node ++ a ∷ u) (word e.0 ++ u) (word rest.0)
              (subst (λ w. Related c w (word e.0 ++ u)) (append_assoc (word node) (a ∷ []) u) (related_behind c right (word node ++ a ∷ []) (word e.0) u e.3))
              rest.3,
        )

    -- each word is related to that of the node to which it leads
    pub leads_to : 0 < n → word 0 ≡ [] → (u : Word) → IsOver c.presentation.letters u
        → (m : ℕ) × (m < n) × (path g 0 u ≡ Some m) × Related c u (word m)
    leads_to some root u over =
        let at = path_from u 0 some over in
        (at.0, at.1, at.2, subst (λ w. Related c (w ++ u) (word at.0)) root at.3)

-- the words of at most two letters over two letters
pub two_letters : (P : Word → Type 0) → P [] → P (0 ∷ []) → P (1 ∷ []) → P (0 ∷ 0 ∷ []) → P (0 ∷ 1 ∷ []) → P (1 ∷ 0 ∷ []) → P (1 ∷ 1 ∷ [])
    → (v : Word) → IsOver 2 v → length v ≤ 2 → P v
two_letters P n a b aa ab ba bb [] over h = n
two_letters P n a b aa ab ba bb (zero ∷ []) over h = a
two_letters P n a b aa ab ba bb (suc zero ∷ []) over h = b
two_letters P n a b aa ab ba bb (suc (suc x) ∷ v) over h = absurd (omega (arith, over.0))
two_letters P n a b aa ab ba bb (zero ∷ zero ∷ []) over h = aa
two_letters P n a b aa ab ba bb (zero ∷ suc zero ∷ []) over h = ab
two_letters P n a b aa ab ba bb (suc zero ∷ zero ∷ []) over h = ba
two_letters P n a b aa ab ba bb (suc zero ∷ suc zero ∷ []) over h = bb
two_letters P n a b aa ab ba bb (zero ∷ suc (suc x) ∷ v) over h = absurd (omega (arith, over.1.0))
two_letters P n a b aa ab ba bb (suc zero ∷ suc (suc x) ∷ v) over h = absurd (omega (arith, over.1.0))
two_letters P n a b aa ab ba bb (x ∷ y ∷ z ∷ v) over h = absurd (omega arith)
