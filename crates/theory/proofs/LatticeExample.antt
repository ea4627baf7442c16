-- The meet and the join of two tables of the free monoid with one generator, and a table that is not two-sided.
use Rattle.std.proofs.Common.{◌≡◌, ℕ, zero, suc, ◌<◌, [], ◌∷◌, length, refl, subst, arith, Some}
use Rattle.std.proofs.lemmas.List.Elements.{All-cons, All-nil}
use Rattle.theory.specs.Word.{Word, IsOver}
use Rattle.theory.specs.Graph.{Graph, target, path, IsCompleteTable, PathsRelate}
use Rattle.theory.specs.LowIndex.{graph_of, IsStandard}
use Rattle.theory.specs.Lattice.{Meet, Join, IsProductOf}
use Rattle.theory.specs.TwoSidedTable.{IsTwoSidedTable}
use Rattle.theory.specs.Examples.{a1, a2, point_rows, swap_rows, tail_rows, tail_swap_rows, right_pair_rows}
use Rattle.theory.proofs.FreeTables.{free_tables}
use Rattle.theory.proofs.LatticeLaws.{standard_table, table_congruence, join_congruence, join_has_left, join_has_right, product_meet}

point : IsCompleteTable 1 (graph_of point_rows)
point = standard_table 1 point_rows free_tables.0.has.standard

swap : IsCompleteTable 1 (graph_of swap_rows)
swap = standard_table 1 swap_rows free_tables.1.0.has.standard

tail : IsCompleteTable 1 (graph_of tail_rows)
tail = standard_table 1 tail_rows free_tables.1.1.0.has.standard

-- the nodes of the meet stand for these nodes
abbrev in_swap : ℕ → ℕ
in_swap zero = 0
in_swap (suc zero) = 1
in_swap (suc (suc n)) = 0

abbrev in_tail : ℕ → ℕ
in_tail zero = 0
in_tail (suc n) = 1

abbrev both : Graph
both = graph_of tail_swap_rows

product : IsProductOf (graph_of swap_rows) (graph_of tail_rows) both in_swap in_tail
product = record { left_root = refl; right_root = refl; edges = edges; apart = apart }
  where
    edges : (node letter next : ℕ) → target both node letter ≡ Some next
        → (target (graph_of swap_rows) (in_swap node) letter ≡ Some (in_swap next)) × (target (graph_of tail_rows) (in_tail node) letter ≡ Some (in_tail next))
    edges zero zero next e = let same : 1 ≡ next = cc in subst (λ n. (Some 1 ≡ Some (in_swap n)) × (Some 1 ≡ Some (in_tail n))) same (refl, refl)
    edges zero (suc a) next e = cc
    edges (suc zero) zero next e = let same : 2 ≡ next = cc in subst (λ n. (Some 0 ≡ Some (in_swap n)) × (Some 1 ≡ Some (in_tail n))) same (refl, refl)
    edges (suc zero) (suc a) next e = cc
    edges (suc (suc zero)) zero next e = let same : 1 ≡ next = cc in subst (λ n. (Some 1 ≡ Some (in_swap n)) × (Some 1 ≡ Some (in_tail n))) same (refl, refl)
    edges (suc (suc zero)) (suc a) next e = cc
    edges (suc (suc (suc n))) letter next e = cc

    apart : (i j : ℕ) → i < 3 → j < 3 → in_swap i ≡ in_swap j → in_tail i ≡ in_tail j → i ≡ j
    apart zero zero hi hj p q = refl
    apart zero (suc j) hi hj p q = absurd (omega (arith, q))
    apart (suc i) zero hi hj p q = absurd (omega (arith, q))
    apart (suc zero) (suc zero) hi hj p q = refl
    apart (suc zero) (suc (suc j)) hi hj p q = absurd (omega (arith, p))
    apart (suc (suc i)) (suc zero) hi hj p q = absurd (omega (arith, p))
    apart (suc (suc i)) (suc (suc j)) hi hj p q = omega arith

meet_graph : IsCompleteTable 1 both
meet_graph = standard_table 1 tail_swap_rows standard
  where
    appears : (node : ℕ) → 0 < node → node < 3 → (before : ℕ) × (letter : ℕ) × (before < node) × (target both before letter ≡ Some node)
    appears zero h k = absurd (omega arith)
    appears (suc zero) h k = (0, 0, omega arith, refl)
    appears (suc (suc zero)) h k = (1, 0, omega arith, refl)
    appears (suc (suc (suc n))) h k = absurd (omega arith)

    standard : IsStandard 1 tail_swap_rows
    standard = record {
      rooted = omega arith;
      width =
          All-cons (λ row. length row ≡ 1) (1 ∷ []) ((2 ∷ []) ∷ (1 ∷ []) ∷ []) refl
          (All-cons (λ row. length row ≡ 1) (2 ∷ []) ((1 ∷ []) ∷ []) refl
          (All-cons (λ row. length row ≡ 1) (1 ∷ []) [] refl (All-nil (λ row. length row ≡ 1))));
      nodes =
          All-cons (λ n. n < 3) 1 (2 ∷ 1 ∷ []) (omega arith)
          (All-cons (λ n. n < 3) 2 (1 ∷ []) (omega arith) (All-cons (λ n. n < 3) 1 [] (omega arith) (All-nil (λ n. n < 3))));
      numbered = (omega arith, (omega arith, (omega arith, tt)));
      appears = appears;
    }

pub swap_meets_tail : PathsRelate (graph_of tail_swap_rows) (Meet (graph_of swap_rows) (graph_of tail_rows))
swap_meets_tail = product_meet 1 (graph_of swap_rows) (graph_of tail_rows) both in_swap in_tail meet_graph.graph product meet_graph.complete swap

-- a word with a letter leads to the second node of the tail
stays : (u : Word) → IsOver 1 u → path (graph_of tail_rows) 1 u ≡ Some 1
stays [] over = refl
stays (zero ∷ u) over = stays u over.1
stays (suc a ∷ u) over = absurd (omega (arith, over.0))

-- and each word to the one node of the point
at_point : (u : Word) → IsOver 1 u → path (graph_of point_rows) 0 u ≡ Some 0
at_point [] over = refl
at_point (zero ∷ u) over = at_point u over.1
at_point (suc a ∷ u) over = absurd (omega (arith, over.0))

-- the join relates each word to a
to_letter : (u : Word) → IsOver 1 u → Join 1 (graph_of swap_rows) (graph_of tail_rows) u a1
to_letter [] over =
    (join_congruence 1 (graph_of swap_rows) (graph_of tail_rows) swap tail).transitive [] a2 a1
    (join_has_left 1 (graph_of swap_rows) (graph_of tail_rows) swap [] a2 (0, refl, refl))
    (join_has_right 1 (graph_of swap_rows) (graph_of tail_rows) tail a2 a1 (1, refl, refl))
to_letter (zero ∷ u) over = join_has_right 1 (graph_of swap_rows) (graph_of tail_rows) tail (0 ∷ u) a1 (1, stays u over.1, refl)
to_letter (suc a ∷ u) over = absurd (omega (arith, over.0))

pub swap_joins_tail : PathsRelate (graph_of point_rows) (Join 1 (graph_of swap_rows) (graph_of tail_rows))
swap_joins_tail u v = (
  λ h.
      let over = (table_congruence 1 (graph_of point_rows) point).over u v h in
      let known = join_congruence 1 (graph_of swap_rows) (graph_of tail_rows) swap tail in
      known.transitive u a1 v (to_letter u over.0) (known.symmetric v a1 (to_letter v over.1)),
  λ h. (0, at_point u h.left, at_point v h.right),
)

-- 1 and a lead from the root to one node, and not from the second
pub not_two_sided : IsTwoSidedTable (graph_of right_pair_rows) → ⊥
not_two_sided h =
    let at = h [] a1 1 (0, refl, refl) (omega arith) in
    apart at.0 at.1 at.2
  where
    apart : (m : ℕ) → path (graph_of right_pair_rows) 1 [] ≡ Some m → path (graph_of right_pair_rows) 1 a1 ≡ Some m → ⊥
    apart m e d = let same : ◌≡◌ {A = ℕ} 1 2 = cc in omega (arith, same)
