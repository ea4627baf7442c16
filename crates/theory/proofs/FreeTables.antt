-- The tables of low index of the free monoid with one generator.
use Rattle.std.proofs.Common.{◌≡◌, ℕ, zero, suc, ◌<◌, List, [], ◌∷◌, length, refl, sym, ap, subst, subst₂, arith, inl, inr, Some, None}
use Rattle.theory.specs.Listing.{IsListOf}
use Rattle.theory.specs.Graph.{target}
use Rattle.theory.specs.LowIndex.{Rows, graph_of, IsLowIndex, TableLess}
use Rattle.theory.specs.Examples.{free_one, point_rows, swap_rows, tail_rows}
use Rattle.theory.proofs.Counting.{IsIn}
use Rattle.theory.proofs.Listings.{list_from_ascending}
use Rattle.theory.proofs.TableLaws.{table_order}
use Rattle.theory.proofs.Related.{none_contained}
use Rattle.std.proofs.lemmas.List.Elements.{All-cons, All-nil, All-head, All-tail}

row_of_one : (row : List ℕ) → length row ≡ 1 → (a : ℕ) × (row ≡ a ∷ [])
row_of_one [] e = absurd (omega arith)
row_of_one (a ∷ []) e = (a, refl)
row_of_one (a ∷ b ∷ row) e = absurd (omega arith)

one_node : (a : ℕ) → IsLowIndex free_one 2 ((a ∷ []) ∷ []) → IsIn {X = Rows} ((a ∷ []) ∷ []) (point_rows ∷ swap_rows ∷ tail_rows ∷ [])
one_node zero h = inl refl
one_node (suc a) h = let n : suc a < 1 = All-head (λ n. n < 1) (suc a) [] h.standard.nodes in absurd (omega arith)

two_nodes : (a b : ℕ) → IsLowIndex free_one 2 ((a ∷ []) ∷ (b ∷ []) ∷ [])
    → IsIn {X = Rows} ((a ∷ []) ∷ (b ∷ []) ∷ []) (point_rows ∷ swap_rows ∷ tail_rows ∷ [])
two_nodes a b h =
    go a b (first (h.standard.appears 1 (omega arith) (omega arith))) (All-head (λ n. n < 2) b [] (All-tail (λ n. n < 2) a (b ∷ []) h.standard.nodes))
  where
    first : (before : ℕ) × (letter : ℕ) × (before < 1) × (target (graph_of ((a ∷ []) ∷ (b ∷ []) ∷ [])) before letter ≡ Some 1) → a ≡ 1
    first t = at t.0 t.1 t.2 t.3
      where
        at : (before letter : ℕ) → before < 1 → target (graph_of ((a ∷ []) ∷ (b ∷ []) ∷ [])) before letter ≡ Some 1 → a ≡ 1
        at zero zero h e = cc
        at zero (suc letter) h e = cc
        at (suc before) letter h e = absurd (omega arith)

    go : (a b : ℕ) → a ≡ 1 → b < 2 → IsIn {X = Rows} ((a ∷ []) ∷ (b ∷ []) ∷ []) (point_rows ∷ swap_rows ∷ tail_rows ∷ [])
    go a zero e l = inr (inl (ap (λ x. (x ∷ []) ∷ (0 ∷ []) ∷ []) e))
    go a (suc zero) e l = inr (inr (inl (ap (λ x. (x ∷ []) ∷ (1 ∷ []) ∷ []) e)))
    go a (suc (suc b)) e l = absurd (omega arith)

-- each table of at most two nodes is one of three
only_three : (rows : Rows) → IsLowIndex free_one 2 rows → IsIn rows (point_rows ∷ swap_rows ∷ tail_rows ∷ [])
only_three [] h = absurd (omega (arith, h.standard.rooted))
only_three (r ∷ []) h =
    let at = row_of_one r (All-head (λ row. length row ≡ 1) r [] h.standard.width) in
    subst (λ (x : List ℕ). IsIn {X = Rows} (x ∷ []) (point_rows ∷ swap_rows ∷ tail_rows ∷ [])) (sym at.1)
    (one_node at.0 (subst (λ (x : List ℕ). IsLowIndex free_one 2 (x ∷ [])) at.1 h))
only_three (r ∷ q ∷ []) h =
    let at = row_of_one r (All-head (λ row. length row ≡ 1) r (q ∷ []) h.standard.width) in
    let to = row_of_one q (All-head (λ row. length row ≡ 1) q [] (All-tail (λ row. length row ≡ 1) r (q ∷ []) h.standard.width)) in
    subst₂ (λ (x y : List ℕ). IsIn {X = Rows} (x ∷ y ∷ []) (point_rows ∷ swap_rows ∷ tail_rows ∷ [])) (sym at.1) (sym to.1)
    (two_nodes at.0 to.0 (subst₂ (λ (x y : List ℕ). IsLowIndex free_one 2 (x ∷ y ∷ [])) at.1 to.1 h))
only_three (r ∷ q ∷ s ∷ rest) h = absurd (omega (arith, h.size))

-- a table of one node or two, whose letter leads first to node `a`
point_is : IsLowIndex free_one 2 point_rows
point_is =
    record {
      standard = record {
        rooted = omega arith;
        width = All-cons (λ row. length row ≡ 1) (0 ∷ []) [] refl (All-nil (λ row. length row ≡ 1));
        nodes = All-cons (λ n. n < 1) 0 [] (omega arith) (All-nil (λ n. n < 1));
        numbered = (omega arith, tt);
        appears = λ node h k. absurd (omega arith);
      };
      compatible = λ node r s h m. absurd (none_contained (r, s) m);
      size = omega arith;
    }

two_are : (b : ℕ) → b < 2 → IsLowIndex free_one 2 ((1 ∷ []) ∷ (b ∷ []) ∷ [])
two_are b l =
    record {
      standard = record {
        rooted = omega arith;
        width =
            All-cons (λ row. length row ≡ 1) (1 ∷ []) ((b ∷ []) ∷ []) refl
            (All-cons (λ row. length row ≡ 1) (b ∷ []) [] refl (All-nil (λ row. length row ≡ 1)));
        nodes = All-cons (λ n. n < 2) 1 (b ∷ []) (omega arith) (All-cons (λ n. n < 2) b [] l (All-nil (λ n. n < 2)));
        numbered = (omega arith, (omega arith, tt));
        appears = appears;
      };
      compatible = λ node r s h m. absurd (none_contained (r, s) m);
      size = omega arith;
    }
  where
    appears : (node : ℕ) → 0 < node → node < 2
        → (before : ℕ) × (letter : ℕ) × (before < node) × (target (graph_of ((1 ∷ []) ∷ (b ∷ []) ∷ [])) before letter ≡ Some node)
    appears zero h k = absurd (omega arith)
    appears (suc zero) h k = (0, 0, omega arith, refl)
    appears (suc (suc n)) h k = absurd (omega arith)

-- they are the list of low index
pub free_tables : IsListOf (IsLowIndex free_one 2) TableLess None (point_rows ∷ swap_rows ∷ tail_rows ∷ [])
free_tables =
    list_from_ascending (IsLowIndex free_one 2) TableLess (table_order free_one 2 (omega arith)) None (point_rows ∷ swap_rows ∷ tail_rows ∷ [])
    (tt, (refl, (refl, tt))) has (λ rows h _. only_three rows h)
  where
    has : (rows : Rows) → IsIn rows (point_rows ∷ swap_rows ∷ tail_rows ∷ []) → IsLowIndex free_one 2 rows
    has rows (inl e) = subst (λ (x : Rows). IsLowIndex free_one 2 x) (sym e) point_is
    has rows (inr (inl e)) = subst (λ (x : Rows). IsLowIndex free_one 2 x) (sym e) (two_are 0 (omega arith))
    has rows (inr (inr (inl e))) = subst (λ (x : Rows). IsLowIndex free_one 2 x) (sym e) (two_are 1 (omega arith))
    has rows (inr (inr (inr h))) = absurd h
